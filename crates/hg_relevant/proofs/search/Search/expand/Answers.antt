use Rattle.std.proofs.Common.{◌≡◌, ◌∙◌, List, ℕ, Contains, ap, length, subst, sym}
use Rattle.hg_marker.specs.Fields.{Fields}
use Rattle.hg_marker.specs.Parents.{recorded_parents}
use Rattle.hg_obsstore.specs.Markers.{IsAt, ArePlaces}
use Rattle.hg_relevant.specs.Relevant.{IsPrune}
use Rattle.hg_relevant.specs.Search.{Finds}
use Rattle.hg_relevant.proofs.SearchLemmas.{expands, finds-touching, place-within}
use Rattle.hg_relevant.proofs.search.Search.expand.Goals as goal

-- the places that were handed out are those of the markers that are so
told : (P : Fields → Type 0) (ms : List Fields) (given places : List ℕ) → places ≡ given → ArePlaces P ms given
    → ArePlaces P ms places
told P ms given places same are = subst (λ (ps : List ℕ). ArePlaces P ms ps) (sym same) are

pub find_all-requires : goal.find_all-requires
find_all-requires c =
    let are = told (λ m. Contains m.successors c.args.node) c.args.store.now _ c.as_successor.result.now
    c.as_successor.ensures c.mentions-mentions.ensures.successor in
    rw c.requires.found (place-within c.args.store.now _ c.as_successor.result.now are)

pub find_prunes-requires-clause-within : goal.find_prunes-requires-clause-within
find_prunes-requires-clause-within c =
    let are = told (λ m. m.predecessor ≡ c.args.node) c.args.store.now _ c.as_predecessor.result.now
    c.as_predecessor.ensures c.mentions-mentions.ensures.predecessor in
    rw c.markers-markers.ensures.markers (place-within c.args.store.now _ c.as_predecessor.result.now are)

pub find_prunes-requires-2-clause-within : goal.find_prunes-requires-2-clause-within
find_prunes-requires-2-clause-within c =
    let are = told (λ m. Contains (recorded_parents m) c.args.node) c.args.store.now _ c.as_parent.result.now
    c.as_parent.ensures c.mentions-mentions.ensures.parent in
    rw c.markers-markers.ensures.markers (place-within c.args.store.now _ c.as_parent.result.now are)

pub mark_expanded-requires : goal.mark_expanded-requires
mark_expanded-requires c =
    let are = told (λ m. m.predecessor ≡ c.args.node) c.args.store.now _ c.as_predecessor-2.result.now
    c.as_predecessor-2.ensures c.mentions-mentions.ensures.predecessor in
    record {
      within = rw (ap length
          (c.in_ok-find_prunes-2.ensures.expanded ∙ c.in_ok-find_prunes.ensures.expanded ∙
          c.in_ok-find_all.ensures.expanded) ∙ c.requires.expanded)
          (place-within c.args.store.now _ c.as_predecessor-2.result.now are);
    }

pub returns : goal.returns
returns c =
    let ms = c.args.store.now in
    let in_s = c.as_successor.result.now in
    let in_p = c.as_predecessor.result.now in
    let in_c = c.as_parent.result.now in
    let expanded = c.as_predecessor-2.result.now in
    let are_s = told (λ m. Contains m.successors c.args.node) ms _ in_s c.as_successor.ensures
    c.mentions-mentions.ensures.successor in
    let are_p = told (λ m. m.predecessor ≡ c.args.node) ms _ in_p c.as_predecessor.ensures
    c.mentions-mentions.ensures.predecessor in
    let are_c = told (λ m. Contains (recorded_parents m) c.args.node) ms _ in_c c.as_parent.ensures
    c.mentions-mentions.ensures.parent in
    let are_expanded = told (λ m. m.predecessor ≡ c.args.node) ms _ expanded c.as_predecessor-2.ensures
    c.mentions-mentions.ensures.predecessor in
    let here : c.markers-markers.result.now ≡ ms = c.markers-markers.ensures.markers in
    expands ms c.args.node expanded c.args.self.now c.find_prunes-2.new.self c.mark_expanded.new.self are_expanded
    (finds-touching ms c.args.node in_s in_p in_c c.args.self.now c.find_all.new.self c.find_prunes.new.self
    c.find_prunes-2.new.self
    are_s are_p are_c
    c.in_ok-find_all.ensures
    (subst (λ (xs : List Fields). Finds (λ i. Contains in_p i × IsAt IsPrune xs i) c.find_all.new.self
    c.find_prunes.new.self) here c.in_ok-find_prunes.ensures)
    (subst (λ (xs : List Fields). Finds (λ i. Contains in_c i × IsAt IsPrune xs i) c.find_prunes.new.self
    c.find_prunes-2.new.self) here c.in_ok-find_prunes-2.ensures))
    c.mark_expanded.ensures.expanded c.mark_expanded.ensures.marks c.mark_expanded.ensures.found
    c.mark_expanded.ensures.queue
