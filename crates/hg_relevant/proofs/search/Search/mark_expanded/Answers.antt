use Rattle.std.proofs.Common.{arith, ◌∙◌, ◌+◌, ◌<◌, length, ℕ, List, true, refl, subst, get_or, take, length-set}
use Rattle.std.proofs.Common.{Contains, ◌↔◌, ◌⊎◌}
use Rattle.std.proofs.lemmas.List.{get_or_default, take_all}
use Rattle.std.proofs.lemmas.List.Elements.{Contains-get_or}
use Rattle.hg_changeset.proofs.ListLemmas.{Contains-taken}
use Rattle.hg_relevant.specs.Search.{IsMarked}
use Rattle.hg_relevant.proofs.SearchLemmas.{marked-more}
use Rattle.hg_relevant.proofs.search.Search.mark_expanded.Goals as goal

pub index_mut-requires : goal.index_mut-requires
index_mut-requires c =
    let within : get_or c.args.places.now c.loop-place.place-index 0 < length c.loop-place.self.expanded.items =
    rw c.loop-place.invariant.marks
    (c.requires.within _ (Contains-get_or c.args.places.now c.loop-place.place-index 0 c.loop-place-test.true)) in
    omega (arith, within, c.loop-place.self.expanded.ok)

pub loop-place-preserved : goal.loop-place-preserved
loop-place-preserved c =
    let marks = c.loop-place.self.expanded.items in
    let places = c.args.places.now in
    let i = c.loop-place.place-index in
    let p = get_or places i 0 in
    record {
      expanded = marked-more marks _ (Contains (take i places)) (Contains (take (i + 1) places)) p
          (rw c.loop-place.invariant.marks
          (c.requires.within p (Contains-get_or places i 0 c.loop-place-test.true))) refl
          (λ k. Contains-taken places i p k c.loop-place-test.true (get_or_default places i p 0 c.loop-place-test.true))
          (IsMarked c.args.self.now.expanded.items) c.loop-place.invariant.expanded;
      marks = length-set marks p true ∙ c.loop-place.invariant.marks;
      found = c.loop-place.invariant.found;
      queue = c.loop-place.invariant.queue;
    }

pub returns-clause-expanded : goal.returns-clause-expanded
returns-clause-expanded c =
    subst (λ (ps : List ℕ). (i : ℕ) → IsMarked c.loop-place.self.expanded.items i
    ↔ (IsMarked c.args.self.now.expanded.items i ⊎ Contains ps i))
    (take_all c.loop-place.place-index c.args.places.now c.loop-place-test.false) c.loop-place.invariant.expanded
