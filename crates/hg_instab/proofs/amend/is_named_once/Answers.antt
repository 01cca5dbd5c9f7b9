use Rattle.std.proofs.Common.{ℕ, List, length, Contains, ◌≡◌, sym, subst, ◌∙◌}
use Rattle.std.proofs.lemmas.Bool.{eqb-true}
use Rattle.hg_marker.specs.Fields.{Fields}
use Rattle.hg_obsstore.specs.Markers.{ArePlaces}
use Rattle.hg_instab.proofs.AmendLemmas.{one-place, no-place}
use Rattle.hg_instab.proofs.amend.is_named_once.Goals as goal

pub returns-then-is_empty : goal.returns-then-is_empty
returns-then-is_empty c t =
    let ms = c.args.store.now in
    let node = c.args.node in
    let before = c.as_predecessor.result.now in
    let after = c.as_successor.result.now in
    let none : length before ≡ 0 = eqb-true (length before) 0 (sym c.is_empty.ensures ∙ c.if-is_empty.true) in
    let one : length after ≡ 1 = eqb-true (length after) 1 t in
    record {
      last = no-place ms before (subst (λ (ps : List ℕ). ArePlaces (λ (m : Fields). m.predecessor ≡ node) ms ps)
          (sym c.as_predecessor.ensures) c.mentions-mentions.ensures.predecessor) none;
      once = one-place ms after (subst (λ (ps : List ℕ). ArePlaces (λ (m : Fields). Contains m.successors node) ms ps)
          (sym c.as_successor.ensures) c.mentions-mentions.ensures.successor) one;
    }
