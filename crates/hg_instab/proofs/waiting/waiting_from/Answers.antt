use Rattle.std.proofs.Common.{List, ℕ, inl, inr, subst}
use Rattle.std.proofs.lemmas.List.{take_all}
use Rattle.std.proofs.lemmas.List.Elements.{Contains-get_or}
use Rattle.hg_changeset.proofs.ListLemmas.{Contains-none}
use Rattle.hg_instab.specs.Settling.{WaitFrom}
use Rattle.hg_instab.proofs.WaitingLemmas.{wait-more}
use Rattle.hg_instab.proofs.waiting.waiting_from.Goals as goal

pub loop-other-init : goal.loop-other-init
loop-other-init c k = (
  λ h. inl ((c.in_ok-waiting.ensures.answer k).0 h),
  λ h. elim h [
    | inl place ↦ (c.in_ok-waiting.ensures.answer k).1 place
    | inr other ↦ absurd (Contains-none other.0 other.1)
  ],
)

pub wait_beside_place-requires : goal.wait_beside_place-requires
wait_beside_place-requires c =
    c.requires _ (Contains-get_or c.args.others.now c.loop-other.other-index 0 c.loop-other-test.true)

pub loop-other-preserved : goal.loop-other-preserved
loop-other-preserved c =
    wait-more c.args.beside c.args.graph.now c.args.places.now c.args.others.now c.loop-other.other-index 0
    c.loop-other.waiting c.wait_beside_place.new.waiting c.loop-other-test.true c.loop-other.invariant
    c.in_ok-wait_beside_place.ensures

pub returns : goal.returns
returns c =
    subst (λ (others : List ℕ). WaitFrom c.args.beside c.args.graph.now c.args.places.now others c.loop-other.waiting)
    (take_all c.loop-other.other-index c.args.others.now c.loop-other-test.false) c.loop-other.invariant
