use Rattle.std.proofs.Common.{◌≡◌, Some, slice_get, sym, subst}
use Rattle.hg_message.specs.declared.scope.Scope.{Scope}
use Rattle.hg_world.specs.Runs.{Snapshot}
use Rattle.hg_view.specs.Kept.{KeptValue}
use Rattle.hg_fleet.specs.Pulls.{AreLeftOut}
use Rattle.hg_fleet.proofs.PairLemmas.{true_noted}
use Rattle.hg_fleet.proofs.fleet.Fleet.left_out.Goals as goal

pub in_common-requires : goal.in_common-requires
in_common-requires c = c.self.invariant (c.args.taker, c.args.giver) c.in-Some.asker.now c.in-Some-kept_at.other.now
    (sym c.in-Some.ensures) (sym c.in-Some-kept_at.ensures)

pub invariant_of-self : goal.invariant_of-self
invariant_of-self c = true_noted c.self.inside.world c.self.inside.pairs c.in_common.new.pairs
    (c.args.taker, c.args.giver) c.in-Some.asker.now c.in-Some-kept_at.other.now c.self.invariant
    (sym c.in-Some.ensures) (sym c.in-Some-kept_at.ensures) c.in_common.ensures.noted

pub invariant_of-self-in-Served : goal.invariant_of-self-in-Served
invariant_of-self-in-Served c = true_noted c.self.inside.world c.self.inside.pairs c.in_common.new.pairs
    (c.args.taker, c.args.giver) c.in-Some.asker.now c.in-Some-kept_at.other.now c.self.invariant
    (sym c.in-Some.ensures) (sym c.in-Some-kept_at.ensures) c.in_common.ensures.noted

pub returns-in-Whole-clause-heads : goal.returns-in-Whole-clause-heads
returns-in-Whole-clause-heads c =
    let asker = c.in-Some.asker.now in
    let other = c.in-Some-kept_at.other.now in (
      asker,
      other,
      subst (λ (w : Snapshot KeptValue). slice_get w.nodes c.args.taker ≡ Some asker) c.self.view_is
          (sym c.in-Some.ensures),
      subst (λ (w : Snapshot KeptValue). slice_get w.nodes c.args.giver ≡ Some other) c.self.view_is
          (sym c.in-Some-kept_at.ensures),
      subst (λ (s : Scope). AreLeftOut s asker other c.new.result.items) (sym c.in-Whole.is) c.new.ensures.items,
    )

pub returns-in_ok-heads-in-Served-clause-heads : goal.returns-in_ok-heads-in-Served-clause-heads
returns-in_ok-heads-in-Served-clause-heads c =
    let asker = c.in-Some.asker.now in
    let other = c.in-Some-kept_at.other.now in (
      asker,
      other,
      subst (λ (w : Snapshot KeptValue). slice_get w.nodes c.args.taker ≡ Some asker) c.self.view_is
          (sym c.in-Some.ensures),
      subst (λ (w : Snapshot KeptValue). slice_get w.nodes c.args.giver ≡ Some other) c.self.view_is
          (sym c.in-Some-kept_at.ensures),
      subst (λ (s : Scope). AreLeftOut s asker other c.in_ok-heads-in-Served.heads.items) (sym c.in-Served.is)
          c.in_ok-heads-in-Served.ensures.heads,
    )
