use Rattle.std.proofs.Common.{List, subst}
use Rattle.std.proofs.lemmas.Result.{IfOk-weaker}
use Rattle.std.specs.Prelude.{Option, IfSome}
use Rattle.hg_changeset.specs.declared.node.Node.{Node}
use Rattle.hg_instab.specs.declared.amend.Amend.{Amend}
use Rattle.hg_instab.specs.Amend.{IsPlainAmend}
use Rattle.hg_instab.proofs.turns.divergence_turns.Goals as goal

pub returns-in-Some-clause-told : goal.returns-in-Some-clause-told
returns-in-Some-clause-told c =
    let t = c.args.replica.now in
    let change = c.args.change.now in
    let some : IfSome c.amend_of.result (IsPlainAmend t change c.args.sets.now.near_forks) =
    subst (λ (xs : List Node). IfSome c.amend_of.result (IsPlainAmend t change xs)) c.near_forks.ensures
    c.amend_of.ensures in
    let plain : IsPlainAmend t change c.args.sets.now.near_forks c.in-Some.amend =
    subst (λ (o : Option Amend). IfSome o (IsPlainAmend t change c.args.sets.now.near_forks)) c.in-Some.is some in
    IfOk-weaker c.turns_by_amend.result _ _ (λ turns told s v is seeded at. told s change v is plain at)
    c.turns_by_amend.ensures.told
