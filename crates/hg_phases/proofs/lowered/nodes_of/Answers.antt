use Rattle.std.proofs.Common.{get_or, arith}
use Rattle.std.proofs.lemmas.List.Elements.{Contains-get_or}
use Rattle.std.proofs.lemmas.Result.{MatchResult-from_err}
use Rattle.hg_phases.specs.declared.phase.Phase.TheVariants.{Public}
use Rattle.hg_phases.specs.declared.lowered.LoweredPlace.{LoweredPlace}
use Rattle.hg_phases.proofs.lowered.nodes_of.Goals as goal

pub returns-in_err-push-in-Some-clause-memory : goal.returns-in_err-push-in-Some-clause-memory
returns-in_err-push-in-Some-clause-memory c =
    let any : LoweredPlace = record { place = 0; had = Public } in
    let i = c.loop-lowered.lowered-index in
    MatchResult-from_err c.from_residual.result _ _ c.from_residual.ensures.0
    (λ _. (get_or c.args.log.now i any, Contains-get_or c.args.log.now i any (omega arith), c.if-lowered-before.true))
