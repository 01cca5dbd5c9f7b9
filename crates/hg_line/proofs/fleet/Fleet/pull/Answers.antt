use Rattle.std.proofs.Common.{refl, inl, inr, ap, is_some}
use Rattle.std.proofs.lemmas.Result.{err_from_is_err_and}
use Rattle.hg_line.specs.declared.command.Command.TheVariants as command
use Rattle.hg_fleet.specs.Pulls.{answers_of}
use Rattle.hg_line.specs.Events.{no_trace}
use Rattle.hg_line.proofs.EndingLemmas.{fault_of_command, no_place, none_told, pull_absent, unknown_fault}
use Rattle.hg_line.proofs.LineLemmas.{pulls, pulls_ran}
use Rattle.hg_line.proofs.fleet.Fleet.pull.Goals as goal

pub returns-in_err-giver-clause-err : goal.returns-in_err-giver-clause-err
returns-in_err-giver-clause-err c =
    let p = err_from_is_err_and c.from_residual.result c.from_residual.ensures.1 in
    let missing = no_place c.args.self.now _ c.in_err-giver.ensures.err.1 in
    rw (p.1, p.2) (
      unknown_fault c.args.self.now (command.Pull c.args.scope c.args.to c.args.from) _ c.in_err-giver.ensures.err.0
          (inr missing),
      (no_trace, refl),
    )

pub returns-in_err-taker-clause-err : goal.returns-in_err-taker-clause-err
returns-in_err-taker-clause-err c =
    let p = err_from_is_err_and c.from_residual-in_err-taker.result c.from_residual-in_err-taker.ensures.1 in
    let missing = no_place c.args.self.now _ c.in_err-taker.ensures.err.1 in
    rw (p.1, p.2) (
      unknown_fault c.args.self.now (command.Pull c.args.scope c.args.to c.args.from) _ c.in_err-taker.ensures.err.0
          (inl missing),
      (no_trace, refl),
    )

pub returns-in_err-pulled-clause-err : goal.returns-in_err-pulled-clause-err
returns-in_err-pulled-clause-err c =
    let p = err_from_is_err_and c.from_residual-in_err-pulled.result c.from_residual-in_err-pulled.ensures.1 in
    rw (p.1, p.2) (ap is_some c.in_ok-taker.ensures.ok, (no_trace, c.in_err-pulled.ensures.unchanged))

pub returns-in-None-clause-err : goal.returns-in-None-clause-err
returns-in-None-clause-err c =
    let is = rw c.in-None.is at c.in_ok-pulled.ensures.pulled in (
      pull_absent c.args.self.now c.args.scope c.args.to c.args.from c.in_ok-taker.taker c.in_ok-giver.giver
          c.in_ok-giver.ensures.ok c.in_ok-taker.ensures.ok is.0,
      (no_trace, is.1),
    )

pub returns-in_err-check_pulled-in-Some-clause-err : goal.returns-in_err-check_pulled-in-Some-clause-err
returns-in_err-check_pulled-in-Some-clause-err c =
    let p = err_from_is_err_and c.from_residual-in_err-check_pulled-in-Some.result
    c.from_residual-in_err-check_pulled-in-Some.ensures.1 in
    let is = rw c.in-Some.is at c.in_ok-pulled.ensures.pulled in
    rw (p.1, p.2) (
      fault_of_command _ c.args.self.now (command.Pull c.args.scope c.args.to c.args.from) _
          (λ absent. absurd (none_told (answers_of c.in-Some.pulled) is.1 absent))
          (ap is_some c.in_ok-taker.ensures.ok) c.in_err-check_pulled-in-Some.ensures.fault,
      pulls_ran _ _ _ _ _ _ is.0,
    )

pub returns-in_ok-check_pulled-in-Some-clause-ok : goal.returns-in_ok-check_pulled-in-Some-clause-ok
returns-in_ok-check_pulled-in-Some-clause-ok c =
    let is = rw c.in-Some.is at c.in_ok-pulled.ensures.pulled in
    pulls c.args.self.now c.args.scope c.args.to c.args.from c.in_ok-giver.giver c.in_ok-taker.taker _ _
    c.in_ok-giver.ensures.ok c.in_ok-taker.ensures.ok is.0 c.in_ok-check_pulled-in-Some.ensures.printed refl refl refl
