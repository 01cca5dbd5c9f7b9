use Rattle.std.proofs.Common.{◌∙◌, sym, true≢false}
use Rattle.hgfleet.proofs.commands.run_noted.Goals as goal

pub returns-then-outcome-eq0-clause-done : goal.returns-then-outcome-eq0-clause-done
returns-then-outcome-eq0-clause-done g c =
    let done = c.in_ok-outcome in (
      done.outcome.refused,
      (done.outcome.fleet, done.ensures.ran, done.ensures.written),
      λ strict. c.if-outcome-eq0.true,
    )

pub returns-clause-done : goal.returns-clause-done
returns-clause-done g c =
    let done = c.in_ok-outcome in (
      done.outcome.refused,
      (done.outcome.fleet, done.ensures.ran, done.ensures.written),
      λ strict. absurd (true≢false (sym strict ∙ c.if-is_strict.false)),
    )
