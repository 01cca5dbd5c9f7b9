use Rattle.hg_script.proofs.EndingLemmas.{left_world}
use Rattle.hg_script.proofs.script.run_script.Goals as goal

pub returns-clause-ran : goal.returns-clause-ran
returns-clause-ran g c = (_, left_world _ _ c.in_ok-run_fleet.ensures.ran)

pub returns-clause-printed : goal.returns-clause-printed
returns-clause-printed g c = (_, c.in_ok-run_fleet.ensures.printed)
