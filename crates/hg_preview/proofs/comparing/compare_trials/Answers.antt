use Rattle.hg_preview.proofs.ComparingLemmas.{states_compared}
use Rattle.hg_preview.proofs.comparing.compare_trials.Goals as goal

pub returns : goal.returns
returns g c =
    states_compared c.kept.result.now c.kept-2.result.now c.args.mine.now c.args.theirs.now _ _
    c.write_comparison.result c.kept.ensures.replica c.kept-2.ensures.replica c.write_comparison.ensures.answer
    c.write_comparison.ensures.written
