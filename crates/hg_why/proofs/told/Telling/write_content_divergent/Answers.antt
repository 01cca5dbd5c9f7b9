use Rattle.hg_why.proofs.ReasonLemmas.{drawn_lines}
use Rattle.hg_why.proofs.told.Telling.write_content_divergent.Goals as goal

pub returns-in-Overfull : goal.returns-in-Overfull
returns-in-Overfull g c = drawn_lines c.write_about.result c.args.predecessor _ _ c.write_about.ensures
