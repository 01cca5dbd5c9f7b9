use Rattle.hg_log.proofs.TextLemmas.{grows_by_line}
use Rattle.hg_why.proofs.told.Telling.write_remedy.Goals as goal

pub returns-in-Some : goal.returns-in-Some
returns-in-Some g c = grows_by_line _ c.write_appended.result _ _ _ c.write_appended.ensures
