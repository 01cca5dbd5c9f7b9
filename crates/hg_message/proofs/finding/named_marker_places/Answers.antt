use Rattle.std.proofs.lemmas.Result.{IfOk-weaker}
use Rattle.hg_message.proofs.finding.named_marker_places.Goals as goal

pub returns-in-Served : goal.returns-in-Served
returns-in-Served c = rw c.in-Served.is c.relevant_places.ensures

pub returns-in-Whole : goal.returns-in-Whole
returns-in-Whole c =
    rw c.in-Whole.is (IfOk-weaker c.marker_places.result _ _ (λ found are pins named. are) c.marker_places.ensures)
