use Rattle.std.proofs.Common.{[], sym}
use Rattle.std.proofs.lemmas.List.{append-nil}
use Rattle.std.proofs.lemmas.Result.{on_ok_weaker}
use Rattle.hg_log.proofs.DrawingLemmas.{HasId-extended}
use Rattle.hg_why.proofs.named.push_named.Goals as goal

pub returns : goal.returns
returns c =
    let line = c.push_short_id.new.line.items in
    on_ok_weaker c.push_short_id.result
    (λ is. HasId-extended c.args.node c.push_title.new.line.items line line is ([], sym (append-nil line)))
    c.push_short_id.ensures
