use Rattle.std.proofs.lemmas.Result.{on_ok_weaker}
use Rattle.hg_preview.proofs.lines.Scene.write_one.Goals as goal

pub returns : goal.returns
returns g c =
    on_ok_weaker c.write_line.result (λ h. (h.0, (c.push_named.new.line.items, c.in_ok-push_named.ensures, h.1), h.2))
    c.write_line.ensures.written
