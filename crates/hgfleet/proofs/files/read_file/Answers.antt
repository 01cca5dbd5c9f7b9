use Rattle.std.proofs.Common.{◌∙◌, sym, true≢false}
use Rattle.std.proofs.lemmas.Result.{IfOk-weaker}
use Rattle.hgfleet.proofs.files.read_file.Goals as goal

pub returns-then-names_input : goal.returns-then-names_input
returns-then-names_input g c =
    IfOk-weaker c.read_bytes.result _ _ (λ bytes read. (read.0, λ _. read)) c.read_bytes.ensures

pub returns-in-Ok : goal.returns-in-Ok
returns-in-Ok g c =
    IfOk-weaker c.read_bytes-in-Ok.result _ _
    (λ bytes read. (
      read.0,
      λ is. absurd (true≢false (sym (c.names_input.ensures.1 is) ∙ c.if-names_input.false)),
    )) c.read_bytes-in-Ok.ensures
