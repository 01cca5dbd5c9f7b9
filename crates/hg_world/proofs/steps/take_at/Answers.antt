use Rattle.std.proofs.Common.{◌≡◌, Some, None, inr, refl, ap, List}
use Rattle.std.specs.Prelude.{slice_get}
use Rattle.hg_world.specs.Runs.{bytes_of, snapshot}
use Rattle.hg_world.proofs.Places.{message_at, told_ok, told_err}
use Rattle.hg_world.proofs.steps.take_at.Given.{Over}
use Rattle.hg_world.proofs.steps.take_at.Goals as goal
use Rattle.hg_world.proofs.steps.take_at.Goals.{After-as_slice-bytes}

message : (g : Over) (c : After-as_slice-bytes g)
    → slice_get (bytes_of c.args.messages.now) c.args.message ≡ Some c.as_slice-bytes.result.now
message g c =
    message_at c.args.messages.now c.args.message c.index-messages-message.result c.as_slice-bytes.result.now
    c.if-message-messages.false c.index-messages-message.is c.as_slice-bytes.ensures.value

pub returns-in-Ok-answer : goal.returns-in-Ok-answer
returns-in-Ok-answer g c =
    let h = c.in-Ok.ensures in
    let k = told_ok _ _ c.in-Ok.answer c.in-Ok-answer.change c.in-Ok-answer.is h.2.2 in
    let there = message g (goal.at.returns-in-Ok-answer g c).After-as_slice-bytes in
    (Some h.2.0, (h.0, k.0, h.1, (c.as_slice-bytes.result.now, there, h.2.1), k.1, k.2, refl))

pub returns-in-Err-answer : goal.returns-in-Err-answer
returns-in-Err-answer g c =
    let h = c.in-Ok.ensures in
    let k = told_err _ _ c.in-Ok.answer c.in-Err-answer.fault c.in-Err-answer.is h.2.2 in
    let there = message g (goal.at.returns-in-Err-answer g c).After-as_slice-bytes in (
      None,
      (
        inr (h.0, h.1, (c.as_slice-bytes.result.now, there, h.2.0, h.2.1, k.0)),
        ap (λ (ns : List g.row.S.Denot). snapshot ns c.args.messages.now) k.1,
      ),
    )

pub returns-in-Err : goal.returns-in-Err
returns-in-Err g c =
    let h = c.in-Err.ensures in
    let there = message g (goal.at.returns-in-Err g c).After-as_slice-bytes in (
      None,
      (
        inr (h.0, h.1, (c.as_slice-bytes.result.now, there, h.2.0)),
        ap (λ (ns : List g.row.S.Denot). snapshot ns c.args.messages.now) h.2.1,
      ),
    )
