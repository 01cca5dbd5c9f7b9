use Rattle.std.proofs.Common.{◌∙◌, Bool, IfOk, List, [], refl, subst, sym, ℕ}
use Rattle.std.proofs.KnownBytes.{Appends-nil}
use Rattle.std.proofs.lemmas.Result.{IfOk-weaker}
use Rattle.std.specs.Io.KnownBytes.{Appends}
use Rattle.hgfleet.specs.Trying.{AreAnswersToldIf}
use Rattle.hgfleet.proofs.trying.take_messages.Goals as goal

pub returns-then-tells_answers-clause-written : goal.returns-then-tells_answers-clause-written
returns-then-tells_answers-clause-written g c =
    let held = g.W.Write.contents c.args.writer.now in
    let holds = g.W.Write.contents c.write_trial.new.writer in
    subst (λ (b : Bool). IfOk c.write_trial.result
    (λ tried. (text : List ℕ) × AreAnswersToldIf b tried.answers.items text × Appends held holds text))
    (sym c.if-tells_answers.true ∙ c.tells_answers.ensures) c.write_trial.ensures.written

pub returns-else-tells_answers-clause-written : goal.returns-else-tells_answers-clause-written
returns-else-tells_answers-clause-written g c =
    IfOk-weaker c.take_untold.result _ _
    (λ tried _. (
      [],
      subst (λ (b : Bool). AreAnswersToldIf b tried.answers.items [])
          (sym c.if-tells_answers.false ∙ c.tells_answers.ensures) refl,
      Appends-nil _,
    ))
    c.take_untold.ensures.answers
