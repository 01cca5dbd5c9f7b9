use Rattle.std.proofs.Common.{◌∙◌, All, refl, subst, sym, true≢false}
use Rattle.std.proofs.lemmas.List.{take_all}
use Rattle.std.proofs.lemmas.List.Elements.{All-contains, All-more}
use Rattle.hgfleet.specs.Trying.{IsMessageTaken}
use Rattle.hgfleet.proofs.trying.are_taken.Goals as goal

pub loop-answer-preserved : goal.loop-answer-preserved
loop-answer-preserved c =
    All-more IsMessageTaken c.args.answers.now c.loop-answer.answer-index c.answer-item.result c.loop-answer-test.true
    c.loop-answer.invariant (subst IsMessageTaken c.answer-item.is (c.is_taken.ensures.0 c.if-not-is_taken.false))

pub returns-then-not-is_taken : goal.returns-then-not-is_taken
returns-then-not-is_taken c = (
  λ t. absurd (true≢false (sym t)),
  λ all. absurd (true≢false (sym (c.is_taken.ensures.1 (All-contains IsMessageTaken c.args.answers.now
      c.answer-item.result all (c.loop-answer.answer-index, c.loop-answer-test.true, sym c.answer-item.is)))
      ∙ c.if-not-is_taken.true)),
)

pub returns : goal.returns
returns c = (
  λ _. subst (All IsMessageTaken) (take_all c.loop-answer.answer-index c.args.answers.now c.loop-answer-test.false)
      c.loop-answer.invariant,
  λ _. refl,
)
