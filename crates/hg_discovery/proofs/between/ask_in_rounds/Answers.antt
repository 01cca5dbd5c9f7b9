use Rattle.std.proofs.Common.{◌∙◌, Bool, List, subst}
use Rattle.hg_changeset.specs.declared.node.Node.{Node}
use Rattle.hg_replica.specs.Content.{content_of}
use Rattle.hg_view.specs.Pins.{IsServedUnder}
use Rattle.hg_discovery.specs.Answers.{IsRound}
use Rattle.hg_discovery.specs.Rounds.{AreAnswers}
use Rattle.hg_discovery.proofs.BetweenLemmas.{IsAskedSoFar-round, IsAskedSoFar-done}
use Rattle.hg_discovery.proofs.between.ask_in_rounds.Goals as goal

pub loop-alloc-preserved : goal.loop-alloc-preserved
loop-alloc-preserved c =
    let P = IsServedUnder (content_of c.args.other.now.replica) c.args.other.now.pins in
    let answers = c.in_ok-answers.answers.items in
    let round = subst (λ (said : List Bool). IsRound c.loop-alloc.discovery said c.answer.new.self)
    c.deref-in-loop-alloc.ensures.value c.in_ok-answer.ensures.answer.1 in
    let known = subst (λ (ns : List Node). AreAnswers P ns answers)
    (c.deref.ensures.value ∙ c.in_ok-asked.ensures.sample) c.in_ok-answers.ensures in
    IsAskedSoFar-round P c.args.asker.now c.loop-alloc.discovery c.answer.new.self answers c.loop-alloc.invariant
    round known

pub returns-clause-heads : goal.returns-clause-heads
returns-clause-heads c = (
  c.loop-alloc.discovery,
  IsAskedSoFar-done c.args.asker.now c.args.other.now.replica c.args.other.now.pins c.loop-alloc.discovery
      c.loop-alloc.invariant (c.done.ensures.0 c.loop-alloc-test.false),
  c.in_ok-heads.ensures.heads,
)
