use Rattle.std.proofs.Common.{subst}
use Rattle.std.specs.Cow.{cow_value}
use Rattle.hg_view.specs.Kept.{KeptValue}
use Rattle.hg_replica.specs.Answer.{AbsorbAnswer, IsGrowthBeforeFault}
use Rattle.hg_view.proofs.KeptLemmas.{kept-answer, kept-changed, kept-memory, kept-sets, kept-heads}
use Rattle.hg_view.proofs.UpheldLemmas.{upheld-absorbed}
use Rattle.hg_view.proofs.kept.Kept.take_in.Goals as goal

pub invariant_of-self : goal.invariant_of-self
invariant_of-self c =
    let told = c.absorb_with_undo-answer in
    let kept = c.keep_up in
    let sets = kept-sets _ _ _ _ _ _ told.ensures.valid c.self.invariant.0 _ _ told.ensures.answer
    told.ensures.back told.ensures.nothing kept.ensures.kept in
    let answer = kept-answer _ _ _ _ _ _ _ _ told.ensures.answer told.ensures.back kept.ensures.kept in (
      sets.0,
      sets.1,
      upheld-absorbed _ _ told.ensures.valid _ _
          c.self.invariant.2 _ _ answer,
      kept-heads _ _ _ _ _ _
          _ _ c.self.invariant.3 _ _ told.ensures.answer
          told.ensures.back told.ensures.nothing kept.ensures.kept kept.ensures.heads,
    )

pub returns-clause-answer : goal.returns-clause-answer
returns-clause-answer c =
    let part = cow_value c.args.part in
    let told = c.absorb_with_undo-answer in
    let kept = c.keep_up in
    subst (λ (k : KeptValue). AbsorbAnswer k.replica part kept.result kept.new.replica) c.self.view_is
    (kept-answer _ _ _ _ _ _ _ _ told.ensures.answer told.ensures.back kept.ensures.kept)

pub returns-clause-memory : goal.returns-clause-memory
returns-clause-memory c is =
    let part = cow_value c.args.part in
    let told = c.absorb_with_undo-answer in
    let kept = c.keep_up in
    subst (λ (k : KeptValue). IsGrowthBeforeFault k.replica part) c.self.view_is (kept-memory _ _ _ _ _
    _ _ _ told.ensures.memory told.ensures.growth kept.ensures.kept is)

pub keep_up-requires-clause-heads : goal.keep_up-requires-clause-heads
keep_up-requires-clause-heads c =
    let told = c.absorb_with_undo-answer in
    kept-changed _ _ _ _ told.ensures.valid c.self.invariant.3 _ told.ensures.answer
