use Rattle.std.proofs.Common.{Ok, true≢false, sym, subst, ◌∙◌}
use Rattle.std.proofs.lemmas.Result.{IfOk-weaker}
use Rattle.hg_replica.specs.State.{Below}
use Rattle.hg_replica.specs.Least.{part_of}
use Rattle.hg_replica.specs.Answer.{JoinAnswer, IsGrowthBeforeFault}
use Rattle.hg_view.specs.Kept.{KeptValue}
use Rattle.hg_view.proofs.KeptLemmas.{joined-answer, joined-memory, joined-sets, joined-heads, within-joined}
use Rattle.hg_view.proofs.UpheldLemmas.{upheld-joined}
use Rattle.hg_view.proofs.kept.Kept.join.Goals as goal

pub find_again-requires : goal.find_again-requires
find_again-requires c =
    let told = c.join_with_undo-answer in
    IfOk-weaker told.result _ _ (λ undo back. (c.self.inside.replica, back)) told.ensures.back

pub invariant_of-self : goal.invariant_of-self
invariant_of-self c =
    let told = c.join_with_undo-answer in
    let found = c.find_again in
    let sets = joined-sets _ _ _ _ _ _ told.ensures.valid c.self.invariant.0 _ _ told.ensures.answer told.ensures.back
    found.ensures.found in
    let answer = joined-answer _ _ _ _ _ _ _ _ told.ensures.answer told.ensures.back found.ensures.found in (
      sets.0,
      sets.1,
      upheld-joined _ _ told.ensures.valid _ _
          c.self.invariant.2 _ _ answer,
      joined-heads _ _ _ _ _ _
          _ _ c.self.invariant.3 _ _ told.ensures.answer told.ensures.back found.ensures.found found.ensures.heads,
    )

pub returns-then-is_below-clause-answer : goal.returns-then-is_below-clause-answer
returns-then-is_below-clause-answer c =
    let s = c.self.inside.replica in
    subst (λ (k : KeptValue). JoinAnswer k.replica c.args.other.now.replica (Ok tt) k.replica) c.self.view_is
    (subst (λ (k : KeptValue). JoinAnswer s k.replica (Ok tt) s) c.other.view_is
    (within-joined _ _ c.is_below.ensures.other_valid (c.is_below.ensures.answer.0 c.if-is_below.true)))

pub returns-clause-answer : goal.returns-clause-answer
returns-clause-answer c =
    let told = c.join_with_undo-answer in
    let found = c.find_again in
    let s = c.self.inside.replica in
    subst (λ (k : KeptValue). JoinAnswer k.replica c.args.other.now.replica found.result found.new.replica)
    c.self.view_is (subst (λ (k : KeptValue). JoinAnswer s k.replica found.result found.new.replica) c.other.view_is
    (joined-answer _ _ _ _ _ _ _ _ told.ensures.answer told.ensures.back found.ensures.found))

pub returns-clause-memory : goal.returns-clause-memory
returns-clause-memory c is =
    let told = c.join_with_undo-answer in
    let found = c.find_again in
    let s = c.self.inside.replica in
    let o = c.other.inside.replica in
    let more : Below o s → ⊥ = λ below. true≢false (sym (c.is_below.ensures.answer.1 below) ∙ c.if-is_below.false) in
    subst (λ (k : KeptValue). IsGrowthBeforeFault k.replica (part_of c.args.other.now.replica)) c.self.view_is
    (subst (λ (k : KeptValue). IsGrowthBeforeFault s (part_of k.replica)) c.other.view_is (joined-memory _ _ _ _ _ _ _
    _ more told.ensures.answer told.ensures.memory told.ensures.growth found.ensures.found is))
