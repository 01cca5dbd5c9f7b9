use Rattle.std.proofs.Common.{◌≡◌, ◌≢◌, ◌⊎◌, [], Err, inl, inr, ap, take, ◌∙◌, subst}
use Rattle.std.proofs.Math.Seq.{take-append_seam}
use Rattle.hg_phases.specs.Least.{part_of as history_part_of}
use Rattle.hg_history.specs.declared.fault.Fault.TheVariants.{NoMemory}
use Rattle.hg_history.specs.Answer.{IsGrowthBeforeFault as IsHistoryGrowth}
use Rattle.hg_history.specs.Join.{IsJoinFault}
use Rattle.hg_obsstore.specs.Growth.{new_among}
use Rattle.hg_replica.specs.State.{ReplicaState}
use Rattle.hg_replica.specs.Answer.{IsJoin, IsGrowthBeforeFault, JoinAnswer}
use Rattle.hg_replica.specs.Least.{part_of}
use Rattle.hg_replica.proofs.TakenLemmas.{join_grown}
use Rattle.hg_replica.proofs.ReplicaLemmas.{joined}
use Rattle.hg_replica.proofs.replica.Replica.join_with_undo.Goals as goal

pub returns-in-Ok-join_with_undo-clause-answer : goal.returns-in-Ok-join_with_undo-clause-answer
unfolding JoinAnswer
returns-in-Ok-join_with_undo-clause-answer c =
    let s : ReplicaState = record { history = c.self.inside.history; markers = c.self.inside.store } in
    let o : ReplicaState = record { history = c.other.inside.history; markers = c.other.inside.store } in
    let t : ReplicaState = record { history = c.join_with_undo.new.self; markers = c.join.new.self } in
    let answer = c.in-Ok-join_with_undo.ensures.answer in (
      answer.0,
      subst (λ u. IsJoin c.args.self.now u t) c.other.view_is
          (subst (λ u. IsJoin u o t) c.self.view_is (joined s o t answer.1 c.in-Ok.ensures.union)),
    )

pub returns-in-Err-join_with_undo-clause-answer : goal.returns-in-Err-join_with_undo-clause-answer
unfolding JoinAnswer
returns-in-Err-join_with_undo-clause-answer c =
    let o : ReplicaState = record { history = c.other.inside.history; markers = c.other.inside.store } in
    let fault = c.in-Err-join_with_undo.fault in
    let answer = c.in-Err-join_with_undo.ensures.answer in
    let old = c.self.inside.store in
    let new = new_among old c.other.inside.store in
    let back : c.truncate.new.self ≡ old =
    c.truncate.ensures ∙ (λ i. take (c.len-held.ensures i) (c.in-Ok.ensures.ok i)) ∙ take-append_seam old new in (
      subst (λ u. IsJoinFault c.args.self.now.history u.history fault) c.other.view_is
          (subst (λ u. IsJoinFault u.history o.history fault) c.self.view_is answer.0),
      (λ i. record { history = answer.1 i; markers = back i }) ∙ c.self.view_is,
    )

pub returns-in-Err-clause-answer : goal.returns-in-Err-clause-answer
unfolding JoinAnswer
returns-in-Err-clause-answer c =
    (tt, (λ i. record { history = c.self.inside.history; markers = c.in-Err.ensures.err i }) ∙ c.self.view_is)

pub returns-in-Err-join_with_undo-clause-memory : goal.returns-in-Err-join_with_undo-clause-memory
unfolding IsGrowthBeforeFault
returns-in-Err-join_with_undo-clause-memory c =
    let fault = c.in-Err-join_with_undo.fault in
    λ e.
    let same : fault ≡ NoMemory = cc in
    inr (subst (λ (u : ReplicaState). IsHistoryGrowth c.args.self.now.history (history_part_of u.history))
    c.other.view_is
    (subst (λ (u : ReplicaState). IsHistoryGrowth u.history (history_part_of c.other.inside.history)) c.self.view_is
    (c.in-Err-join_with_undo.ensures.memory (ap (λ x. Err x) same))))

pub returns-in-Err-clause-memory : goal.returns-in-Err-clause-memory
unfolding IsGrowthBeforeFault
returns-in-Err-clause-memory c =
    λ e. inl (subst (λ (u : ReplicaState). new_among c.args.self.now.markers u.markers ≢ []) c.other.view_is
    (subst (λ (u : ReplicaState). new_among u.markers c.other.inside.store ≢ []) c.self.view_is
    c.in-Err.ensures.memory))

pub returns-in-Ok-join_with_undo-clause-growth : goal.returns-in-Ok-join_with_undo-clause-growth
returns-in-Ok-join_with_undo-clause-growth c =
    let s : ReplicaState = record { history = c.self.inside.history; markers = c.self.inside.store } in
    let o : ReplicaState = record { history = c.other.inside.history; markers = c.other.inside.store } in
    let t : ReplicaState = record { history = c.join_with_undo.new.self; markers = c.join.new.self } in
    let grew =
    join_grown s o t.history t.markers c.in-Ok.ensures.ok c.in-Ok-join_with_undo.ensures.growth in
    subst (λ u. IsGrowthBeforeFault c.args.self.now (part_of u) ⊎ (t ≡ c.args.self.now)) c.other.view_is
    (subst (λ u. IsGrowthBeforeFault u (part_of o) ⊎ (t ≡ u)) c.self.view_is grew)
