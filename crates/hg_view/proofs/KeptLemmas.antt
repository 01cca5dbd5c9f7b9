-- What is kept beside a replica that absorbs, and what is in view by it.
use Rattle.std.proofs.Common.{◌≡◌, [], ◌∷◌, Contains, Result}
use Rattle.std.proofs.Common.{Ok, Err, IfOk, OnOk, ◌↔◌, ◌⊎◌, inl, inr, sym, subst, ◌∙◌}
use Rattle.hg_join.specs.declared.absorbed.Absorbed.{Absorbed}
use Rattle.hg_join.specs.Absorbed.{without_undo, join_without_undo}
use Rattle.hg_changeset.specs.declared.node.Node.{Node}
use Rattle.hg_graph.specs.Graph.{Holds}
use Rattle.hg_graph.proofs.PlaceLemmas.{Holds-reaching}
use Rattle.hg_phases.specs.State.{changesets}
use Rattle.hg_phases.proofs.FormLemmas.{Below-itself}
use Rattle.hg_history.specs.declared.fault.Fault.{Fault}
use Rattle.hg_history.specs.declared.fault.Fault.TheVariants.{NoMemory}
use Rattle.hg_history.specs.Answer.{IsRefusal}
use Rattle.hg_history.specs.Join.{IsJoinFault}
use Rattle.hg_history.specs.Content.Leads.{itself}
use Rattle.hg_history.proofs.ContentLemmas.{content-node, node_in_content, reach_from_leads}
use Rattle.hg_replica.specs.State.{ReplicaState, IsValid, Below}
use Rattle.hg_replica.specs.Least.{PartValue, part_of}
use Rattle.hg_replica.specs.Change.{ChangeValue, IsNothing}
use Rattle.hg_replica.specs.Answer.{AbsorbAnswer, JoinAnswer, IsAbsorbed, IsJoin, IsGrowthBeforeFault}
use Rattle.hg_replica.specs.Undo.{LeadsBack, UndoValue}
use Rattle.hg_replica.specs.Content.{content_of}
use Rattle.hg_replica.specs.Evolution.{IsVisible}
use Rattle.hg_replica.proofs.LeastLemmas.{least-above, least-valid}
use Rattle.hg_replica.proofs.ContentLemmas.{told-change}
use Rattle.hg_instab.specs.Changed.{IsChangedTo}
use Rattle.hg_instab.specs.Instabilities.{AreInstabilities, InstabilitySets}
use Rattle.hg_instab.proofs.TurnedLemmas.{contains-or}
use Rattle.hg_view.specs.declared.head_places.HeadPlaces.{HeadPlaces}
use Rattle.hg_view.specs.Kept.{FindsAgain, FindsHeadsAgain, KeepsHeads, KeepsUp}
use Rattle.hg_view.specs.HeadPlaces.{AreHeadPlaces}
use Rattle.hg_view.proofs.HiddenLemmas.{obsolete-or, visible-not_extinct}

-- what is held and not extinct is visible
pub visible-outside : (s : ReplicaState) → IsValid s → (sets : InstabilitySets) → AreInstabilities (content_of s) sets
    → (n : Node) → (Holds (changesets s.history) n × ¬ (Contains sets.extinct n)) ↔ IsVisible (content_of s) n
visible-outside s valid sets are n = (
  λ h.
      let held = content-node s.history valid.graph n h.0 in
      elim (obsolete-or s n held) [
        | inl obsolete ↦ elim (contains-or sets.suspended n) [
          | inl there ↦
              let suspended = (are.suspended n).0 there in
              (suspended.1.0, (suspended.1.1.0, suspended.1.2.0.1), suspended.1.1.1)
          | inr none ↦ absurd (h.1 ((are.extinct n).1 (obsolete, λ is. none ((are.suspended n).1 is))))
        ]
        | inr none ↦ (n, (held, none), itself)
      ],
  λ seen. (
    Holds-reaching (changesets s.history)
        (reach_from_leads s.history valid.graph n seen.0 (node_in_content s.history valid.graph seen.0 seen.1.0)
        seen.2),
    λ h. visible-not_extinct s valid n seen ((are.extinct n).0 h),
  ),
)

module _ (s : ReplicaState) (sets : InstabilitySets) (valid : IsValid s)
    (are : AreInstabilities (content_of s) sets) where
  -- the sets of s are those of what is equal to it
  unmoved : (after : ReplicaState) (sets_after : InstabilitySets) → after ≡ s → sets_after ≡ sets
      → AreInstabilities (content_of after) sets_after × IsValid after
  unmoved after sets_after same same_sets =
      subst (λ (u : ReplicaState). AreInstabilities (content_of u) sets_after × IsValid u) (sym same)
      (subst (AreInstabilities (content_of s)) (sym same_sets) are, valid)

-- what is joined without a change is below
joined-within : {s o : ReplicaState} → IsJoin s o s → Below o s
joined-within join = record { history = join.history.second; markers = λ m at. (join.markers m).1 (inr at) }

-- what is below is joined without a change
pub within-joined : (s o : ReplicaState) → IsValid s → Below o s → JoinAnswer s o (Ok tt) s
unfolding JoinAnswer
within-joined s o valid below = (
  valid,
  record {
    history = record { first = Below-itself s.history; second = below.history; each = λ h at. inl at };
    markers = λ m. (
      λ at. inl at,
      λ at. elim at [
        | inl here ↦ here
        | inr there ↦ below.markers m there
      ],
    );
  },
)

module _ (s : ReplicaState) (k : PartValue) (t after : ReplicaState) (sets sets_after : InstabilitySets) where
  -- the part is absorbed, or the replica is as it was
  pub kept-answer : (answered : Result (Absorbed ChangeValue UndoValue) Fault) (result : Result ChangeValue Fault)
      → AbsorbAnswer s k (without_undo answered) t → IfOk answered (λ absorbed. LeadsBack t absorbed.undo s)
      → KeepsUp answered t sets result after sets_after → AbsorbAnswer s k result after
  unfolding AbsorbAnswer
  kept-answer (Ok absorbed) (Ok change) answer back keeps =
      subst (λ (x : ChangeValue). IsAbsorbed s k x after) (sym keeps.0)
      (subst (λ (u : ReplicaState). IsAbsorbed s k absorbed.change u) (sym keeps.1) answer)
  kept-answer (Ok absorbed) (Err fault) answer back keeps = (
    subst (λ (f : Fault). IsRefusal (changesets s.history) k.history f) (sym keeps.0) tt,
    keeps.3 s back,
  )
  kept-answer (Err fault) result answer back keeps =
      subst (λ (r : Result ChangeValue Fault). AbsorbAnswer s k r after) (sym keeps.0) (answer.0, keeps.1 ∙ answer.1)

  -- want of memory is told only where something grew
  pub kept-memory : (answered : Result (Absorbed ChangeValue UndoValue) Fault) (result : Result ChangeValue Fault)
      → (answered ≡ Err NoMemory → IsGrowthBeforeFault s k)
      → IfOk answered (λ absorbed. IsNothing absorbed.change ⊎ IsGrowthBeforeFault s k)
      → KeepsUp answered t sets result after sets_after → result ≡ Err NoMemory → IsGrowthBeforeFault s k
  kept-memory (Ok absorbed) (Ok change) memory growth keeps is = absurd cc
  kept-memory (Ok absorbed) (Err fault) memory growth keeps is = elim growth [
    | inl nothing ↦ absurd (keeps.1 nothing)
    | inr grown ↦ grown
  ]
  kept-memory (Err fault) result memory growth keeps is =
      let e = sym keeps.0 ∙ is in
      let same : fault ≡ NoMemory = cc in
      memory (λ i. Err (same i))

  module _ (valid : IsValid s) (are : AreInstabilities (content_of s) sets) where
    changed : (change : ChangeValue) → AbsorbAnswer s k (Ok change) t → IsChangedTo s change t
    unfolding AbsorbAnswer
    changed change answer = record {
      valid = valid;
      above = least-above s (k ∷ []) t answer.least;
      told = told-change s t k change answer;
    }

    -- the sets are those of the replica then, and it is valid
    pub kept-sets : (answered : Result (Absorbed ChangeValue UndoValue) Fault) (result : Result ChangeValue Fault)
        → AbsorbAnswer s k (without_undo answered) t → IfOk answered (λ absorbed. LeadsBack t absorbed.undo s)
        → IfOk answered (λ absorbed. IsNothing absorbed.change → t ≡ s)
        → KeepsUp answered t sets result after sets_after
        → AreInstabilities (content_of after) sets_after × IsValid after
    unfolding AbsorbAnswer
    kept-sets (Ok absorbed) (Ok change) answer back still keeps = elim keeps.2 [
      | inl nothing ↦ unmoved s sets valid are after sets_after
          (keeps.1 ∙ still (subst (λ (x : ChangeValue). IsNothing x) keeps.0 nothing.0)) nothing.1
      | inr follow ↦
          subst (λ (u : ReplicaState). AreInstabilities (content_of u) sets_after × IsValid u) (sym keeps.1) (
            follow s (subst (λ (x : ChangeValue). IsChangedTo s x t) (sym keeps.0) (changed absorbed.change answer))
                are,
            least-valid s (k ∷ []) t answer.least valid,
          )
    ]
    kept-sets (Ok absorbed) (Err fault) answer back still keeps =
        unmoved s sets valid are after sets_after (keeps.3 s back) keeps.2
    kept-sets (Err fault) result answer back still keeps =
        unmoved s sets valid are after sets_after (keeps.1 ∙ answer.1) keeps.2

module _ (s : ReplicaState) (k : PartValue) (t : ReplicaState) (heads : HeadPlaces) (valid : IsValid s)
    (are : AreHeadPlaces s.history heads) where
  -- what is absorbed changes s, of which these are the heads
  pub kept-changed : (answered : Result (Absorbed ChangeValue UndoValue) Fault)
      → AbsorbAnswer s k (without_undo answered) t
      → IfOk answered (λ absorbed. (u : ReplicaState) × IsChangedTo u absorbed.change t × AreHeadPlaces u.history heads)
  unfolding AbsorbAnswer
  kept-changed (Ok absorbed) answer = (
    s,
    record {
      valid = valid;
      above = least-above s (k ∷ []) t answer.least;
      told = told-change s t k absorbed.change answer;
    },
    are,
  )
  kept-changed (Err fault) answer = tt

-- heads stay those of what is equal to it
same-heads : (s after : ReplicaState) (heads heads_after : HeadPlaces) → AreHeadPlaces s.history heads → after ≡ s
    → heads_after ≡ heads → AreHeadPlaces after.history heads_after
same-heads s after heads heads_after are same same_heads =
    subst (λ (u : ReplicaState). AreHeadPlaces u.history heads_after) (sym same)
    (subst (AreHeadPlaces s.history) (sym same_heads) are)

module _ (s : ReplicaState) (k : PartValue) (t after : ReplicaState) (sets sets_after : InstabilitySets)
    (heads heads_after : HeadPlaces) (are : AreHeadPlaces s.history heads) where
  -- the heads are those of the replica then
  pub kept-heads : (answered : Result (Absorbed ChangeValue UndoValue) Fault) (result : Result ChangeValue Fault)
      → AbsorbAnswer s k (without_undo answered) t → IfOk answered (λ absorbed. LeadsBack t absorbed.undo s)
      → IfOk answered (λ absorbed. IsNothing absorbed.change → t ≡ s)
      → KeepsUp answered t sets result after sets_after → KeepsHeads answered t heads result heads_after
      → AreHeadPlaces after.history heads_after
  unfolding AbsorbAnswer
  kept-heads (Ok absorbed) (Ok change) answer back still keeps told = elim told [
    | inl nothing ↦ same-heads s after heads heads_after are
        (keeps.1 ∙ still (subst (λ (x : ChangeValue). IsNothing x) keeps.0 nothing.0)) nothing.1
    | inr follow ↦ subst (λ (u : ReplicaState). AreHeadPlaces u.history heads_after) (sym keeps.1) follow
  ]
  kept-heads (Ok absorbed) (Err fault) answer back still keeps told =
      same-heads s after heads heads_after are (keeps.3 s back) told
  kept-heads (Err fault) result answer back still keeps told =
      same-heads s after heads heads_after are (keeps.1 ∙ answer.1) told

module _ (s o t after : ReplicaState) (sets sets_after : InstabilitySets) where
  -- the other is joined, or the replica is as it was
  pub joined-answer : (answered : Result UndoValue Fault) (result : Result (Unit {0}) Fault)
      → JoinAnswer s o (join_without_undo answered) t → IfOk answered (λ undo. LeadsBack t undo s)
      → FindsAgain answered t sets result after sets_after → JoinAnswer s o result after
  unfolding JoinAnswer
  joined-answer (Ok undo) (Ok done) answer back finds =
      subst (λ (u : ReplicaState). IsValid u × IsJoin s o u) (sym finds.0) answer
  joined-answer (Ok undo) (Err fault) answer back finds = (
    subst (λ (f : Fault). IsJoinFault s.history o.history f) (sym finds.0) tt,
    finds.2 s back,
  )
  joined-answer (Err fault) result answer back finds =
      subst (λ (r : Result (Unit {0}) Fault). JoinAnswer s o r after) (sym finds.0) (answer.0, finds.1 ∙ answer.1)

  -- want of memory is told only where something grew: what isn't below s isn't joined without a change
  pub joined-memory : (answered : Result UndoValue Fault) (result : Result (Unit {0}) Fault) → ¬ (Below o s)
      → JoinAnswer s o (join_without_undo answered) t
      → (answered ≡ Err NoMemory → IsGrowthBeforeFault s (part_of o))
      → OnOk answered (IsGrowthBeforeFault s (part_of o) ⊎ (t ≡ s))
      → FindsAgain answered t sets result after sets_after → result ≡ Err NoMemory
      → IsGrowthBeforeFault s (part_of o)
  unfolding JoinAnswer
  joined-memory (Ok undo) (Ok done) more answer memory growth finds is = absurd cc
  joined-memory (Ok undo) (Err fault) more answer memory growth finds is = elim growth [
    | inl grown ↦ grown
    | inr same ↦ absurd (more (joined-within (subst (IsJoin s o) same answer.1)))
  ]
  joined-memory (Err fault) result more answer memory growth finds is =
      let e = sym finds.0 ∙ is in
      let same : fault ≡ NoMemory = cc in
      memory (λ i. Err (same i))

  -- the sets are those of the replica then, and it is valid
  pub joined-sets : IsValid s → AreInstabilities (content_of s) sets → (answered : Result UndoValue Fault)
      (result : Result (Unit {0}) Fault) → JoinAnswer s o (join_without_undo answered) t
      → IfOk answered (λ undo. LeadsBack t undo s) → FindsAgain answered t sets result after sets_after
      → AreInstabilities (content_of after) sets_after × IsValid after
  unfolding JoinAnswer
  joined-sets valid are (Ok undo) (Ok done) answer back finds =
      subst (λ (u : ReplicaState). AreInstabilities (content_of u) sets_after × IsValid u) (sym finds.0)
      (finds.1, answer.0)
  joined-sets valid are (Ok undo) (Err fault) answer back finds =
      unmoved s sets valid are after sets_after (finds.2 s back) finds.1
  joined-sets valid are (Err fault) result answer back finds =
      unmoved s sets valid are after sets_after (finds.1 ∙ answer.1) finds.2

-- the heads are those of the replica then
pub joined-heads : (s o t after : ReplicaState) (sets sets_after : InstabilitySets) (heads heads_after : HeadPlaces)
    → AreHeadPlaces s.history heads → (answered : Result UndoValue Fault) (result : Result (Unit {0}) Fault)
    → JoinAnswer s o (join_without_undo answered) t → IfOk answered (λ undo. LeadsBack t undo s)
    → FindsAgain answered t sets result after sets_after → FindsHeadsAgain answered t heads result heads_after
    → AreHeadPlaces after.history heads_after
unfolding JoinAnswer
joined-heads s o t after sets sets_after heads heads_after are (Ok undo) (Ok done) answer back finds told =
    subst (λ (u : ReplicaState). AreHeadPlaces u.history heads_after) (sym finds.0) told
joined-heads s o t after sets sets_after heads heads_after are (Ok undo) (Err fault) answer back finds told =
    same-heads s after heads heads_after are (finds.2 s back) told
joined-heads s o t after sets sets_after heads heads_after are (Err fault) result answer back finds told =
    same-heads s after heads heads_after are (finds.1 ∙ answer.1) told
