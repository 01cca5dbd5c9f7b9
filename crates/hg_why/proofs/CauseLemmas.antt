-- Reasons that are added, and the causes that they tell.
use Rattle.std.proofs.Common.{◌≡◌, ◌≢◌, ℕ, ◌+◌, ◌<◌, Bool, true, false, IsTrue, List, [], ◌∷◌, ◌++◌, take}
use Rattle.std.proofs.Common.{get_or, length, map, Contains, Some, ◌↔◌, ◌⊎◌, inl, inr, refl, sym, ap, subst, ◌∙◌}
use Rattle.std.proofs.Common.{true≢false, arith}
use Rattle.std.specs.Bool.{◌==◌}
use Rattle.std.proofs.lemmas.Bool.Decides.{nat_tests}
use Rattle.std.proofs.lemmas.List.{map-append}
use Rattle.std.proofs.lemmas.Option.{same_Some}
use Rattle.hg_changeset.specs.declared.node.Node.{Node}
use Rattle.hg_changeset.specs.Changeset.{node_of}
use Rattle.hg_changeset.specs.Contents.{Contents}
use Rattle.hg_changeset.specs.Node.{null_node}
use Rattle.hg_changeset.proofs.ListLemmas.{Contains-first, Contains-map_from, Contains-none, Contains-pushed}
use Rattle.hg_changeset.proofs.ListLemmas.{Contains-taken}
use Rattle.hg_graph.specs.Graph.{IsParent}
use Rattle.hg_phases.specs.declared.phase.Phase.TheVariants.{Public}
use Rattle.hg_phases.specs.State.{Held, changesets}
use Rattle.hg_phases.proofs.ContentLemmas.{content-held}
use Rattle.hg_replica.specs.State.{ReplicaState, IsValid}
use Rattle.hg_replica.specs.Content.{Content, content_of}
use Rattle.hg_replica.specs.Evolution.{HasPhase, IsBumpedFix, IsObsolete, IsOrphan, IsPhaseDivergent, Precedes}
use Rattle.hg_succ.specs.Successors.{HasSeveral, IsAny}
use Rattle.hg_instab.specs.Instabilities.{IsContentDivergent}
use Rattle.hg_instab.specs.Local.{StandsUnstably}
use Rattle.hg_log.specs.Kinds.{IsUnstable}
use Rattle.hg_why.specs.declared.reason.Reason.{Reason}
use Rattle.hg_why.specs.Causes.{Adds, AreReasons, Cause, HasItsSets, IsByOne, IsByParent, IsByThis, IsCause}
use Rattle.hg_why.specs.Causes.{IsObsoleteOrOrphan, Tells, cause_of}
use Rattle.hg_why.specs.Causes.Cause.{parent, public_before, several_before}

module _ (f : Content) where
  -- ---- what is added

  pub adds-nothing : (P : Cause → Type 0) (old : List Reason) → ((cause : Cause) → ¬ (P cause)) → Adds f P old old
  adds-nothing P old never = record {
    causes = λ cause. (λ h. inl h, λ h. elim h [ inl before ↦ before | inr p ↦ absurd (never cause p) ]);
    sets = λ reason h. inl h;
  }

  pub adds-then : (P Q R : Cause → Type 0) (old mid new : List Reason)
      → ((cause : Cause) → R cause ↔ (P cause ⊎ Q cause)) → Adds f P old mid → Adds f Q mid new → Adds f R old new
  adds-then P Q R old mid new joins a b = record {
    causes = λ cause. (
      λ h. elim ((b.causes cause).0 h) [
        | inl x ↦ elim ((a.causes cause).0 x) [ inl before ↦ inl before | inr p ↦ inr ((joins cause).1 (inl p)) ]
        | inr q ↦ inr ((joins cause).1 (inr q))
      ],
      λ h. (b.causes cause).1 (elim h [
        | inl before ↦ inl ((a.causes cause).1 (inl before))
        | inr r ↦ elim ((joins cause).0 r) [ inl p ↦ inl ((a.causes cause).1 (inr p)) | inr q ↦ inr q ]
      ]),
    );
    sets = λ reason h. elim (b.sets reason h) [ inl x ↦ a.sets reason x | inr its ↦ inr its ];
  }

  pub adds-same : (P Q : Cause → Type 0) (old new : List Reason) → ((cause : Cause) → Q cause ↔ P cause)
      → Adds f P old new → Adds f Q old new
  adds-same P Q old new same a = record {
    causes = λ cause. (
      λ h. elim ((a.causes cause).0 h) [ inl before ↦ inl before | inr p ↦ inr ((same cause).1 p) ],
      λ h. (a.causes cause).1 (elim h [ inl before ↦ inl before | inr q ↦ inr ((same cause).0 q) ]),
    );
    sets = a.sets;
  }

  -- one reason
  pub adds-pushed : (old new : List Reason) (r : Reason) → new ≡ old ++ r ∷ [] → HasItsSets f r
      → Adds f (λ cause. cause_of r ≡ cause) old new
  adds-pushed old new r is its =
      let told : map cause_of new ≡ map cause_of old ++ cause_of r ∷ [] =
      ap (map cause_of) is ∙ map-append cause_of old (r ∷ []) in
      record {
        causes = λ cause. (
          λ h. (Contains-pushed (map cause_of old) (cause_of r) cause).0 (subst (λ cs. Contains cs cause) told h),
          λ h. subst (λ cs. Contains cs cause) (sym told) ((Contains-pushed (map cause_of old) (cause_of r) cause).1 h),
        );
        sets = λ reason h. elim ((Contains-pushed old r reason).0 (subst (λ rs. Contains rs reason) is h))
            [ inl before ↦ inl before | inr e ↦ inr (subst (HasItsSets f) e its) ];
      }

  -- ---- ids one after the other

  pub adds-none : (made : Node → Cause) (P : Node → Type 0) (old : List Reason)
      → Adds f (IsByOne made (λ p. Contains [] p × P p)) old old
  adds-none made P old = adds-nothing (IsByOne made (λ p. Contains [] p × P p)) old
      (λ cause h. Contains-none h.0 h.1.0)

  -- of the ids up to one more those that are so, where it is so, or isn't
  pub adds-found : (made : Node → Cause) (P : Node → Type 0) (nodes : List Node) (i : ℕ) (x : Node)
      (old mid new : List Reason) → i < length nodes → get_or nodes i x ≡ x
      → Adds f (IsByOne made (λ p. Contains (take i nodes) p × P p)) old mid → P x
      → Adds f (λ cause. made x ≡ cause) mid new
      → Adds f (IsByOne made (λ p. Contains (take (i + 1) nodes) p × P p)) old new
  adds-found made P nodes i x old mid new l at before so more = adds-then
      (IsByOne made (λ p. Contains (take i nodes) p × P p)) (λ cause. made x ≡ cause)
      (IsByOne made (λ p. Contains (take (i + 1) nodes) p × P p)) old mid new (λ cause. (
        λ h. elim ((Contains-taken nodes i x h.0 l at).0 h.1.0) [
          | inl first ↦ inl (h.0, (first, h.1.1), h.2)
          | inr e ↦ inr (ap made e ∙ h.2)
        ],
        λ h. elim h [
          | inl old ↦ (old.0, ((Contains-taken nodes i x old.0 l at).1 (inl old.1.0), old.1.1), old.2)
          | inr e ↦ (x, ((Contains-taken nodes i x x l at).1 (inr refl), so), e)
        ],
      )) before more

  pub adds-other : (made : Node → Cause) (P : Node → Type 0) (nodes : List Node) (i : ℕ) (x : Node)
      (old mid : List Reason) → i < length nodes → get_or nodes i x ≡ x
      → Adds f (IsByOne made (λ p. Contains (take i nodes) p × P p)) old mid → ¬ (P x)
      → Adds f (IsByOne made (λ p. Contains (take (i + 1) nodes) p × P p)) old mid
  adds-other made P nodes i x old mid l at before not = adds-same
      (IsByOne made (λ p. Contains (take i nodes) p × P p))
      (IsByOne made (λ p. Contains (take (i + 1) nodes) p × P p)) old mid (λ cause. (
        λ h. elim ((Contains-taken nodes i x h.0 l at).0 h.1.0) [
          | inl first ↦ (h.0, (first, h.1.1), h.2)
          | inr e ↦ absurd (not (subst P (sym e) h.1.1))
        ],
        λ h. (h.0, ((Contains-taken nodes i x h.0 l at).1 (inl h.1.0), h.1.1), h.2),
      )) before

  -- ---- all that are told

  module _ (n : Node) where
    cause-told : (cause : Cause) → IsCause f n cause → IsByParent f n cause
        ⊎ (IsByOne public_before (λ p. IsCause f n (public_before p)) cause
        ⊎ IsByOne several_before (λ p. IsCause f n (several_before p)) cause)
    cause-told (parent p is_obsolete) h = inl (p, is_obsolete, h, refl)
    cause-told (public_before p) h = inr (inl (p, h, refl))
    cause-told (several_before p) h = inr (inr (p, h, refl))

    told-cause : (cause : Cause) → IsByParent f n cause
        ⊎ (IsByOne public_before (λ p. IsCause f n (public_before p)) cause
        ⊎ IsByOne several_before (λ p. IsCause f n (several_before p)) cause) → IsCause f n cause
    told-cause cause (inl h) = subst (IsCause f n) h.3 h.2
    told-cause cause (inr (inl h)) = subst (IsCause f n) h.2 h.1
    told-cause cause (inr (inr h)) = subst (IsCause f n) h.2 h.1

    module _ (reasons : List Reason) (exact : (cause : Cause) → Tells reasons cause ↔ IsCause f n cause)
        (sets : (reason : Reason) → Contains reasons reason → HasItsSets f reason)
        (law : IsOrphan f n ↔ StandsUnstably f (IsOrphan f) n) where
      orphan-told : IsOrphan f n → (p : Node) × (is_obsolete : Bool) × Tells reasons (parent p is_obsolete)
      orphan-told orphan = let stands = law.0 orphan in elim stands.1.2 [
        | inl obsolete ↦
            (stands.1.0, true, (exact (parent stands.1.0 true)).1 (orphan, stands.1.1, obsolete))
        | inr other ↦ (stands.1.0, false, (exact (parent stands.1.0 false)).1 (orphan, stands.1.1, other))
      ]

      are-reasons : AreReasons f n reasons
      are-reasons = record {
        exact = exact;
        sets = sets;
        orphan = (orphan-told, λ h. ((exact (parent h.0 h.1)).0 h.2).0);
        phase_divergent = (
          λ h. (h.1.0, (exact (public_before h.1.0)).1 (h.0, h.1.1, h.1.2)),
          λ h. let c = (exact (public_before h.0)).0 h.1 in (c.0, (h.0, c.1, c.2)),
        );
        content_divergent = (
          λ h. (h.1.0, (exact (several_before h.1.0)).1 (h.0, h.1.1, h.1.2)),
          λ h. let c = (exact (several_before h.0)).0 h.1 in (c.0, (h.0, c.1, c.2)),
        );
      }

    pub all-told : (old a b new : List Reason) → old ≡ [] → Adds f (IsByParent f n) old a
        → Adds f (IsByOne public_before (λ p. IsCause f n (public_before p))) a b
        → Adds f (IsByOne several_before (λ p. IsCause f n (several_before p))) b new
        → IsOrphan f n ↔ StandsUnstably f (IsOrphan f) n → AreReasons f n new
    all-told old a b new none first second third law =
        let rest = adds-then (IsByOne public_before (λ p. IsCause f n (public_before p)))
        (IsByOne several_before (λ p. IsCause f n (several_before p)))
        (λ cause. IsByOne public_before (λ p. IsCause f n (public_before p)) cause
        ⊎ IsByOne several_before (λ p. IsCause f n (several_before p)) cause) a b new (λ cause. (λ h. h, λ h. h))
        second third in
        let all = adds-then (IsByParent f n) (λ cause. IsByOne public_before (λ p. IsCause f n (public_before p)) cause
        ⊎ IsByOne several_before (λ p. IsCause f n (several_before p)) cause) (IsCause f n) old a new
        (λ cause. (cause-told cause, told-cause cause)) first rest in
        are-reasons new (λ cause. (
          λ h. elim ((all.causes cause).0 h) [
            | inl before ↦ absurd (Contains-none cause (subst (λ rs. Tells rs cause) none before))
            | inr is ↦ is
          ],
          λ is. (all.causes cause).1 (inr is),
        )) (λ reason h. elim (all.sets reason h) [
          | inl before ↦ absurd (Contains-none reason (subst (λ rs. Contains rs reason) none before))
          | inr its ↦ its
        ]) law

  -- ---- a parent

  -- what the tests tell of a parent that is obsolete or an orphan
  obsolete_or_orphan-told : (p : Node) (o u : Bool) → IsTrue o ↔ IsObsolete f p → IsTrue u ↔ IsOrphan f p
      → IsTrue o ⊎ IsTrue u → IsObsoleteOrOrphan f p o
  obsolete_or_orphan-told p true u obsolete orphan either = obsolete.0 refl
  obsolete_or_orphan-told p false u obsolete orphan (inl t) = absurd (true≢false (sym t))
  obsolete_or_orphan-told p false u obsolete orphan (inr t) = orphan.0 t

  obsolete_or_orphan-one : (p : Node) (b o : Bool) → IsTrue o ↔ IsObsolete f p → IsObsoleteOrOrphan f p b → b ≡ o
  obsolete_or_orphan-one p true o obsolete is = sym (obsolete.1 is)
  obsolete_or_orphan-one p false true obsolete is = absurd (is.0.1 (obsolete.0 refl))
  obsolete_or_orphan-one p false false obsolete is = refl

  pub this-parent : (p : Node) (o u : Bool) → IsTrue o ↔ IsObsolete f p → IsTrue u ↔ IsOrphan f p
      → IsTrue o ⊎ IsTrue u → p ≢ null_node → (cause : Cause) → IsByThis f p cause ↔ (parent p o ≡ cause)
  this-parent p o u obsolete orphan either there cause = (
    λ h. ap (parent p) (sym (obsolete_or_orphan-one p h.0 o obsolete h.2)) ∙ h.3,
    λ is. (o, there, obsolete_or_orphan-told p o u obsolete orphan either, is),
  )

  pub no-parent : (p : Node) (o u : Bool) → IsTrue o ↔ IsObsolete f p → IsTrue u ↔ IsOrphan f p
      → ¬ (IsTrue o ⊎ IsTrue u) → (cause : Cause) → ¬ (IsByThis f p cause)
  no-parent p o u obsolete orphan neither cause h = by h.0 h.2
    where
      by : (b : Bool) → IsObsoleteOrOrphan f p b → ⊥
      by true is = neither (inl (obsolete.1 is))
      by false is = neither (inr (orphan.1 is))

  -- ---- both parents

  -- what is so of the parents of the changeset, which has these two
  pub both-parents : (n : Node) (h : Held) → f.0 n ≡ Some h → IsOrphan f n → (cause : Cause)
      → IsByParent f n cause ↔ (IsByThis f h.changeset.first cause ⊎ IsByThis f h.changeset.second cause)
  both-parents n h held orphan cause = (
    λ by.
        let same : by.2.1.0 ≡ h = same_Some by.2.1.0 h (sym by.2.1.1 ∙ held) in
        let is = subst (λ (x : Held). IsParent x.changeset by.0) same by.2.1.2 in
        elim is.1 [
          | inl e ↦ inl (subst (λ (x : Node). IsByThis f x cause) (sym e) (by.1, is.0, by.2.2, by.3))
          | inr e ↦ inr (subst (λ (x : Node). IsByThis f x cause) (sym e) (by.1, is.0, by.2.2, by.3))
        ],
    λ these. elim these [
      | inl x ↦ (h.changeset.first, x.0, (orphan, (h, held, (x.1, inl refl)), x.2), x.3)
      | inr x ↦ (h.changeset.second, x.0, (orphan, (h, held, (x.1, inr refl)), x.2), x.3)
    ],
  )

-- the changeset that a graph gives is that which is held
pub given-held : (s : ReplicaState) → IsValid s → (n : Node) (c : Contents) → Contains (changesets s.history) c
    → node_of c ≡ n → (h : Held) × ((content_of s).0 n ≡ Some h) × (h.changeset ≡ c)
given-held s v n c at is =
    let h = Contains-map_from (λ (x : Held). x.changeset) s.history.held c at in
    (h.0, content-held s.history v.graph n h.0 h.1 (ap node_of h.2 ∙ is), h.2)

-- ---- what precedes

-- of what precedes a phase-divergent changeset that which is public
pub public-told : (s t : ReplicaState) (n : Node) (ns keys : List Node) (old new : List Reason) → t ≡ s → ns ≡ keys
    → IsPhaseDivergent (content_of s) n
    → ((p : Node) → Contains keys p ↔ Precedes (content_of t) (λ m. ¬ (IsBumpedFix m)) p n)
    → Adds (content_of t) (IsByOne public_before (λ p. Contains ns p × HasPhase (content_of t) p Public)) old new
    → Adds (content_of s) (IsByOne public_before (λ p. IsCause (content_of s) n (public_before p))) old new
public-told s t n ns keys old new e k divergent before adds =
    let P : ReplicaState → List Node → Type 0 = λ u ms. Adds (content_of u)
    (IsByOne public_before (λ p. Contains ms p × HasPhase (content_of u) p Public)) old new in
    let here : P s keys = subst (λ (u : ReplicaState). P u keys) e (subst (P t) k adds) in
    let Q : ReplicaState → Type 0 = λ u. (p : Node) → Contains keys p
    ↔ Precedes (content_of u) (λ m. ¬ (IsBumpedFix m)) p n in
    let there : Q s = subst Q e before in
    adds-same (content_of s) (IsByOne public_before (λ p. Contains keys p × HasPhase (content_of s) p Public))
    (IsByOne public_before (λ p. IsCause (content_of s) n (public_before p))) old new (λ cause. (
      λ h. (h.0, ((there h.0).1 h.1.2, h.1.1), h.2),
      λ h. (h.0, (divergent.0, h.1.1, (there h.0).0 h.1.0), h.2),
    )) here

-- of what precedes a content-divergent changeset that which has several successors sets or is overfull
pub several-told : (s t : ReplicaState) (n : Node) (ns keys found_ns found : List Node) (old new : List Reason)
    → t ≡ s → ns ≡ keys → found_ns ≡ found → IsContentDivergent (content_of s) n
    → ((p : Node) → Contains keys p ↔ Precedes (content_of t) IsAny p n)
    → ((p : Node) → Contains found p ↔ (Contains ns p × HasSeveral (content_of t) p))
    → Adds (content_of t) (IsByOne several_before (Contains found_ns)) old new
    → Adds (content_of s) (IsByOne several_before (λ p. IsCause (content_of s) n (several_before p))) old new
several-told s t n ns keys found_ns found old new e k l divergent before several adds =
    let P : ReplicaState → Type 0 = λ u. Adds (content_of u) (IsByOne several_before (Contains found)) old new in
    let here : P s = subst P e (subst (λ (ms : List Node). Adds (content_of t) (IsByOne several_before (Contains ms))
    old new) l adds) in
    let Q : ReplicaState → Type 0 = λ u. (p : Node) → Contains found p
    ↔ (Precedes (content_of u) IsAny p n × HasSeveral (content_of u) p) in
    let both : Q t = λ p. (
      λ h.
          let x = (several p).0 h in
          ((before p).0 (subst (λ (ms : List Node). Contains ms p) k x.0), x.1),
      λ h. (several p).1 (subst (λ (ms : List Node). Contains ms p) (sym k) ((before p).1 h.0), h.1),
    ) in
    let there : Q s = subst Q e both in
    adds-same (content_of s) (IsByOne several_before (Contains found))
    (IsByOne several_before (λ p. IsCause (content_of s) n (several_before p))) old new (λ cause. (
      λ h. (h.0, (there h.0).1 (h.1.2, h.1.1), h.2),
      λ h. let x = (there h.0).0 h.1 in (h.0, (divergent.0, x.1, x.0), h.2),
    )) here

-- ---- whether there are reasons

cause-unstable : (f : Content) (n : Node) (cause : Cause) → IsCause f n cause → IsUnstable f n
cause-unstable f n (parent p is_obsolete) h = inl h.0
cause-unstable f n (public_before p) h = inr (inl (h.0, (p, h.1, h.2)))
cause-unstable f n (several_before p) h = inr (inr (h.0, (p, h.1, h.2)))

-- where there is a reason the changeset is unstable, and where there is none it isn't
pub reasons-unstable : (f : Content) (n : Node) (reasons : List Reason) → AreReasons f n reasons
    → (length reasons == 0) ≡ false → IsUnstable f n
reasons-unstable f n [] are e = absurd (true≢false e)
reasons-unstable f n (r ∷ rs) are e = cause-unstable f n (cause_of r)
    ((are.exact (cause_of r)).0 (Contains-first (cause_of r) (map cause_of rs)))

pub no-reasons : (f : Content) (n : Node) (reasons : List Reason) → AreReasons f n reasons
    → (length reasons == 0) ≡ true → ¬ (IsUnstable f n)
no-reasons f n [] are e unstable = elim unstable [
  | inl orphan ↦ let h = are.orphan.0 orphan in Contains-none (parent h.0 h.1) h.2
  | inr divergent ↦ elim divergent [
    | inl phase ↦ let h = are.phase_divergent.0 phase in Contains-none (public_before h.0) h.1
    | inr content ↦ let h = are.content_divergent.0 content in Contains-none (several_before h.0) h.1
  ]
]
no-reasons f n (r ∷ rs) are e unstable = absurd (true≢false (sym e ∙ some_length r rs))
  where
    some_length : (x : Reason) (xs : List Reason) → (length (x ∷ xs) == 0) ≡ false
    some_length x xs = grind (arith, nat_tests)
