-- What a few look-ups tell of a change is so: what was moved is as stable as before, and what its only new marker
-- rewrote becomes extinct.
use Rattle.std.proofs.Common.{◌≡◌, ◌⊎◌, ◌↔◌, ◌++◌, [], List, Contains, inl, inr, refl, sym, ap, subst, ◌∙◌}
use Rattle.std.proofs.lemmas.List.Elements.{Contains-append_left, Contains-append_right, Contains-append_cases}
use Rattle.hg_changeset.specs.declared.node.Node.{Node}
use Rattle.hg_changeset.proofs.NodeLemmas.{node_cases}
use Rattle.hg_changeset.proofs.ListLemmas.{Contains-none, Contains-from_place}
use Rattle.hg_phases.specs.declared.phase.Phase.TheVariants.{Public}
use Rattle.hg_history.specs.Content.{IsHeld}
use Rattle.hg_marker.specs.Fields.{Fields}
use Rattle.hg_obsstore.proofs.IndexLemmas.{among_or_not}
use Rattle.hg_replica.specs.Change.{ChangeValue}
use Rattle.hg_replica.specs.Content.{Content, content_of}
use Rattle.hg_replica.specs.State.{ReplicaState, IsValid}
use Rattle.hg_replica.specs.Evolution.{IsPredecessor, IsObsolete, IsCurrent, IsOrphan, IsSuspended, IsExtinct}
use Rattle.hg_replica.specs.Evolution.{IsPhaseDivergent}
use Rattle.hg_replica.proofs.MarkerLemmas.{holds-from}
use Rattle.hg_instab.specs.AfterPublic.{IsSource, IsAfterAny, IsStart as IsWalkStart}
use Rattle.hg_instab.specs.Amend.{IsOnlyFresh}
use Rattle.hg_instab.specs.Changed.{IsFresh, IsMoved, IsChangedTo, IsSeed, Follows}
use Rattle.hg_instab.specs.declared.turning.Turning.TheVariants.{Nothing, NewlyExtinct}
use Rattle.hg_instab.specs.Instabilities.{IsContentDivergent, InstabilitySets, AreInstabilities}
use Rattle.hg_instab.specs.Local.{IsParentOf, StandsUnstably, HoldsNothing}
use Rattle.hg_instab.specs.Near.{IsAfterPublic, IsRegion}
use Rattle.hg_instab.specs.Quick.{IsInNoSet, IsLeaf, IsStable, AreStable, AreUnchanged, IsRewrittenLeaf}
use Rattle.hg_instab.specs.Region.{IsTouched, AreStarts}
use Rattle.hg_instab.specs.Turns.{GainsExtinct, TurnsTo}
use Rattle.hg_instab.proofs.AddedLemmas as touched
use Rattle.hg_instab.proofs.AfterPublicLemmas.{after-unmet}
use Rattle.hg_instab.proofs.ChangedLemmas.{held-after, parent-after, parent-before, predecessor-after}
use Rattle.hg_instab.proofs.ChangedLemmas.{obsolete-untouched, current-untouched}
use Rattle.hg_instab.proofs.KeptLemmas.{changed-follows, suspended-told, near-same, flip, set-along}
use Rattle.hg_instab.proofs.LocalLemmas.{orphan-by_parents, extinct-by_children}
use Rattle.hg_instab.proofs.NearLemmas.{near-after, outside-divergent}
use Rattle.hg_instab.proofs.QueryLemmas.{phase_from_mutable}
use Rattle.hg_instab.proofs.RegionLemmas.{no-region}
use Rattle.hg_instab.proofs.SetLemmas.{along}
use Rattle.hg_instab.proofs.SolutionLemmas.{orphans-solved, extinct-solved}

neither : {A B : Type 0} → ¬ A → ¬ B → A ↔ B
neither a b = (λ h. absurd (a h), λ h. absurd (b h))

-- a marker rewrote it, and it was current and in no set
record IsGone (f g : Content) (sets : InstabilitySets) (n : Node) : Type 0 where
  leaf : IsLeaf g n
  rewritten : IsPredecessor g n
  current : IsCurrent f n
  in_no_set : IsInNoSet sets n

module _ (s t : ReplicaState) (change : ChangeValue) (v : IsValid s) (w : IsValid t)
    (follows : Follows (content_of s) (content_of t) change t.markers) (sets : InstabilitySets)
    (at : AreInstabilities (content_of s) sets) (moved : List Node) (IsNew : Node → Type 0)
    (new-or : (n : Node) → IsNew n ⊎ (¬ (IsNew n)))
    (seeded : (n : Node) → IsSeed t.markers change n → Contains moved n ⊎ IsNew n)
    (still : (n : Node) → Contains moved n → IsStable (content_of t) sets n × IsInNoSet sets n)
    (gone : (n : Node) → IsNew n → IsGone (content_of s) (content_of t) sets n) where
  abbrev f : Content
  f = content_of s

  abbrev g : Content
  g = content_of t

  abbrev IsOut : Node → Type 0
  IsOut n = ¬ (IsSeed t.markers change n)

  side : (n : Node) → Contains moved n ⊎ (IsNew n ⊎ IsOut n)
  side n = elim (among_or_not moved n) [
    | inl moves ↦ inl moves
    | inr stays ↦ elim (new-or n) [
      | inl new ↦ inr (inl new)
      | inr old ↦ inr (inr (λ seed. elim (seeded n seed) [ inl moves ↦ stays moves | inr new ↦ old new ]))
    ]
  ]

  apart-or : (n : Node) → IsInNoSet sets n ⊎ IsOut n
  apart-or n = elim (side n) [
    | inl moves ↦ inl (still n moves).1
    | inr other ↦ elim other [ inl new ↦ inl (gone n new).in_no_set | inr out ↦ inr out ]
  ]

  obsolete-as : (n : Node) → IsOut n → IsObsolete g n ↔ IsObsolete f n
  obsolete-as = obsolete-untouched f g change t.markers follows

  current-as : (n : Node) → IsOut n → IsCurrent g n ↔ IsCurrent f n
  current-as = current-untouched f g change t.markers follows

  -- ---- obsolete

  new-obsolete : (n : Node) → IsNew n → IsObsolete g n
  new-obsolete n new = let it = gone n new in (it.leaf.0, it.rewritten)

  moved-never : (n : Node) → Contains moved n → ¬ (IsObsolete g n)
  moved-never n moves o = (still n moves).0.last o.1

  moved-wasnt : (n : Node) → Contains moved n → ¬ (IsObsolete f n)
  moved-wasnt n moves o = (still n moves).0.last (predecessor-after f g change t.markers follows n o.1)

  still-obsolete : (n : Node) → IsObsolete f n → IsObsolete g n
  still-obsolete n o = elim (side n) [
    | inl moves ↦ absurd (moved-wasnt n moves o)
    | inr other ↦ elim other [ inl new ↦ new-obsolete n new | inr out ↦ (obsolete-as n out).1 o ]
  ]

  obsolete-before : (n : Node) → IsObsolete g n → IsObsolete f n ⊎ IsNew n
  obsolete-before n o = elim (side n) [
    | inl moves ↦ absurd (moved-never n moves o)
    | inr other ↦ elim other [ inl new ↦ inr new | inr out ↦ inl ((obsolete-as n out).0 o) ]
  ]

  obsolete-now : (n : Node) → (Contains sets.obsolete n ⊎ IsNew n) ↔ IsObsolete g n
  obsolete-now n = (
    λ h. elim h [ inl was ↦ still-obsolete n ((at.obsolete n).0 was) | inr new ↦ new-obsolete n new ],
    λ o. elim (obsolete-before n o) [ inl was ↦ inl ((at.obsolete n).1 was) | inr new ↦ inr new ],
  )

  -- ---- orphans

  orphan-told : (n : Node) → IsHeld g.0 n → Contains sets.orphan n ↔ StandsUnstably g (Contains sets.orphan) n
  orphan-told n held = elim (side n) [
    | inl moves ↦ let it = still n moves in neither it.1.orphan (λ h. it.0.stands h.1.0 h.1.1 h.1.2)
    | inr other ↦ elim other [
      | inl new ↦ neither (gone n new).in_no_set.orphan (λ h. h.0.1 (new-obsolete n new))
      | inr out ↦ (
        λ h. let x = (orphan-by_parents s v n).0 ((at.orphan n).0 h) in (
          (current-as n out).1 x.0,
          (
            x.1.0,
            parent-after f g change t.markers follows x.1.0 n x.1.1,
            elim x.1.2 [
              | inl o ↦ inl (still-obsolete x.1.0 o)
              | inr orphan ↦ inr ((at.orphan x.1.0).1 orphan)
            ],
          ),
        ),
        λ h. (at.orphan n).1 ((orphan-by_parents s v n).1 (
          (current-as n out).0 h.0,
          (
            h.1.0,
            parent-before f g change t.markers follows h.1.0 n (λ moves. out (inl moves)) h.1.1,
            elim h.1.2 [
              | inl o ↦ elim (obsolete-before h.1.0 o)
                  [ inl was ↦ inl was | inr new ↦ absurd ((gone h.1.0 new).leaf.1 n h.1.1) ]
              | inr orphan ↦ inr ((at.orphan h.1.0).0 orphan)
            ],
          ),
        )),
      )
    ]
  ]

  orphan-now : (n : Node) → Contains sets.orphan n ↔ IsOrphan g n
  orphan-now = orphans-solved t w (Contains sets.orphan)
      (λ n h. let o = (at.orphan n).0 h in held-after f g change t.markers follows n (o.0.0.0, o.0.0.1)) orphan-told

  -- ---- extinct

  abbrev IsOver : Node → Type 0
  IsOver n = Contains sets.extinct n ⊎ IsNew n

  over-or : (n : Node) → IsOver n ⊎ (¬ (IsOver n))
  over-or n = elim (among_or_not sets.extinct n) [
    | inl was ↦ inl (inl was)
    | inr none ↦ elim (new-or n) [
      | inl new ↦ inl (inr new)
      | inr old ↦ inr (λ h. elim h [ inl was ↦ none was | inr new ↦ old new ])
    ]
  ]

  -- what stood on something obsolete was an orphan, unless it was obsolete itself
  new-apart : (p c : Node) → IsObsolete f p → IsParentOf f p c → ¬ (IsNew c)
  new-apart p c o parent new =
      let it = gone c new in
      it.in_no_set.orphan ((at.orphan c).1 ((orphan-by_parents s v c).1 (it.current, (p, parent, inl o))))

  over-child : (n c : Node) → IsObsolete g n → IsExtinct f n → IsParentOf g n c → IsOver c
  over-child n c o x parent = elim (side c) [
    | inl moves ↦ absurd ((still c moves).0.stands n parent (inl o))
    | inr other ↦ elim other [
      | inl new ↦ inr new
      | inr out ↦ inl ((at.extinct c).1 (((extinct-by_children s v n).0 x).1 c
          (parent-before f g change t.markers follows n c (λ moves. out (inl moves)) parent)))
    ]
  ]

  over-told : (n : Node) → IsHeld g.0 n → IsOver n ↔ HoldsNothing g IsOver n
  over-told n held = (
    λ h. elim h [
      | inl was ↦
          let x = (at.extinct n).0 was in
          let o = still-obsolete n x.0 in
          (o, λ c parent. over-child n c o x parent)
      | inr new ↦ (new-obsolete n new, λ c parent. absurd ((gone n new).leaf.1 c parent))
    ],
    λ h. elim (obsolete-before n h.0) [
      | inl o ↦ inl ((at.extinct n).1 ((extinct-by_children s v n).1 (
        o,
        λ c parent. elim (h.1 c (parent-after f g change t.markers follows n c parent))
            [ inl was ↦ (at.extinct c).0 was | inr new ↦ absurd (new-apart n c o parent new) ],
      )))
      | inr new ↦ inr new
    ],
  )

  extinct-now : (n : Node) → IsOver n ↔ IsExtinct g n
  extinct-now = extinct-solved t w IsOver held over-told
    where
      held : (n : Node) → IsOver n → IsHeld g.0 n
      held n h = elim h [
        | inl was ↦ let o = ((at.extinct n).0 was).0 in held-after f g change t.markers follows n (o.0.0, o.0.1)
        | inr new ↦ let m = (gone n new).leaf.0 in (m.0, m.1)
      ]

  -- ---- suspended

  suspended-now : (n : Node) → Contains sets.suspended n ↔ IsSuspended g n
  suspended-now n = along by (flip (suspended-told t w IsOver over-or extinct-now n))
    where
      was : IsSuspended f n ↔ (IsObsolete f n × ¬ (Contains sets.extinct n))
      was = suspended-told s v (Contains sets.extinct) (among_or_not sets.extinct) at.extinct n

      by : Contains sets.suspended n ↔ (IsObsolete g n × ¬ (IsOver n))
      by = (
        λ h. let x = was.0 ((at.suspended n).0 h) in (
          still-obsolete n x.0,
          λ is. elim is [ inl over ↦ x.1 over | inr new ↦ (gone n new).current.1 x.0 ],
        ),
        λ h. elim (obsolete-before n h.0) [
          | inl o ↦ (at.suspended n).1 (was.1 (o, λ over. h.1 (inl over)))
          | inr new ↦ absurd (h.1 (inr new))
        ],
      )

  -- ---- divergent

  module _ (after : (n : Node) → Contains sets.after_public n ↔ IsAfterPublic g n)
      (is : IsRegion g change t.markers sets.near_forks []) where
    phase_divergent-now : (n : Node) → Contains sets.phase_divergent n ↔ IsPhaseDivergent g n
    phase_divergent-now n = elim (apart-or n) [
      | inl apart ↦ neither
          (λ h. apart.after_public ((at.after_public n).1 ((at.phase_divergent n).0 h).1))
          (λ h. apart.after_public ((after n).1 h.1))
      | inr out ↦ (
        λ h.
            let d = (at.phase_divergent n).0 h in
            ((current-as n out).1 d.0, (after n).0 ((at.after_public n).1 d.1)),
        λ h. (at.phase_divergent n).1
            ((current-as n out).0 h.0, (at.after_public n).0 ((after n).1 h.1)),
      )
    ]

    content_divergent-now : (n : Node) → Contains sets.content_divergent n ↔ IsContentDivergent g n
    content_divergent-now n =
        let so = outside-divergent f g change t.markers sets.near_forks [] follows at.near_forks is n
        (Contains-none n) in (
          λ h. let d = (at.content_divergent n).0 h in elim (apart-or n) [
            | inl apart ↦ absurd (apart.content_divergent h)
            | inr out ↦ so.1 (d, (current-as n out).1 d.0)
          ],
          λ h. (at.content_divergent n).1 (so.0 h).0,
        )

    -- the sets that have gained what is newly extinct are what those of the content after the change are to be
    all-now : (now : InstabilitySets) → GainsExtinct sets IsNew now → AreInstabilities g now
    all-now now gains = record {
      obsolete = λ n. along (gains.obsolete n) (obsolete-now n);
      orphan = set-along now.orphan sets.orphan (IsOrphan g) gains.orphan orphan-now;
      suspended = set-along now.suspended sets.suspended (IsSuspended g) gains.suspended suspended-now;
      extinct = λ n. along (gains.extinct n) (extinct-now n);
      phase_divergent = set-along now.phase_divergent sets.phase_divergent (IsPhaseDivergent g)
          gains.phase_divergent phase_divergent-now;
      content_divergent = set-along now.content_divergent sets.content_divergent (IsContentDivergent g)
          gains.content_divergent content_divergent-now;
      after_public = set-along now.after_public sets.after_public (IsAfterPublic g) gains.after_public after;
      near_forks = near-same g (λ n. Contains sets.near_forks n ⊎ Contains [] n) (Contains now.near_forks)
          (λ n. subst (λ ns. Contains ns n ↔ (Contains sets.near_forks n ⊎ Contains [] n)) (sym gains.near_forks)
          (inl, λ h. elim h [ inl was ↦ was | inr new ↦ absurd (Contains-none n new) ]))
          (near-after f g change t.markers sets.near_forks [] follows at.near_forks is);
    }

-- ---- what the look-ups tell

module _ (s t : ReplicaState) (change : ChangeValue) (v : IsValid t) (is : IsChangedTo s change t)
    (sets : InstabilitySets) (at : AreInstabilities (content_of s) sets)
    (stable : AreStable (content_of t) sets change.added)
    (unchanged : AreUnchanged (content_of t) sets change.lowered) where
  abbrev Before : Content
  Before = content_of s

  abbrev After : Content
  After = content_of t

  follows : Follows Before After change t.markers
  follows = changed-follows s t change v is

  abbrev moved : List Node
  moved = change.added ++ change.lowered

  moved-in : (n : Node) → IsMoved change n → Contains moved n
  moved-in n (inl added) = Contains-append_left change.added change.lowered n added
  moved-in n (inr low) = Contains-append_right change.added change.lowered n low

  -- what was added was in no set, as it wasn't held
  added-apart : (n : Node) → Contains change.added n → IsInNoSet sets n
  added-apart n added =
      let not_held = touched.not_held-before s t change v is n added in
      record {
        orphan = λ h. let o = (at.orphan n).0 h in not_held (o.0.0.0, o.0.0.1);
        suspended = λ h. let o = ((at.suspended n).0 h).0 in not_held (o.0.0, o.0.1);
        after_public = (stable n added).1.after_public;
        content_divergent = λ h. let d = (at.content_divergent n).0 h in not_held (d.0.0.0, d.0.0.1);
      }

  still : (n : Node) → Contains moved n → IsStable After sets n × IsInNoSet sets n
  still n moves = elim (Contains-append_cases change.added change.lowered n moves)
      [ inl added ↦ ((stable n added).0, added-apart n added) | inr low ↦ unchanged n low ]

  -- a marker begins no walk: what it rewrote isn't public or after that, and it doesn't come near forks
  abbrev IsQuiet : Fields → Type 0
  IsQuiet m = (¬ (IsSource After sets.after_public m.predecessor)) × ¬ (IsTouched t.markers sets.near_forks m)

  module _ (quiet : (m : Fields) → IsFresh t.markers change m → IsQuiet m) where
    -- no walk begins after something public
    any-walk : (nodes : List Node) → ((n : Node) → Contains nodes n → ¬ (IsPredecessor After n)) → (n : Node)
        → IsAfterAny After t.markers nodes n → ⊥
    any-walk nodes last n h = let m = h.2.1.0 in last h.0 h.1 (m, holds-from t.markers m h.2.1.1, h.2.1.2)

    no-walk : (n : Node) → IsWalkStart After change t.markers sets.after_public n → ⊥
    no-walk n (inl fresh) = (quiet fresh.0 fresh.1).0 fresh.2.0
    no-walk n (inr (inl h)) = any-walk change.added (λ p added. (stable p added).0.last) n h
    no-walk n (inr (inr h)) = any-walk change.lowered (λ p low. (unchanged p low).0.last) n h

    after : (n : Node) → Contains sets.after_public n ↔ IsAfterPublic After n
    after n =
        let met = after-unmet s t change sets.after_public follows at.after_public no-walk n in (
          λ h. met.1 (inl h),
          λ h. elim (met.0 h) [ inl was ↦ was | inr new ↦ absurd (Contains-none n new) ],
        )

    -- nor a region
    starts : AreStarts t.markers change sets.near_forks []
    starts n = (
      λ h. absurd (Contains-none n h),
      λ h. elim h [
        | inl start ↦ absurd ((quiet start.2 (start.0, start.1, start.3)).1 start.4.0)
        | inr added ↦ absurd ((stable n added.0).1.near added.1)
      ],
    )

    now-told : (IsNew : Node → Type 0) → ((n : Node) → IsNew n ⊎ (¬ (IsNew n)))
        → ((n : Node) → IsSeed t.markers change n → Contains moved n ⊎ IsNew n)
        → ((n : Node) → IsNew n → IsGone Before After sets n) → (now : InstabilitySets) → GainsExtinct sets IsNew now
        → AreInstabilities After now
    now-told IsNew new-or seeded gone = all-now s t change is.valid v follows sets at moved IsNew new-or seeded still
        gone after (no-region t change sets.near_forks [] refl starts)

  -- ---- without a new marker

  pub nothing-told : change.markers ≡ [] → TurnsTo After sets Nothing
  nothing-told unmarked = now-told (λ m fresh. absurd (no-fresh m fresh)) (λ n. ⊥) (λ n. inr (λ h. h))
      (λ n seed. inl (elim seed [ inl moves ↦ moved-in n moves | inr fresh ↦ absurd (no-fresh fresh.0 fresh.1) ]))
      (λ n h. absurd h) sets (record {
        obsolete = λ n. (inl, λ h. elim h [ inl was ↦ was | inr new ↦ absurd new ]);
        extinct = λ n. (inl, λ h. elim h [ inl was ↦ was | inr new ↦ absurd new ]);
        orphan = refl;
        suspended = refl;
        phase_divergent = refl;
        content_divergent = refl;
        after_public = refl;
        near_forks = refl;
      })
    where
      no-fresh : (m : Fields) → IsFresh t.markers change m → ⊥
      no-fresh m fresh = Contains-none fresh.0 (subst (λ ps. Contains ps fresh.0) unmarked fresh.1)

  -- ---- with one

  module _ (m : Fields) (one : IsOnlyFresh t.markers change m) (leaf : IsRewrittenLeaf t sets m) where
    abbrev from : Node
    from = m.predecessor

    fresh-is : (x : Fields) → IsFresh t.markers change x → x ≡ m
    fresh-is = touched.fresh-is s t change v is m one

    rewritten : IsPredecessor After from
    rewritten = (m, holds-from t.markers m (Contains-from_place t.markers one.0 m one.2), refl)

    from-gone : IsGone Before After sets from
    from-gone =
        let mutable = leaf.leaf.0 in
        let same : After.0 from ≡ Before.0 from =
        follows.same from (λ moves. (still from (moved-in from moves)).0.last rewritten) in
        record {
          leaf = leaf.leaf;
          rewritten = rewritten;
          current = (
            (mutable.0, sym same ∙ mutable.1, mutable.2),
            λ o. touched.not_rewritten-before s t change v is m one leaf.once o.1,
          );
          in_no_set = leaf.in_no_set;
        }

    quiet-marker : IsQuiet m
    quiet-marker = (
      λ h. elim h [
        | inl public ↦ phase_from_mutable After from Public public leaf.leaf.0 refl
        | inr after ↦ leaf.in_no_set.after_public after
      ],
      λ h. elim h [ inl fork ↦ leaf.once fork | inr near ↦ leaf.away near ],
    )

    pub extinct-told : TurnsTo After sets (NewlyExtinct from)
    extinct-told = now-told (λ x fresh. subst IsQuiet (sym (fresh-is x fresh)) quiet-marker) (λ n. n ≡ from)
        (λ n. node_cases n from)
        (λ n seed. elim seed [
          | inl moves ↦ inl (moved-in n moves)
          | inr fresh ↦ inr (sym fresh.2 ∙ ap (λ x. x.predecessor) (fresh-is fresh.0 fresh.1))
        ])
        (λ n e. subst (IsGone Before After sets) (sym e) from-gone)
