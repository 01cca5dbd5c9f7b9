-- What divergence comes from is near forks: nothing else has several successors sets, and a change turns nothing
-- outside its region.
use Rattle.std.proofs.Common.{◌≡◌, ◌≢◌, ◌≤◌, Bool, true, false, true≢false, ◌⊎◌, ◌↔◌, List, Contains, Some, inl, inr}
use Rattle.std.proofs.Common.{refl, sym, ap, subst, ◌∙◌, arith}
use Rattle.std.proofs.lemmas.Option.{same_Some}
use Rattle.hg_changeset.specs.declared.node.Node.{Node}
use Rattle.hg_phases.specs.declared.phase.Phase.TheVariants.{Public}
use Rattle.hg_phases.specs.State.{Held, rank}
use Rattle.hg_phases.proofs.RankLemmas.{rank-apart}
use Rattle.hg_marker.specs.Fields.{Fields}
use Rattle.hg_marker.specs.Same.{same_fields, fields_decides}
use Rattle.hg_obsstore.proofs.IndexLemmas.{among_or_not}
use Rattle.hg_replica.specs.Content.{Content}
use Rattle.hg_replica.specs.Change.{ChangeValue}
use Rattle.hg_replica.specs.Evolution.{IsMarker, IsCurrent, Precedes}
use Rattle.hg_replica.specs.Evolution.Precedes.{step, further}
use Rattle.hg_succ.specs.Alike.{AreAlikeOn}
use Rattle.hg_succ.specs.Successors.{IsAny, HasSeveral}
use Rattle.hg_succ.proofs.SingleLemmas.{IsSingle, single_not_several}
use Rattle.hg_succ.proofs.AlikeLemmas.{alike-back, precedes-alike, several-alike}
use Rattle.hg_instab.specs.Changed.{IsFresh, Follows}
use Rattle.hg_instab.specs.Instabilities.{IsContentDivergent}
use Rattle.hg_instab.specs.Near.{IsAfterSeveral, IsForked, IsNamed, IsClosed, AreNearForks, IsRegion}
use Rattle.hg_instab.proofs.ChangedLemmas.{marker-after, predecessor-after}
use Rattle.hg_instab.proofs.PrecedeLemmas.{precedes-along}

-- ---- along markers

module _ (f : Content) (P : Node → Type 0) (closed : IsClosed f P) where
  -- what is so of what precedes is so of what it precedes, and the other way
  pub so-forward : (Kind : Fields → Type 0) (p n : Node) → Precedes f Kind p n → P p → P n
  so-forward Kind p n (step {m = m} held kind at is) so =
      closed m m.predecessor n held (inl refl) (inr at) (subst P (sym is) so)
  so-forward Kind p n (further {m = m} held kind at r) so =
      closed m m.predecessor n held (inl refl) (inr at) (so-forward Kind p m.predecessor r so)

  pub so-backward : (Kind : Fields → Type 0) (p n : Node) → Precedes f Kind p n → P n → P p
  so-backward Kind p n (step {m = m} held kind at is) so =
      subst P is (closed m n m.predecessor held (inr at) (inl refl) so)
  so-backward Kind p n (further {m = m} held kind at r) so =
      so-backward Kind p m.predecessor r (closed m n m.predecessor held (inr at) (inl refl) so)

-- ---- what isn't near forks

module _ (f : Content) (P : Node → Type 0) (near : AreNearForks f P) (p : Node) (out : ¬ (P p)) where
  -- what it leads to isn't near either
  leads-out : (x : Node) → (p ≡ x) ⊎ Precedes f IsAny p x → ¬ (P x)
  leads-out x (inl same) so = out (subst P (sym same) so)
  leads-out x (inr way) so = out (so-backward f P near.closed IsAny p x way so)

  single-out : (x : Node) → (p ≡ x) ⊎ Precedes f IsAny p x → IsSingle f x
  single-out x way a b held there at its = same (same_fields a b) refl
    where
      same : (v : Bool) → same_fields a b ≡ v → a ≡ b
      same true e = (fields_decides a b).0 e
      same false e =
          let differ : a ≢ b = λ is. true≢false (sym ((fields_decides a b).1 is) ∙ e) in
          absurd (leads-out x way (near.forks x (a, b, differ, held, there, at, its)))

  -- so it hasn't several successors sets
  pub not_near_several : ¬ (HasSeveral f p)
  not_near_several several = single_not_several f p single-out several

-- and nothing that has precedes it
pub not_near : (f : Content) (P : Node → Type 0) → AreNearForks f P → (n : Node) → ¬ (P n) → ¬ (IsAfterSeveral f n)
not_near f P near n out after =
    not_near_several f P near after.0 (λ so. out (so-forward f P near.closed IsAny after.0 n after.2 so)) after.1

-- so all that is content-divergent is near
pub near-divergent : (f : Content) (near : List Node) → AreNearForks f (Contains near) → (n : Node)
    → (Contains near n × IsContentDivergent f n) ↔ IsContentDivergent f n
near-divergent f near are n = (
  λ h. h.1,
  λ h. elim (among_or_not near n) [
    | inl so ↦ (so, h)
    | inr far ↦ absurd (not_near f (Contains near) are n far h.1)
  ],
)

-- ---- after a change

module _ (f g : Content) (change : ChangeValue) (ms : List Fields) (near region : List Node)
    (follows : Follows f g change ms) (forks : AreNearForks f (Contains near))
    (is : IsRegion g change ms near region) where
  -- near forks after the change is what was near before, and the region
  abbrev IsNear : Node → Type 0
  IsNear n = Contains near n ⊎ Contains region n

  near-forks : (n : Node) → IsForked g n → IsNear n
  near-forks n fork = elim ((follows.markers fork.0).0 fork.3) [
    | inl first ↦ elim ((follows.markers fork.1).0 fork.4) [
      | inl second ↦ inl (forks.forks n (fork.0, fork.1, fork.2, first, second, fork.5, fork.6))
      | inr fresh ↦ inr (forked fork.1 fresh fork.6)
    ]
    | inr fresh ↦ inr (forked fork.0 fresh fork.5)
  ]
    where
      forked : (m : Fields) → IsFresh ms change m → m.predecessor ≡ n → Contains region n
      forked m fresh at = subst (Contains region) at (is.forked m fresh (subst (IsForked g) (sym at) fork))

  -- what a fresh marker names with what was near is in the region
  fresh-near : (m : Fields) (a b : Node) → IsMarker g m → IsFresh ms change m → IsNamed m a → IsNamed m b
      → Contains near a → Contains region b
  fresh-near m a b held fresh at its so =
      is.closed m m.predecessor b held (inl refl) its (is.fresh m a fresh at so)

  near-closed : IsClosed g IsNear
  near-closed m a b held at its (inr so) = inr (is.closed m a b held at its so)
  near-closed m a b held at its (inl so) = elim ((follows.markers m).0 held) [
    | inl old ↦ inl (forks.closed m a b old at its so)
    | inr fresh ↦ inr (fresh-near m a b held fresh at its so)
  ]

  pub near-after : AreNearForks g (λ n. Contains near n ⊎ Contains region n)
  near-after = record { forks = near-forks; closed = near-closed }

  -- ---- outside the region

  -- near forks, and outside the region
  abbrev IsBeyond : Node → Type 0
  IsBeyond n = Contains near n × ¬ (Contains region n)

  beyond-alike : AreAlikeOn IsBeyond f g
  beyond-alike = record {
    held = λ n kept. (
      λ h. let there = follows.above n h.0 h.1 in (there.0, there.1),
      λ h. elim (follows.held n h) [ inl old ↦ old | inr added ↦ absurd (kept.1 (is.added n added kept.0)) ],
    );
    markers = λ m kept. (
      marker-after f g change ms follows m,
      λ h. elim ((follows.markers m).0 h) [
        | inl old ↦ old
        | inr fresh ↦ absurd (kept.1 (is.fresh m m.predecessor fresh (inl refl) kept.0))
      ],
    );
    closed = λ m n kept held at. (
      forks.closed m m.predecessor n held (inl refl) (inr at) kept.0,
      λ so. kept.1
          (is.closed m n m.predecessor (marker-after f g change ms follows m held) (inr at) (inl refl) so),
    );
  }

  -- what precedes what is kept is kept
  beyond-before : (p n : Node) → Precedes g IsAny p n → IsBeyond n → IsBeyond p
  beyond-before p n way kept =
      let out : ¬ (Contains region p) = λ so. kept.1 (so-forward g (Contains region) is.closed IsAny p n way so) in (
        elim (so-backward g IsNear near-closed IsAny p n way (inl kept.0)) [
          | inl so ↦ so
          | inr so ↦ absurd (out so)
        ],
        out,
      )

  precedes-after : (p n : Node) → Precedes f IsAny p n → Precedes g IsAny p n
  precedes-after p n = precedes-along f g IsAny (λ k. Unit {0})
      (λ m k held at so. (marker-after f g change ms follows m held, tt)) p n tt

  beyond-several : (n : Node) → IsBeyond n → IsAfterSeveral f n ↔ IsAfterSeveral g n
  beyond-several n kept = (
    λ h.
        let way = precedes-after h.0 n h.2 in
        (h.0, several-alike IsBeyond f g beyond-alike h.0 (beyond-before h.0 n way kept) h.1, way),
    λ h.
        let before = beyond-before h.0 n h.2 kept in
        let back = alike-back IsBeyond f g beyond-alike in (
          h.0,
          several-alike IsBeyond g f back h.0 before h.1,
          (precedes-alike IsBeyond g f back IsAny h.0 n before h.2).0,
        ),
  )

  -- what comes from several successors sets after the change is near, or in the region
  several-near : (n : Node) → ¬ (Contains region n) → IsAfterSeveral g n → Contains near n
  several-near n out after = elim (among_or_not near n) [
    | inl so ↦ so
    | inr far ↦ absurd (not_near g IsNear near-after n (λ so. elim so [ inl h ↦ far h | inr h ↦ out h ]) after)
  ]

  pub outside-alike : (n : Node) → ¬ (Contains region n) → IsAfterSeveral f n ↔ IsAfterSeveral g n
  outside-alike n out = (
    λ h. elim (among_or_not near n) [
      | inl so ↦ (beyond-several n (so, out)).0 h
      | inr far ↦ absurd (not_near f (Contains near) forks n far h)
    ],
    λ h. (beyond-several n (several-near n out h, out)).1 h,
  )

  -- ---- divergence

  -- what was held and isn't public after wasn't before
  mutable-before : (n : Node) (h k : Held) → f.0 n ≡ Some h → g.0 n ≡ Some k → k.phase ≢ Public → h.phase ≢ Public
  mutable-before n h k before after not_public public =
      let there = follows.above n h before in
      let same : there.0 ≡ k = same_Some there.0 k (sym there.1 ∙ after) in
      let low : rank k.phase ≤ rank h.phase = subst (λ (x : Held). rank x.phase ≤ rank h.phase) same there.3 in
      let none : rank h.phase ≡ 0 = ap rank public in
      let lowest : rank k.phase ≡ rank Public = omega (arith, low, none) in
      not_public (rank-apart k.phase Public lowest)

  -- what is current and comes from several, outside the region, was current
  current-before : (n : Node) → ¬ (Contains region n) → IsAfterSeveral g n → IsCurrent g n → IsCurrent f n
  current-before n out after current = (
    elim (follows.held n (current.0.0, current.0.1)) [
      | inl old ↦ (old.0, old.1, mutable-before n old.0 current.0.0 old.1 current.0.1 current.0.2)
      | inr added ↦ absurd (out (is.added n added (several-near n out after)))
    ],
    λ obsolete. current.1 (current.0, predecessor-after f g change ms follows n obsolete.1),
  )

  pub outside-divergent : (n : Node) → ¬ (Contains region n)
      → IsContentDivergent g n ↔ (IsContentDivergent f n × IsCurrent g n)
  outside-divergent n out = (
    λ h. ((current-before n out h.1 h.0, (outside-alike n out).1 h.1), h.0),
    λ h. (h.1, (outside-alike n out).0 h.0.1),
  )
