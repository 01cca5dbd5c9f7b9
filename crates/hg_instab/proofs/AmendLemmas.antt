-- A plain amend near forks turns two ids: what came of several successors sets is as it was, with the new changeset in
-- the place of the old one.
use Rattle.std.proofs.Common.{◌≡◌, ◌≢◌, ◌⊎◌, ◌↔◌, ◌∷◌, [], ℕ, List, length, Contains}
use Rattle.std.proofs.Common.{inl, inr, refl, sym, ap, subst, ◌∙◌, arith}
use Rattle.hg_changeset.specs.declared.node.Node.{Node}
use Rattle.hg_changeset.proofs.NodeLemmas.{node_cases}
use Rattle.hg_changeset.proofs.ListLemmas.{Contains-first, Contains-none, Contains-one}
use Rattle.hg_changeset.proofs.ListLemmas.{Contains-later, Contains-cons_cases}
use Rattle.hg_marker.specs.Fields.{Fields}
use Rattle.hg_obsstore.specs.Markers.{IsAt, ArePlaces}
use Rattle.hg_history.specs.Content.{IsHeld}
use Rattle.hg_replica.specs.Change.{ChangeValue}
use Rattle.hg_replica.specs.Content.{Content, content_of}
use Rattle.hg_replica.specs.State.{ReplicaState, IsValid}
use Rattle.hg_replica.specs.Evolution.{IsMarker, IsPredecessor, IsObsolete, IsCurrent, Precedes}
use Rattle.hg_replica.specs.Evolution.Precedes.{step, further}
use Rattle.hg_succ.specs.Renamed.{IsAmended}
use Rattle.hg_succ.specs.Successors.{IsAny}
use Rattle.hg_succ.proofs.RenamedLemmas.{amend_few, amend_several}
use Rattle.hg_instab.specs.declared.amend.Amend.{Amend}
use Rattle.hg_instab.specs.Amend.{IsPlainAmend}
use Rattle.hg_instab.specs.Changed.{IsFresh, IsMoved, IsChangedTo, Follows}
use Rattle.hg_instab.specs.Instabilities.{IsContentDivergent}
use Rattle.hg_instab.specs.Near.{IsAfterSeveral, IsForked, IsNamed, AreNearForks}
use Rattle.hg_instab.specs.Walk.{IsFork}
use Rattle.hg_instab.proofs.AddedLemmas as single
use Rattle.hg_instab.proofs.ChangedLemmas.{current-untouched}
use Rattle.hg_instab.proofs.KeptLemmas.{changed-follows}
use Rattle.hg_instab.proofs.PrecedeLemmas.{precedes-along}

-- ---- lists

-- where there is one place two that are so are the same
pub one-place : {P : Fields → Type 0} (ms : List Fields) (places : List ℕ) → ArePlaces P ms places → length places ≡ 1
    → (i j : ℕ) → IsAt P ms i → IsAt P ms j → i ≡ j
one-place ms [] are l i j at its = absurd (omega (arith, l))
one-place ms (k ∷ []) are l i j at its =
    sym (Contains-one k i ((are.exact i).1 at)) ∙ Contains-one k j ((are.exact j).1 its)
one-place ms (k ∷ m ∷ places) are l i j at its = absurd (omega (arith, l))

-- and where there is none nothing is so
pub no-place : {P : Fields → Type 0} (ms : List Fields) (places : List ℕ) → ArePlaces P ms places → length places ≡ 0
    → (i : ℕ) → ¬ (IsAt P ms i)
no-place ms [] are l i at = Contains-none i ((are.exact i).1 at)
no-place ms (k ∷ places) are l i at = absurd (omega (arith, l))

-- none of two
pub neither : (p x n : Node) → (¬ (Contains (p ∷ x ∷ []) n)) ↔ ((n ≢ p) × (n ≢ x))
neither p x n = (
  λ out. (
    (λ e. out (subst (Contains (p ∷ x ∷ [])) (sym e) (Contains-first p (x ∷ [])))),
    (λ e. out (subst (Contains (p ∷ x ∷ [])) (sym e) (Contains-later p (x ∷ []) x (Contains-first x [])))),
  ),
  λ h at. elim (Contains-cons_cases p (x ∷ []) n at) [
    | inl e ↦ h.0 (sym e)
    | inr rest ↦ h.1 (sym (Contains-one x n rest))
  ],
)

-- ---- an amend of contents

module _ (p x : Node) (fresh : Fields) (f g : Content) (am : IsAmended p x fresh f g) where
  fresh_to : (m : Fields) (n : Node) → m ≡ fresh → Contains m.successors n → x ≡ n
  fresh_to m n same at =
      Contains-one x n (subst (λ (ns : List Node). Contains ns n) (ap (λ k. k.successors) same ∙ am.successors) at)

  fresh_of : (m : Fields) → m ≡ fresh → m.predecessor ≡ p
  fresh_of m same = ap (λ k. k.predecessor) same ∙ am.predecessor

  precedes-there : (q n : Node) → Precedes f IsAny q n → Precedes g IsAny q n
  precedes-there q n =
      precedes-along f g IsAny (λ k. Unit {0}) (λ m k held at so. ((am.markers m).1 (inl held), tt)) q n tt

  old-step : (m : Fields) (n : Node) → IsMarker g m → Contains m.successors n → n ≢ x
      → IsMarker f m × (m.predecessor ≢ x)
  old-step m n held at so = elim ((am.markers m).0 held) [
    | inl old ↦ (old, (am.not_known m old).0)
    | inr same ↦ absurd (so (sym (fresh_to m n same at)))
  ]

  precedes-back : (q n : Node) → n ≢ x → Precedes g IsAny q n → Precedes f IsAny q n
  precedes-back = precedes-along g f IsAny (λ k. k ≢ x) old-step

  -- what comes from several successors sets is as it was
  pub several-other : (n : Node) → n ≢ x → IsAfterSeveral g n ↔ IsAfterSeveral f n
  several-other n so = (
    λ h. (
      h.0,
      (amend_several p x fresh f g am h.0 (λ e. (amend_few p x fresh f g am h.0 (inr e)).1 h.1)).1 h.1,
      precedes-back h.0 n so h.2,
    ),
    λ h. (
      h.0,
      (amend_several p x fresh f g am h.0 (λ e. (amend_few p x fresh f g am h.0 (inr e)).0 h.1)).0 h.1,
      precedes-there h.0 n h.2,
    ),
  )

  -- p or what precedes it precedes x, and nothing else
  before-new : (q n : Node) → n ≡ x → Precedes g IsAny q n → (q ≡ p) ⊎ Precedes g IsAny q p
  before-new q n is (step {m = m} held kind at from) = elim ((am.markers m).0 held) [
    | inl old ↦ absurd ((am.not_known m old).1 (subst (Contains m.successors) is at))
    | inr same ↦ inl (sym from ∙ fresh_of m same)
  ]
  before-new q n is (further {m = m} held kind at r) = elim ((am.markers m).0 held) [
    | inl old ↦ absurd ((am.not_known m old).1 (subst (Contains m.successors) is at))
    | inr same ↦ inr (subst (Precedes g IsAny q) (fresh_of m same) r)
  ]

  onward : (q : Node) → Precedes g IsAny q p → Precedes g IsAny q x
  onward q way = further {m = fresh} ((am.markers fresh).1 (inr refl)) tt
      (subst (λ (ns : List Node). Contains ns x) (sym am.successors) (Contains-first x []))
      (subst (Precedes g IsAny q) (sym am.predecessor) way)

  different : p ≢ x
  different e = am.not_held (subst (IsHeld f.0) e am.held_before)

  -- x comes from several successors sets where p did
  pub several-new : IsAfterSeveral g x ↔ IsAfterSeveral f p
  several-new = (
    λ h. elim (before-new h.0 x refl h.2) [
      | inl is ↦ absurd ((amend_few p x fresh f g am h.0 (inl is)).1 h.1)
      | inr way ↦ (several-other p different).0 (h.0, h.1, way)
    ],
    λ h. let k = (several-other p different).1 h in (k.0, k.1, onward k.0 k.2),
  )

  -- where p was near forks, x is
  module _ (P : Node → Type 0) (near : AreNearForks f P) (so : P p) where
    at-old : (m : Fields) (n : Node) → m ≡ fresh → m.predecessor ≡ n → P n
    at-old m n same at = subst P (sym (fresh_of m same) ∙ at) so

    forks-amended : (n : Node) → IsForked g n → P n
    forks-amended n fork = elim ((am.markers fork.0).0 fork.3) [
      | inl first ↦ elim ((am.markers fork.1).0 fork.4) [
        | inl second ↦ near.forks n (fork.0, fork.1, fork.2, first, second, fork.5, fork.6)
        | inr same ↦ at-old fork.1 n same fork.6
      ]
      | inr same ↦ at-old fork.0 n same fork.5
    ]

    unknown : (m : Fields) (n : Node) → IsMarker f m → n ≡ x → IsNamed m n → ⊥
    unknown m n held is (inl at) = (am.not_known m held).0 (at ∙ is)
    unknown m n held is (inr at) = (am.not_known m held).1 (subst (Contains m.successors) is at)

    fresh-names : (m : Fields) (n : Node) → m ≡ fresh → IsNamed m n → P n ⊎ (n ≡ x)
    fresh-names m n same (inl at) = inl (at-old m n same at)
    fresh-names m n same (inr at) = inr (sym (fresh_to m n same at))

    closed-amended : (m : Fields) (a b : Node) → IsMarker g m → IsNamed m a → IsNamed m b → P a ⊎ (a ≡ x)
        → P b ⊎ (b ≡ x)
    closed-amended m a b held named beside close = elim ((am.markers m).0 held) [
      | inl old ↦ elim close [
        | inl is ↦ inl (near.closed m a b old named beside is)
        | inr is ↦ absurd (unknown m a old is named)
      ]
      | inr same ↦ fresh-names m b same beside
    ]

    pub near-amended : AreNearForks g (λ n. P n ⊎ (n ≡ x))
    near-amended = record { forks = λ n fork. inl (forks-amended n fork); closed = closed-amended }

-- ---- an amend of states

module _ (s t : ReplicaState) (change : ChangeValue) (near : List Node) (amend : Amend) (v : IsValid t)
    (is : IsChangedTo s change t) (plain : IsPlainAmend t change near amend) where
  abbrev Before : Content
  Before = content_of s

  abbrev After : Content
  After = content_of t

  abbrev Fresh : Fields
  Fresh = plain.0.fresh

  abbrev place : ℕ
  place = plain.0.only.0

  follows : Follows Before After change t.markers
  follows = changed-follows s t change v is

  fresh-is : (m : Fields) → IsFresh t.markers change m → m ≡ Fresh
  fresh-is = single.fresh-is s t change v is Fresh plain.0.only

  not_rewritten : ¬ (IsPredecessor Before amend.from)
  not_rewritten = subst (λ n. ¬ (IsPredecessor Before n)) plain.0.predecessor
      (single.not_rewritten-before s t change v is Fresh plain.0.only
      (subst (λ n. ¬ (IsFork t.markers n)) (sym plain.0.predecessor) plain.1.once))

  new-stands : IsAt (λ m. Contains m.successors amend.to) t.markers place
  new-stands = (
    Fresh,
    plain.0.only.2,
    subst (λ (ns : List Node). Contains ns amend.to) (sym plain.0.successors) (Contains-first amend.to []),
  )

  not_known : (m : Fields) → IsMarker Before m → (m.predecessor ≢ amend.to) × ¬ (Contains m.successors amend.to)
  not_known m held = let k = single.old-place s t change v is Fresh plain.0.only m held in (
    (λ e. plain.1.named.last k.0 (m, k.2, e)),
    (λ at. k.1 (plain.1.named.once k.0 place (m, k.2, at) new-stands)),
  )

  new-in : Contains change.added amend.to
  new-in = single.added-in s t change v is amend.to plain.0.added

  others : (n : Node) → n ≢ amend.to → IsHeld Before.0 n ↔ IsHeld After.0 n
  others n other = (
    λ h. let there = follows.above n h.0 h.1 in (there.0, there.1),
    λ h. elim (follows.held n h) [
      | inl old ↦ old
      | inr new ↦ absurd (other (single.added-is s t change v is amend.to plain.0.added n new))
    ],
  )

  old-other : amend.from ≢ amend.to
  old-other e = plain.1.named.last place (Fresh, plain.0.only.2, plain.0.predecessor ∙ e)

  amended : IsAmended amend.from amend.to Fresh Before After
  amended = record {
    held_before = (others amend.from old-other).1 (plain.1.obsolete.0.0, plain.1.obsolete.0.1);
    not_rewritten = not_rewritten;
    not_held = single.not_held-before s t change v is amend.to new-in;
    not_known = not_known;
    held = single.held-now s t change v is amend.to new-in;
    others = others;
    predecessor = plain.0.predecessor;
    successors = plain.0.successors;
    markers = λ m. (
      λ h. elim ((follows.markers m).0 h) [ inl old ↦ inl old | inr fresh ↦ inr (fresh-is m fresh) ],
      λ h. (follows.markers m).1 (elim h [
        | inl old ↦ inl old
        | inr same ↦ inr (subst (IsFresh t.markers change) (sym same)
            (single.is-fresh s t change v is Fresh plain.0.only))
      ]),
    );
  }

  not_moved : (n : Node) → n ≢ amend.to → ¬ (IsMoved change n)
  not_moved = single.not_moved s t change v is amend.to plain.0.added

  -- what was amended was current
  was-current : IsCurrent Before amend.from
  was-current =
      let mutable = plain.1.obsolete.0 in (
        (mutable.0, sym (follows.same amend.from (not_moved amend.from old-other)) ∙ mutable.1, mutable.2),
        λ o. not_rewritten o.1,
      )

  current-other : (n : Node) → n ≢ amend.from → n ≢ amend.to → IsCurrent After n ↔ IsCurrent Before n
  current-other n not_old not_new = current-untouched Before After change t.markers follows n (λ seed. elim seed [
    | inl moved ↦ not_moved n not_new moved
    | inr fresh ↦ not_old (sym fresh.2 ∙ ap (λ m. m.predecessor) (fresh-is fresh.0 fresh.1) ∙ plain.0.predecessor)
  ])

  -- ---- divergence

  divergent-new : IsContentDivergent After amend.to
      ↔ (IsContentDivergent Before amend.from × IsCurrent After amend.to)
  divergent-new =
      let several = several-new amend.from amend.to Fresh Before After amended in (
        λ h. ((was-current, several.0 h.1), h.0),
        λ h. (h.1, several.1 h.0.1),
      )

  divergent-other : (n : Node) → n ≢ amend.from → n ≢ amend.to
      → IsContentDivergent After n ↔ IsContentDivergent Before n
  divergent-other n not_old not_new =
      let several = several-other amend.from amend.to Fresh Before After amended n not_new in
      let current = current-other n not_old not_new in (
        λ h. (current.0 h.0, several.0 h.1),
        λ h. (current.1 h.0, several.1 h.1),
      )

  -- those of before are so, with the new changeset in the place of the old one if it is current
  pub divergent-amended : (set : List Node) → ((n : Node) → Contains set n ↔ IsContentDivergent Before n) → (n : Node)
      → (((n ≡ amend.to) × (Contains set amend.from × IsCurrent After amend.to))
      ⊎ (Contains set n × ((n ≢ amend.from) × (n ≢ amend.to)))) ↔ IsContentDivergent After n
  divergent-amended set was n = (
    λ h. elim h [
      | inl new ↦ subst (IsContentDivergent After) (sym new.0)
          (divergent-new.1 ((was amend.from).0 new.1.0, new.1.1))
      | inr other ↦ (divergent-other n other.1.0 other.1.1).1 ((was n).0 other.0)
    ],
    λ h. elim (node_cases n amend.to) [
      | inl e ↦ (let new = divergent-new.0 (subst (IsContentDivergent After) e h) in
          inl (e, ((was amend.from).1 new.0, new.1)))
      | inr not_new ↦ elim (node_cases n amend.from) [
        | inl e ↦ absurd (h.0.1 (subst (IsObsolete After) (sym e) plain.1.obsolete))
        | inr not_old ↦ inr ((was n).1 ((divergent-other n not_old not_new).0 h), (not_old, not_new))
      ]
    ],
  )

  pub near-plain : AreNearForks Before (Contains near) → AreNearForks After (λ n. Contains near n ⊎ (n ≡ amend.to))
  near-plain forks = near-amended amend.from amend.to Fresh Before After amended (Contains near) forks plain.1.close
