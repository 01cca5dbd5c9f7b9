-- What is after something public now: what was before, and what a walk from where the change was made meets.
use Rattle.std.proofs.Common.{◌≡◌, ℕ, ◌+◌, ◌<◌, not, List, [], length, take, get_or, Contains}
use Rattle.std.proofs.Common.{IsTrue, ◌↔◌, ◌⊎◌, inl, inr, refl, sym, ap, subst, ◌∙◌, arith}
use Rattle.std.specs.List.{list_any}
use Rattle.std.proofs.lemmas.Bool.{cases_Bool}
use Rattle.std.proofs.lemmas.Map.Views.{Contains-from_any, list_any-from_Contains}
use Rattle.hg_changeset.specs.declared.node.Node.{Node}
use Rattle.hg_changeset.specs.Node.{node_eq}
use Rattle.hg_changeset.proofs.NodeLemmas.{same_node, node_eq_laws}
use Rattle.hg_changeset.proofs.ListLemmas.{Contains-none, Contains-taken, Contains-from_place}
use Rattle.hg_phases.specs.declared.phase.Phase.TheVariants.{Public}
use Rattle.hg_phases.specs.State.{rank}
use Rattle.hg_phases.proofs.RankLemmas.{rank-apart}
use Rattle.hg_marker.specs.Fields.{Fields}
use Rattle.hg_history.specs.Content.{IsBelowAt}
use Rattle.hg_replica.specs.State.{ReplicaState}
use Rattle.hg_replica.specs.Content.{Content, content_of}
use Rattle.hg_replica.specs.Change.{ChangeValue}
use Rattle.hg_replica.specs.Evolution.{HasPhase, IsMarker, IsBumpedFix, Precedes}
use Rattle.hg_replica.specs.Evolution.Precedes.{step, further as precedes_further}
use Rattle.hg_replica.proofs.MarkerLemmas.{holds-from, in_from_holds}
use Rattle.hg_succ.proofs.SetLemmas.{contains_filter, filter_contains}
use Rattle.hg_instab.specs.AfterPublic.{HandsOn, IsAfterFresh, IsRewrittenTo, IsAfterAny, IsStart, IsRewrittenBeyond}
use Rattle.hg_instab.specs.Changed.{IsMoved, Follows}
use Rattle.hg_instab.specs.Near.{IsAfterPublic}
use Rattle.hg_instab.specs.Walk.{IsReached, Leads, Adds}
use Rattle.hg_instab.specs.Walk.Leads.{one, further}
use Rattle.hg_instab.proofs.AmongLemmas.{other-told}
use Rattle.hg_instab.proofs.WalkLemmas.{IsNextAt, nothing-reached}

-- ---- what is known, and what is beyond

told-member : (q : Node) (xs : List Node) → IsTrue (list_any (node_eq q) xs) ↔ Contains xs q
told-member q xs = (Contains-from_any same_node q xs, list_any-from_Contains node_eq_laws q xs)

-- a list has a node, or not
contains-or : (xs : List Node) (q : Node) → Contains xs q ⊎ (¬ (Contains xs q))
contains-or xs q = elim (cases_Bool (list_any (node_eq q) xs)) [
  | inl t ↦ inl ((told-member q xs).0 t)
  | inr f ↦ inr ((other-told (list_any (node_eq q) xs) (told-member q xs)).0 (ap not f))
]

-- a step beyond what is known is a step from what isn't known
pub next-beyond : (known : List Node) (ms : List Fields) (p n : Node) → IsRewrittenBeyond known ms p n
    ↔ ((¬ (Contains known p)) × IsRewrittenTo ms p n)
next-beyond known ms p n = (
  λ h.
      let there = filter_contains (λ (m : Fields). not (list_any (node_eq m.predecessor) known)) ms h.0 h.1 in (
        λ at. (other-told (list_any (node_eq h.0.predecessor) known) (told-member h.0.predecessor known)).0 there.1
            (subst (Contains known) (sym h.2) at),
        (h.0, there.0, h.2, h.3, h.4),
      ),
  λ h.
      let m = h.1.0 in (
        m,
        contains_filter (λ (x : Fields). not (list_any (node_eq x.predecessor) known)) ms m h.1.1
            ((other-told (list_any (node_eq m.predecessor) known) (told-member m.predecessor known)).1
            (λ at. h.0 (subst (Contains known) h.1.2 at))),
        h.1.2,
        h.1.3,
        h.1.4,
      ),
)

-- ---- the starts

-- the markers at the places of the change are the fresh ones
pub fresh-at : (g : Content) (change : ChangeValue) (ms : List Fields) (known : List Node) (n : Node)
    → IsAfterFresh g change ms known n ↔ IsNextAt (HandsOn g known) ms change.markers n
fresh-at g change ms known n =
    (λ h. (h.1.0, h.1.1, h.0, h.1.2, (h.2, h.3)), λ h. (h.2, (h.0, h.1, h.3), h.4.0, h.4.1))

-- one node more
pub any-more : (g : Content) (ms : List Fields) (nodes : List Node) (i : ℕ) (x : Node) → i < length nodes
    → get_or nodes i x ≡ x → (n : Node) → IsAfterAny g ms (take (i + 1) nodes) n
    ↔ (IsAfterAny g ms (take i nodes) n ⊎ (HasPhase g x Public × IsRewrittenTo ms x n))
any-more g ms nodes i x l is n = (
  λ h. elim ((Contains-taken nodes i x h.0 l is).0 h.1) [
    | inl old ↦ inl (h.0, old, h.2)
    | inr e ↦ inr (subst (λ y. HasPhase g y Public × IsRewrittenTo ms y n) (sym e) h.2)
  ],
  λ h. elim h [
    | inl old ↦ (old.0, (Contains-taken nodes i x old.0 l is).1 (inl old.1), old.2)
    | inr new ↦ (x, (Contains-taken nodes i x x l is).1 (inr refl), new)
  ],
)

-- what was added one after the other to nothing
pub added-thrice : (P Q R : Node → Type 0) (xs ys zs all : List Node) → xs ≡ [] → Adds P xs ys → Adds Q ys zs
    → Adds R zs all → (n : Node) → Contains all n ↔ (P n ⊎ (Q n ⊎ R n))
added-thrice P Q R xs ys zs all none a b c n = (
  λ h. elim ((c.members n).0 h) [
    | inl mid ↦ elim ((b.members n).0 mid) [
      | inl low ↦ elim ((a.members n).0 low)
          [ inl old ↦ absurd (Contains-none n (subst (λ ns. Contains ns n) none old)) | inr p ↦ inl p ]
      | inr q ↦ inr (inl q)
    ]
    | inr r ↦ inr (inr r)
  ],
  λ h. (c.members n).1 (elim h [
    | inl p ↦ inl ((b.members n).1 (inl ((a.members n).1 (inr p))))
    | inr later ↦ elim later [ inl q ↦ inl ((b.members n).1 (inr q)) | inr r ↦ inr r ]
  ]),
)

-- ---- what stays

public-stays : (f g : Content) (n : Node) → IsBelowAt (f.0 n) (g.0 n) → HasPhase f n Public → HasPhase g n Public
public-stays f g n below h =
    let b = below h.0 h.1 in
    let low : rank h.0.phase ≡ rank Public = ap rank h.2 in
    (b.0, b.1, rank-apart b.0.phase Public (omega (arith, b.3, low)))

precedes-stays : (f g : Content) (Kind : Fields → Type 0) → ((m : Fields) → IsMarker f m → IsMarker g m)
    → (p n : Node) → Precedes f Kind p n → Precedes g Kind p n
precedes-stays f g Kind stay p n (step {m = m} held kind at is) = step (stay m held) kind at is
precedes-stays f g Kind stay p n (precedes_further {m = m} held kind at r) =
    precedes_further (stay m held) kind at (precedes-stays f g Kind stay p m.predecessor r)

-- what is after something public stays so
pub after-stays : (f g : Content) (change : ChangeValue) (ms : List Fields) → Follows f g change ms → (n : Node)
    → IsAfterPublic f n → IsAfterPublic g n
after-stays f g change ms follows n h = (
  h.0,
  public-stays f g h.0 (follows.above h.0) h.1,
  precedes-stays f g (λ m. ¬ (IsBumpedFix m)) (λ m old. (follows.markers m).1 (inl old)) h.0 n h.2,
)

-- ---- one step more

public-next : (t : ReplicaState) (p n : Node) → HasPhase (content_of t) p Public → IsRewrittenTo t.markers p n
    → IsAfterPublic (content_of t) n
public-next t p n public next = (p, public, step (holds-from t.markers next.0 next.1) next.3 next.4 next.2)

after-next : (t : ReplicaState) (p n : Node) → IsAfterPublic (content_of t) p → IsRewrittenTo t.markers p n
    → IsAfterPublic (content_of t) n
after-next t p n after next = (
  after.0,
  after.1,
  precedes_further (holds-from t.markers next.0 next.1) next.3 next.4
      (subst (Precedes (content_of t) (λ m. ¬ (IsBumpedFix m)) after.0) (sym next.2) after.2),
)

reached-next : (Step : Node → Node → Type 0) (starts : List Node) (p n : Node) → IsReached Step starts p → Step p n
    → IsReached Step starts n
reached-next Step starts p n (inl first) next = inr (p, first, one next)
reached-next Step starts p n (inr far) next = inr (far.0, far.1, further far.2 next)

-- ---- the walk meets what is new

module _ (s t : ReplicaState) (change : ChangeValue) (known starts seen : List Node)
    (follows : Follows (content_of s) (content_of t) change t.markers)
    (exact : (n : Node) → Contains known n ↔ IsAfterPublic (content_of s) n)
    (begun : (n : Node) → Contains starts n ↔ IsStart (content_of t) change t.markers known n)
    (walked : (n : Node) → Contains seen n ↔ IsReached (IsRewrittenBeyond known t.markers) starts n) where
  known-after : (n : Node) → Contains known n → IsAfterPublic (content_of t) n
  known-after n at = after-stays (content_of s) (content_of t) change t.markers follows n ((exact n).0 at)

  -- a start is after something public
  any-after : (nodes : List Node) (n : Node) → IsAfterAny (content_of t) t.markers nodes n
      → IsAfterPublic (content_of t) n
  any-after nodes n h = public-next t h.0 n h.2.0 h.2.1

  start-after : (n : Node) → IsStart (content_of t) change t.markers known n → IsAfterPublic (content_of t) n
  start-after n (inl h) =
      let m = h.0 in
      let next : IsRewrittenTo t.markers m.predecessor n =
      (m, Contains-from_place t.markers h.1.0 m h.1.2, refl, h.2.1, h.3) in
      elim h.2.0 [
        | inl public ↦ public-next t m.predecessor n public next
        | inr at ↦ after-next t m.predecessor n (known-after m.predecessor at) next
      ]
  start-after n (inr (inl h)) = any-after change.added n h
  start-after n (inr (inr h)) = any-after change.lowered n h

  -- so is what is met
  leads-after : (p n : Node) → IsAfterPublic (content_of t) p → Leads (IsRewrittenBeyond known t.markers) p n
      → IsAfterPublic (content_of t) n
  leads-after p n after (one next) = after-next t p n after ((next-beyond known t.markers p n).0 next).1
  leads-after p n after (further {q = q} far next) =
      after-next t q n (leads-after p q after far) ((next-beyond known t.markers q n).0 next).1

  seen-after : (n : Node) → Contains seen n → IsAfterPublic (content_of t) n
  seen-after n h = elim ((walked n).0 h) [
    | inl first ↦ start-after n ((begun n).0 first)
    | inr far ↦ leads-after far.0 n (start-after far.0 ((begun far.0).0 far.1)) far.2
  ]

  -- a start is met, and so is what comes next after what is met and isn't known
  start-seen : (n : Node) → IsStart (content_of t) change t.markers known n → Contains seen n
  start-seen n h = (walked n).1 (inl ((begun n).1 h))

  next-seen : (p n : Node) → ¬ (Contains known p) → Contains seen p → IsRewrittenTo t.markers p n → Contains seen n
  next-seen p n unknown at next = (walked n).1
      (reached-next (IsRewrittenBeyond known t.markers) starts p n ((walked p).0 at)
      ((next-beyond known t.markers p n).1 (unknown, next)))

  -- moved, or not
  moved-or : (n : Node) → IsMoved change n ⊎ (¬ (IsMoved change n))
  moved-or n = elim (contains-or change.added n) [
    | inl added ↦ inl (inl added)
    | inr old ↦ elim (contains-or change.lowered n) [
      | inl lowered ↦ inl (inr lowered)
      | inr kept ↦ inr (λ h. elim h [ inl added ↦ old added | inr lowered ↦ kept lowered ])
    ]
  ]

  -- the first marker of a way from something public
  first-met : (p n : Node) (m : Fields) → HasPhase (content_of t) p Public → IsMarker (content_of t) m
      → ¬ (IsBumpedFix m) → Contains m.successors n → m.predecessor ≡ p → Contains known n ⊎ Contains seen n
  first-met p n m public held kind at is = elim ((follows.markers m).0 held) [
    | inl old ↦ elim (moved-or p) [
      | inl moved ↦
          let next : IsRewrittenTo t.markers p n = (m, in_from_holds t.markers m held, is, kind, at) in
          inr (start-seen n (inr (elim moved
          [ inl added ↦ inl (p, added, (public, next)) | inr lowered ↦ inr (p, lowered, (public, next)) ])))
      | inr unmoved ↦
          let same = follows.same p unmoved in
          let was : HasPhase (content_of s) p Public = (public.0, sym same ∙ public.1, public.2) in
          inl ((exact n).1 (p, was, step old kind at is))
    ]
    | inr fresh ↦
        let start : HasPhase (content_of t) m.predecessor Public =
        subst (λ q. HasPhase (content_of t) q Public) (sym is) public in
        inr (start-seen n (inl (m, fresh, (inl start, kind), at)))
  ]

  -- a later marker of the way
  later-met : (n : Node) (m : Fields) → IsMarker (content_of t) m → ¬ (IsBumpedFix m) → Contains m.successors n
      → Contains known m.predecessor ⊎ Contains seen m.predecessor → Contains known n ⊎ Contains seen n
  later-met n m held kind at met = elim (contains-or known m.predecessor) [
    | inl known' ↦ elim ((follows.markers m).0 held) [
      | inl old ↦
          let after = (exact m.predecessor).0 known' in
          inl ((exact n).1 (after.0, after.1, precedes_further old kind at after.2))
      | inr fresh ↦ inr (start-seen n (inl (m, fresh, (inr known', kind), at)))
    ]
    | inr unknown ↦ elim met [
      | inl known' ↦ absurd (unknown known')
      | inr there ↦
          inr (next-seen m.predecessor n unknown there (m, in_from_holds t.markers m held, refl, kind, at))
    ]
  ]

  way-met : (p n : Node) → HasPhase (content_of t) p Public
      → Precedes (content_of t) (λ m. ¬ (IsBumpedFix m)) p n → Contains known n ⊎ Contains seen n
  way-met p n public (step {m = m} held kind at is) = first-met p n m public held kind at is
  way-met p n public (precedes_further {m = m} held kind at r) =
      later-met n m held kind at (way-met p m.predecessor public r)

  -- what is after something public now was known, or is met
  pub after-met : (met : List Node) → ((n : Node) → Contains met n ↔ (Contains seen n × ¬ (Contains known n)))
      → (n : Node) → IsAfterPublic (content_of t) n ↔ (Contains known n ⊎ Contains met n)
  after-met met are n = (
    λ after. elim (contains-or known n) [
      | inl at ↦ inl at
      | inr unknown ↦ elim (way-met after.0 n after.1 after.2)
          [ inl at ↦ inl at | inr there ↦ inr ((are n).1 (there, unknown)) ]
    ],
    λ h. elim h [ inl at ↦ known-after n at | inr there ↦ seen-after n ((are n).0 there).0 ],
  )

-- where no walk begins nothing is met
pub after-unmet : (s t : ReplicaState) (change : ChangeValue) (known : List Node)
    → Follows (content_of s) (content_of t) change t.markers
    → ((n : Node) → Contains known n ↔ IsAfterPublic (content_of s) n)
    → ((n : Node) → ¬ (IsStart (content_of t) change t.markers known n)) → (n : Node)
    → IsAfterPublic (content_of t) n ↔ (Contains known n ⊎ Contains [] n)
after-unmet s t change known follows exact no-start = after-met s t change known [] [] follows exact
    (λ n. (λ h. absurd (Contains-none n h), λ h. absurd (no-start n h)))
    (nothing-reached (IsRewrittenBeyond known t.markers)) [] (λ n. (λ h. absurd (Contains-none n h), λ h. h.0))
