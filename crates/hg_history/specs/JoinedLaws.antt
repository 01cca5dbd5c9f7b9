-- The laws of the join of contents.
use Rattle.std.specs.Prelude.{◌≡◌, ◌≤◌, min, Option, Some, None, ◌⊎◌, ◌↔◌, refl}
use Rattle.std.proofs.Common.{arith, sym, ◌∙◌, ap, subst, inl, inr}
use Rattle.std.proofs.lemmas.Option.{none-some, same_Some}
use Rattle.hg_join.specs.Order.{IsLeastAbove}
use Rattle.hg_changeset.specs.declared.node.Node.{Node}
use Rattle.hg_graph.specs.Graph.{IsParent}
use Rattle.hg_phases.specs.declared.phase.Phase.{Phase}
use Rattle.hg_phases.specs.declared.phase.Phase.TheVariants.{Public, Draft, Secret}
use Rattle.hg_phases.specs.State.{Held, rank}
use Rattle.hg_phases.proofs.RankLemmas.{rank-apart}
use Rattle.hg_history.specs.declared.fault.Fault.{Fault}
use Rattle.hg_history.specs.declared.fault.Fault.TheVariants.{NoMemory}
use Rattle.hg_history.specs.Content.{Content, IsGrounded, IsValidContent, IsBelowAt, ContentBelow, lower, joined}
use Rattle.hg_history.specs.Content.{AgreeAt, ContentsJoined, ContentsCollide}
use Rattle.hg_history.specs.Content.IsGrounded.{grounded}
use Rattle.hg_history.specs.ContentLaws.{same-held, grounded-within}

-- ---- phases

pub rank-lower : (j k : Phase) → rank (lower j k) ≡ min (rank j) (rank k)
rank-lower Public Public = refl
rank-lower Public Draft = refl
rank-lower Public Secret = refl
rank-lower Draft Public = refl
rank-lower Draft Draft = refl
rank-lower Draft Secret = refl
rank-lower Secret Public = refl
rank-lower Secret Draft = refl
rank-lower Secret Secret = refl

lower-comm : (j k : Phase) → lower j k ≡ lower k j
lower-comm j k = rank-apart (lower j k) (lower k j) (omega (arith, rank-lower j k, rank-lower k j))

lower-assoc : (i j k : Phase) → lower (lower i j) k ≡ lower i (lower j k)
lower-assoc i j k =
    rank-apart _ _ (omega (arith, rank-lower (lower i j) k, rank-lower i j, rank-lower i (lower j k), rank-lower j k))

lower-same : (k : Phase) → lower k k ≡ k
lower-same k = rank-apart (lower k k) k (omega (arith, rank-lower k k))

-- the lower one is one of the two
lower-one : (j k : Phase) → (lower j k ≡ j) ⊎ (lower j k ≡ k)
lower-one Public k = inl refl
lower-one Draft Public = inr refl
lower-one Draft Draft = inl refl
lower-one Draft Secret = inl refl
lower-one Secret k = inr refl

-- ---- at one id

pub joined-first : (a b : Option Held) → IsBelowAt a (joined a b)
joined-first None b h e = absurd (none-some h e)
joined-first (Some x) None h e =
    (x, refl, ap (λ z. z.changeset) (same_Some x h e), omega (arith, ap (λ z. rank z.phase) (same_Some x h e)))
joined-first (Some x) (Some y) h e =
    let x_is = same_Some x h e in (
      record { changeset = x.changeset; phase = lower x.phase y.phase },
      refl,
      ap (λ z. z.changeset) x_is,
      omega (arith, ap (λ z. rank z.phase) x_is, rank-lower x.phase y.phase),
    )

-- where they agree it is one of the two
pub joined-one : (a b : Option Held) → AgreeAt a b → (h : Held) → joined a b ≡ Some h → (a ≡ Some h) ⊎ (b ≡ Some h)
joined-one None b agree h e = inr e
joined-one (Some x) None agree h e = inl e
joined-one (Some x) (Some y) agree h e =
    let h_is = same_Some (record { changeset = x.changeset; phase = lower x.phase y.phase }) h e in
    let c_is = ap (λ z. z.changeset) h_is in
    let phase_is = ap (λ z. z.phase) h_is in
    elim (lower-one x.phase y.phase) [
      | inl same ↦ inl (ap (λ z. Some z) (same-held x h c_is (sym same ∙ phase_is)))
      | inr same ↦ inr (ap (λ z. Some z) (same-held y h (sym (agree x y refl refl) ∙ c_is) (sym same ∙ phase_is)))
    ]

joined-comm : (a b : Option Held) → AgreeAt a b → joined a b ≡ joined b a
joined-comm None None agree = refl
joined-comm None (Some y) agree = refl
joined-comm (Some x) None agree = refl
joined-comm (Some x) (Some y) agree =
    λ i. Some (record { changeset = agree x y refl refl i; phase = lower-comm x.phase y.phase i })

joined-assoc : (a b c : Option Held) → joined (joined a b) c ≡ joined a (joined b c)
joined-assoc None b c = refl
joined-assoc (Some x) None c = refl
joined-assoc (Some x) (Some y) None = refl
joined-assoc (Some x) (Some y) (Some z) =
    λ i. Some (record { changeset = x.changeset; phase = lower-assoc x.phase y.phase z.phase i })

joined-same : (a : Option Held) → joined a a ≡ a
joined-same None = refl
joined-same (Some x) = λ i. Some (record { changeset = x.changeset; phase = lower-same x.phase i })

agree-back : (a b : Option Held) → AgreeAt a b → AgreeAt b a
agree-back a b agree h g at_h at_g = sym (agree g h at_g at_h)

pub joined-second : (a b : Option Held) → AgreeAt a b → IsBelowAt b (joined a b)
joined-second a b agree = subst (IsBelowAt b) (sym (joined-comm a b agree)) (joined-first b a)

-- what agrees with a join agrees with each side
agree-first : (a b c : Option Held) → AgreeAt (joined a b) c → AgreeAt a c
agree-first a b c agree h g at_h at_g =
    let x = joined-first a b h at_h in
    sym x.2 ∙ agree x.0 g x.1 at_g

agree-second : (a b c : Option Held) → AgreeAt a b → AgreeAt (joined a b) c → AgreeAt b c
agree-second a b c ab agree h g at_h at_g =
    let x = joined-second a b ab h at_h in
    sym x.2 ∙ agree x.0 g x.1 at_g

-- what agrees with each side agrees with their join
agree-joined : (a b c : Option Held) → AgreeAt a b → AgreeAt a c → AgreeAt b c → AgreeAt (joined a b) c
agree-joined a b c ab ac bc h g at_h at_g =
    elim (joined-one a b ab h at_h) [ inl x ↦ ac h g x at_g | inr x ↦ bc h g x at_g ]

-- ---- contents

pub joins_commute : (a b c : Content) → ContentsJoined a b c → ContentsJoined b a c
joins_commute a b c h = ((λ n. agree-back (a n) (b n) (h.0 n)), h.1 ∙ (λ i n. joined-comm (a n) (b n) (h.0 n) i))

abbrev pub join_of : Content → Content → Content
join_of a b n = joined (a n) (b n)

-- both are defined together and equal
pub joins_associate : (a b c d : Content) → ((ab : Content) × ContentsJoined a b ab × ContentsJoined ab c d)
    ↔ ((bc : Content) × ContentsJoined b c bc × ContentsJoined a bc d)
joins_associate a b c d = (
  λ h.
      let ab = h.1.0 in
      let agree : (n : Node) → AgreeAt (joined (a n) (b n)) (c n) =
      subst (λ f. (n : Node) → AgreeAt (f n) (c n)) h.1.1 h.2.0 in
      let bc : (n : Node) → AgreeAt (b n) (c n) = λ n. agree-second (a n) (b n) (c n) (ab n) (agree n) in
      let ac : (n : Node) → AgreeAt (a n) (c n) = λ n. agree-first (a n) (b n) (c n) (agree n) in (
        join_of b c,
        (bc, refl),
        (
          (λ n. agree-back (joined (b n) (c n)) (a n)
              (agree-joined (b n) (c n) (a n) (bc n) (agree-back (a n) (b n) (ab n)) (agree-back (a n) (c n) (ac n)))),
          h.2.1 ∙ ap (λ f. join_of f c) h.1.1 ∙ (λ i n. joined-assoc (a n) (b n) (c n) i),
        ),
      ),
  λ h.
      let bc = h.1.0 in
      let agree : (n : Node) → AgreeAt (a n) (joined (b n) (c n)) =
      subst (λ f. (n : Node) → AgreeAt (a n) (f n)) h.1.1 h.2.0 in
      let back : (n : Node) → AgreeAt (joined (b n) (c n)) (a n) =
      λ n. agree-back (a n) (joined (b n) (c n)) (agree n) in
      let ab : (n : Node) → AgreeAt (a n) (b n) =
      λ n. agree-back (b n) (a n) (agree-first (b n) (c n) (a n) (back n)) in
      let ac : (n : Node) → AgreeAt (a n) (c n) =
      λ n. agree-back (c n) (a n) (agree-second (b n) (c n) (a n) (bc n) (back n)) in (
        join_of a b,
        (ab, refl),
        (
          (λ n. agree-joined (a n) (b n) (c n) (ab n) (ac n) (bc n)),
          h.2.1 ∙ ap (λ f. join_of a f) h.1.1 ∙ (λ i n. sym (joined-assoc (a n) (b n) (c n)) i),
        ),
      ),
)

-- a content joined with itself stays
pub joins_itself : (a : Content) → ContentsJoined a a a
joins_itself a = (
  (λ n h g at_h at_g. ap (λ x. x.changeset) (same_Some h g (sym at_h ∙ at_g))),
  λ i n. sym (joined-same (a n)) i,
)

module _ (a b : Content) (v : IsValidContent a) (w : IsValidContent b) (agree : (n : Node) → AgreeAt (a n) (b n)) where
  one : (n : Node) (h : Held) → joined (a n) (b n) ≡ Some h → (a n ≡ Some h) ⊎ (b n ≡ Some h)
  one n = joined-one (a n) (b n) (agree n)

  join-above_first : ContentBelow a (join_of a b)
  join-above_first n = joined-first (a n) (b n)

  join-above_second : ContentBelow b (join_of a b)
  join-above_second n = joined-second (a n) (b n) (agree n)

  -- what either side has at an id is there with the same changeset
  same-within : (f : Content) → ContentBelow f (join_of a b) → (n : Node) (h k : Held) → f n ≡ Some h
      → joined (a n) (b n) ≡ Some k → k.changeset ≡ h.changeset
  same-within f up n h k at_h at_k =
      let x = up n h at_h in
      ap (λ z. z.changeset) (same_Some k x.0 (sym at_k ∙ x.1)) ∙ x.2

  parent-there : (f : Content) → IsValidContent f → ContentBelow f (join_of a b) → (n p : Node) (h : Held)
      → f n ≡ Some h → IsParent h.changeset p → (g : Held) × (joined (a p) (b p) ≡ Some g)
      × (rank g.phase ≤ rank h.phase)
  parent-there f valid up n p h e is =
      let parent = valid.parents n h p e is in
      let x = up p parent.0 parent.1 in
      (x.0, x.1, omega (arith, x.3, parent.2))

  grounded-there : (f : Content) → IsValidContent f → ContentBelow f (join_of a b) → (n p : Node) (h : Held)
      → f n ≡ Some h → IsParent h.changeset p → IsGrounded (join_of a b) p
  grounded-there f valid up n p h e is =
      let parent = valid.parents n h p e is in
      grounded-within f (join_of a b) valid (same-within f up) p (valid.grounded p) (parent.0, parent.1)

  join-valid : IsValidContent (join_of a b)
  join-valid = record {
    named = λ n h e. elim (one n h e) [ inl x ↦ v.named n h x | inr x ↦ w.named n h x ];
    parents = λ n h p e is. elim (one n h e) [
      | inl x ↦ parent-there a v join-above_first n p h x is
      | inr x ↦ parent-there b w join-above_second n p h x is
    ];
    grounded = λ n. grounded (λ h p e is. elim (one n h e) [
      | inl x ↦ grounded-there a v join-above_first n p h x is
      | inr x ↦ grounded-there b w join-above_second n p h x is
    ]);
  }

  join-least : IsLeastAbove IsValidContent ContentBelow a b (join_of a b)
  join-least = record {
    valid = join-valid;
    above_first = join-above_first;
    above_second = join-above_second;
    least = λ d _ p q n h e. elim (one n h e) [ inl x ↦ p n h x | inr x ↦ q n h x ];
  }

-- the join is the least valid content above both
pub joins_least : (a b c : Content) → IsValidContent a → IsValidContent b → ContentsJoined a b c
    → IsLeastAbove IsValidContent ContentBelow a b c
joins_least a b c v w h = subst (IsLeastAbove IsValidContent ContentBelow a b) (sym h.1) (join-least a b v w h.0)

-- ---- refusals

-- contents that join don't collide
pub joined_apart : (a b c : Content) (fault : Fault) → ContentsJoined a b c → ContentsCollide a b fault → ⊥
joined_apart a b c fault joined (n, h, k, at_h, at_k, differ, is) = differ (joined.0 n h k at_h at_k)

-- nothing above mends a collision
pub collided_for_good : (a b c : Content) (fault : Fault) → ContentBelow a c → ContentBelow b c
    → ContentsCollide a b fault → ⊥
collided_for_good a b c fault p q (n, h, k, at_h, at_k, differ, is) =
    let x = p n h at_h in
    let y = q n k at_k in
    differ (sym x.2 ∙ ap (λ z. z.changeset) (same_Some x.0 y.0 (sym x.1 ∙ y.1)) ∙ y.2)

-- want of memory is no collision
pub memory_apart : (a b : Content) (fault : Fault) → fault ≡ NoMemory → ContentsCollide a b fault → ⊥
memory_apart a b fault e (n, h, k, at_h, at_k, differ, is) = let x = sym e ∙ is in cc
