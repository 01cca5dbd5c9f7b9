-- What neighbours tell has one solution, and where it can fail after a change.
use Rattle.std.proofs.Common.{ℕ, zero, suc, ◌+◌, ◌≤◌, List, [], length, Contains, ◌↔◌, inl, inr, refl}
use Rattle.std.proofs.Common.{arith}
use Rattle.hg_changeset.specs.declared.node.Node.{Node}
use Rattle.hg_changeset.proofs.ListLemmas.{Contains-none}
use Rattle.hg_graph.specs.Places.{IsAt}
use Rattle.hg_graph.proofs.PlaceLemmas.{placed_within, parent_first}
use Rattle.hg_phases.specs.State.{changesets}
use Rattle.hg_history.specs.Content.{IsHeld, IsGrounded}
use Rattle.hg_history.specs.Content.IsGrounded.{grounded}
use Rattle.hg_history.proofs.ContentLemmas.{content-node}
use Rattle.hg_replica.specs.State.{ReplicaState, IsValid}
use Rattle.hg_replica.specs.Content.{Content, content_of}
use Rattle.hg_replica.specs.Change.{ChangeValue}
use Rattle.hg_replica.specs.Evolution.{IsObsolete, IsCurrent, IsOrphan, IsExtinct}
use Rattle.hg_replica.proofs.ContentLemmas.{content-valid}
use Rattle.hg_instab.specs.declared.waiting.Beside.TheVariants.{Children, Parents}
use Rattle.hg_instab.specs.Changed.{Follows, IsSeed, AreSeeded, IsNow}
use Rattle.hg_instab.specs.Local.{IsParentOf, StandsUnstably, HoldsNothing}
use Rattle.hg_instab.specs.Settling.{IsBesideOne, IsToldBut, IsSettling}
use Rattle.hg_instab.proofs.ChangedLemmas.{held-after, parent-after, parent-before}
use Rattle.hg_instab.proofs.ChangedLemmas.{obsolete-untouched, current-untouched}
use Rattle.hg_instab.proofs.LocalLemmas.{orphan-by_parents, extinct-by_children}
use Rattle.hg_instab.proofs.SettlingLemmas.{place-from_parent, parent-held, placed-node}

-- ---- one solution

module _ (s : ReplicaState) (v : IsValid s) (A B : Node → Type 0) where
  -- parents decide on orphans
  pub one-orphan : ((n : Node) → IsHeld (content_of s).0 n → A n ↔ StandsUnstably (content_of s) A n)
      → ((n : Node) → IsHeld (content_of s).0 n → B n ↔ StandsUnstably (content_of s) B n) → (n : Node)
      → IsGrounded (content_of s).0 n → IsHeld (content_of s).0 n → A n ↔ B n
  one-orphan a b n (grounded up) held =
      let same : (p : Node) → IsParentOf (content_of s) p n → A p ↔ B p =
      λ p parent. one-orphan a b p (up parent.0 p parent.1 parent.2) (parent-held s v p n parent) in (
        λ h. let x = (a n held).0 h in
            (b n held).1
            (x.0, (x.1.0, x.1.1, elim x.1.2 [ inl o ↦ inl o | inr o ↦ inr ((same x.1.0 x.1.1).0 o) ])),
        λ h. let x = (b n held).0 h in
            (a n held).1
            (x.0, (x.1.0, x.1.1, elim x.1.2 [ inl o ↦ inl o | inr o ↦ inr ((same x.1.0 x.1.1).1 o) ])),
      )

  -- children decide on extinct changesets
  pub one-extinct : ((n : Node) → IsHeld (content_of s).0 n → A n ↔ HoldsNothing (content_of s) A n)
      → ((n : Node) → IsHeld (content_of s).0 n → B n ↔ HoldsNothing (content_of s) B n) → (n : Node)
      → IsHeld (content_of s).0 n → A n ↔ B n
  one-extinct a b n held =
      let k = placed-node s v n held in
      by (length (changesets s.history)) n k.0 k.1 held (omega arith)
    where
      by : (fuel : ℕ) (n : Node) (k : ℕ) → IsAt (changesets s.history) n k → IsHeld (content_of s).0 n
          → length (changesets s.history) ≤ k + fuel → A n ↔ B n
      by zero n k at held le = absurd (omega (arith, le, placed_within (changesets s.history) n k at))
      by (suc fuel) n k at held le =
          let same : (c : Node) → IsParentOf (content_of s) n c → A c ↔ B c =
          λ c parent.
          let there : IsHeld (content_of s).0 c = (parent.0, parent.1) in
          let j = placed-node s v c there in
          by fuel c j.0 j.1 there
          (let l = parent_first (changesets s.history) v.graph j.0 k (place-from_parent s v c n j.0 k j.1 at parent) in
          omega (arith, l, le)) in (
            λ h. let x = (a n held).0 h in (b n held).1 (x.0, λ c parent. (same c parent).0 (x.1 c parent)),
            λ h. let x = (b n held).0 h in (a n held).1 (x.0, λ c parent. (same c parent).1 (x.1 c parent)),
          )

-- of what is held, what is so exactly where neighbours tell it
module _ (s : ReplicaState) (v : IsValid s) (A : Node → Type 0)
    (held : (n : Node) → A n → IsHeld (content_of s).0 n) where
  pub orphans-solved : ((n : Node) → IsHeld (content_of s).0 n → A n ↔ StandsUnstably (content_of s) A n)
      → (n : Node) → A n ↔ IsOrphan (content_of s) n
  orphans-solved told n = (λ h. (one (held n h)).0 h, λ h. (one (h.0.0.0, h.0.0.1)).1 h)
    where
      one : IsHeld (content_of s).0 n → A n ↔ IsOrphan (content_of s) n
      one there = one-orphan s v A (IsOrphan (content_of s)) told (λ m _. orphan-by_parents s v m) n
          ((content-valid s v).grounded n) there

  pub extinct-solved : ((n : Node) → IsHeld (content_of s).0 n → A n ↔ HoldsNothing (content_of s) A n)
      → (n : Node) → A n ↔ IsExtinct (content_of s) n
  extinct-solved told n = (λ h. (one (held n h)).0 h, λ h. (one (h.0.0.0, h.0.0.1)).1 h)
    where
      one : IsHeld (content_of s).0 n → A n ↔ IsExtinct (content_of s) n
      one there = one-extinct s v A (IsExtinct (content_of s)) told (λ m _. extinct-by_children s v m) n there

-- ---- after a change

module _ (s t : ReplicaState) (change : ChangeValue) (v : IsValid s) (w : IsValid t)
    (follows : Follows (content_of s) (content_of t) change t.markers) where
  abbrev f : Content
  f = content_of s

  abbrev g : Content
  g = content_of t

  module _ (seeds : List ℕ) (given : AreSeeded t change seeds) (starts : List ℕ)
      (begun : (k : ℕ) → Contains seeds k → Contains starts k) where
    untouched-there : (n : Node) (k : ℕ) → IsAt (changesets t.history) n k → ¬ (Contains starts k)
        → ¬ (IsSeed t.markers change n)
    untouched-there n k at free seed = free (begun k (given n k seed at))

    -- of a set of what is held, what is so now is held, and is so as neighbours tell it
    settled : (Told : (Node → Type 0) → Node → Type 0) (set turned : List Node)
        → ((n : Node) → Contains set n → IsHeld (content_of s).0 n)
        → IsToldBut (changesets t.history) Told (Contains set) starts
        → IsSettling (changesets t.history) Told set starts turned []
        → ((n : Node) → IsNow set turned n → IsHeld (content_of t).0 n)
        × ((n : Node) → IsHeld (content_of t).0 n → IsNow set turned n ↔ Told (IsNow set turned) n)
    settled Told set turned were told settling = (
      λ n h. elim h [
        | inl x ↦ held-after f g change t.markers follows n (were n x.0)
        | inr x ↦ content-node t.history w.graph n (settling.held n x.1)
      ],
      λ n there. let k = placed-node t w n there in settling.told told n k.0 k.1 (Contains-none k.0),
    )

    module _ (orphan : List Node) (kept : (n : Node) → Contains orphan n ↔ IsOrphan (content_of s) n)
        (turned_obsolete : List Node)
        (others : (n : Node) → ¬ (Contains turned_obsolete n)
        → IsObsolete (content_of t) n ↔ IsObsolete (content_of s) n)
        (places : List ℕ) (placed : (n : Node) (k : ℕ) → Contains turned_obsolete n → IsAt (changesets t.history) n k
        → Contains places k)
        (above : (k : ℕ) → IsBesideOne Children (changesets t.history) places k → Contains starts k) where
      -- parents tell of the orphans of before whether they are orphans now, but for those where the walk starts
      pub orphans-told : IsToldBut (changesets t.history) (StandsUnstably (content_of t)) (Contains orphan) starts
      orphans-told n k at free = (
        λ h. let x = by.0 ((kept n).0 h) in (
          current.1 x.0,
          (
            x.1.0,
            up x.1.0 x.1.1,
            elim x.1.2 [
              | inl o ↦ inl ((obsolete x.1.0 (up x.1.0 x.1.1)).1 o)
              | inr o ↦ inr ((kept x.1.0).1 o)
            ],
          ),
        ),
        λ h. (kept n).1 (by.1 (
          current.0 h.0,
          (
            h.1.0,
            down h.1.0 h.1.1,
            elim h.1.2 [ inl o ↦ inl ((obsolete h.1.0 h.1.1).0 o) | inr o ↦ inr ((kept h.1.0).0 o) ],
          ),
        )),
      )
        where
          untouched : ¬ (IsSeed t.markers change n)
          untouched = untouched-there n k at free

          current : IsCurrent g n ↔ IsCurrent f n
          current = current-untouched f g change t.markers follows n untouched

          by : IsOrphan (content_of s) n ↔ StandsUnstably (content_of s) (IsOrphan (content_of s)) n
          by = orphan-by_parents s v n

          up : (p : Node) → IsParentOf f p n → IsParentOf g p n
          up p parent = parent-after f g change t.markers follows p n parent

          down : (p : Node) → IsParentOf g p n → IsParentOf f p n
          down p parent = parent-before f g change t.markers follows p n (λ moves. untouched (inl moves)) parent

          obsolete : (p : Node) → IsParentOf (content_of t) p n
              → IsObsolete (content_of t) p ↔ IsObsolete (content_of s) p
          obsolete p parent = others p (λ did.
              let j = placed-node t w p (parent-held t w p n parent) in
              free (above k (j.0, placed p j.0 did j.1, place-from_parent t w n p k j.0 at j.1 parent)))

      pub orphans-settled : (turned : List Node)
          → IsSettling (changesets t.history) (StandsUnstably (content_of t)) orphan starts turned [] → (n : Node)
          → IsNow orphan turned n ↔ IsOrphan (content_of t) n
      orphans-settled turned settling =
          let now = settled (StandsUnstably (content_of t)) orphan turned
          (λ n h. let o = (kept n).0 h in (o.0.0.0, o.0.0.1)) orphans-told settling in
          orphans-solved t w (IsNow orphan turned) now.0 now.1

    module _ (extinct : List Node) (kept : (n : Node) → Contains extinct n ↔ IsExtinct (content_of s) n)
        (below : (k : ℕ) → IsBesideOne Parents (changesets t.history) seeds k → Contains starts k) where
      -- children tell of what was extinct before whether it is extinct now, but for those where the walk starts
      pub extinct-told : IsToldBut (changesets t.history) (HoldsNothing (content_of t)) (Contains extinct) starts
      extinct-told n k at free = (
        λ h. let x = by.0 ((kept n).0 h) in (obsolete.1 x.0, λ c parent. (kept c).1 (x.1 c (down c parent))),
        λ h. (kept n).1 (by.1 (obsolete.0 h.0, λ c parent. (kept c).0 (h.1 c (up c parent)))),
      )
        where
          untouched : ¬ (IsSeed t.markers change n)
          untouched = untouched-there n k at free

          obsolete : IsObsolete g n ↔ IsObsolete f n
          obsolete = obsolete-untouched f g change t.markers follows n untouched

          by : IsExtinct (content_of s) n ↔ HoldsNothing (content_of s) (IsExtinct (content_of s)) n
          by = extinct-by_children s v n

          up : (c : Node) → IsParentOf f n c → IsParentOf g n c
          up c parent = parent-after f g change t.markers follows n c parent

          down : (c : Node) → IsParentOf g n c → IsParentOf f n c
          down c parent =
              let j = placed-node t w c (parent.0, parent.1) in
              parent-before f g change t.markers follows n c (λ moves. free
              (below k (j.0, given c j.0 (inl moves) j.1, place-from_parent t w c n j.0 k j.1 at parent))) parent

      pub extinct-settled : (turned : List Node)
          → IsSettling (changesets t.history) (HoldsNothing (content_of t)) extinct starts turned [] → (n : Node)
          → IsNow extinct turned n ↔ IsExtinct (content_of t) n
      extinct-settled turned settling =
          let now = settled (HoldsNothing (content_of t)) extinct turned
          (λ n h. let o = (kept n).0 h in (o.0.0.0, o.0.0.1)) extinct-told settling in
          extinct-solved t w (IsNow extinct turned) now.0 now.1
