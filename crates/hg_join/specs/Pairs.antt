-- Pairs of contents, each half by itself, the first half tried first.
use Rattle.std.specs.Prelude.{◌↔◌, ℕ, Option, Some, List, [], ◌∷◌, ⊤, codes}
use Rattle.hg_join.specs.Order.{IsPartialOrder, IsLeastAbove, IsLeastCovering}
use Rattle.hg_join.specs.declared.both.BothFault.{BothFault}
use Rattle.hg_join.specs.declared.both.BothFault.TheVariants.{First, Second, NoMemory}

-- both halves are valid
abbrev pub BothValid : {C D : Type 0} → (C → Type 0) → (D → Type 0) → C × D → Type 0
BothValid V W c = V c.0 × W c.1

-- each half is below the other's
abbrev pub BothBelow : {C D : Type 0} → (C → C → Type 0) → (D → D → Type 0) → C × D → C × D → Type 0
BothBelow R S a b = R a.0 b.0 × S a.1 b.1

-- each half is the join of those halves
abbrev pub BothJoined : {C D : Type 0} → (C → C → C → Type 0) → (D → D → D → Type 0) → C × D → C × D → C × D → Type 0
BothJoined R S a b c = R a.0 b.0 c.0 × S a.1 b.1 c.1

-- each half covers its half of the part; in the same words, each half admits its half
abbrev pub BothCover : {C D P Q : Type 0} → (C → P → Type 0) → (D → Q → Type 0) → C × D → P × Q → Type 0
BothCover X Y c p = X c.0 p.0 × Y c.1 p.1

-- each half is what its half of the part leaves
abbrev pub BothAfter : {C D P Q : Type 0} → (C → P → C → Type 0) → (D → Q → D → Type 0) → C × D → P × Q → C × D → Type 0
BothAfter X Y c p d = X c.0 p.0 d.0 × Y c.1 p.1 d.1

-- each half of the change tells what its half of the part made of its half of the state
abbrev pub BothTell : {A B P Q E F : Type 0} → (A → P → E → A → Type 0) → (B → Q → F → B → Type 0) → A × B → P × Q →
    E × F → A × B → Type 0
BothTell X Y old part change new = X old.0 part.0 change.0 new.0 × Y old.1 part.1 change.1 new.1

-- a fault of one half, or want of memory
abbrev pub FaultOf : {F G : Type 0} → (F → Type 0) → (G → Type 0) → Type 0 → BothFault F G → Type 0
FaultOf P Q N (First f) = P f
FaultOf P Q N (Second g) = Q g
FaultOf P Q N NoMemory = N

-- the text of a half's fault, or the name of want of memory
abbrev pub fault_text : {F G : Type 0} → (F → Option (List ℕ)) → (G → Option (List ℕ)) → BothFault F G → Option (List ℕ)
fault_text f_text g_text (First f) = f_text f
fault_text f_text g_text (Second g) = g_text g
fault_text f_text g_text NoMemory = Some (codes "NoMemory")

-- want of memory of either half, or of the pair
abbrev pub IsWantOfBoth : {F G : Type 0} → (F → Type 0) → (G → Type 0) → BothFault F G → Type 0
IsWantOfBoth P Q fault = FaultOf P Q ⊤ fault

-- the first halves collide; or they have a join, and the second halves collide
abbrev pub BothCollide : {C D F G : Type 0} → (C → C → C → Type 0) → (C → C → F → Type 0) → (D → D → G → Type 0) →
    C × D → C × D → BothFault F G → Type 0
BothCollide {C} Joined P Q a b fault = FaultOf (P a.0 b.0) (λ g. ((c : C) × Joined a.0 b.0 c) × Q a.1 b.1 g) ⊥ fault

-- the first half's first fault; or the first half admits its part, and it is the second half's first fault
abbrev pub IsFirstOfBoth : {C D P Q F G : Type 0} → (C → P → Type 0) → (C → P → F → Type 0) → (D → Q → G → Type 0) →
    C × D → P × Q → BothFault F G → Type 0
IsFirstOfBoth Admits X Y c p fault = FaultOf (X c.0 p.0) (λ g. Admits c.0 p.0 × Y c.1 p.1 g) ⊥ fault

module _ {C D : Type 0} {V : C → Type 0} {W : D → Type 0} {R : C → C → Type 0} {S : D → D → Type 0} where
  pub both_ordered : IsPartialOrder V R → IsPartialOrder W S → IsPartialOrder (BothValid V W) (BothBelow R S)
  both_ordered r s = record {
    reflexive = λ a v. (r.reflexive a.0 v.0, s.reflexive a.1 v.1);
    transitive =
        λ a b c u v w p q. (r.transitive a.0 b.0 c.0 u.0 v.0 w.0 p.0 q.0, s.transitive a.1 b.1 c.1 u.1 v.1 w.1 p.1 q.1);
    antisymmetric =
        λ a b v w p q i. (r.antisymmetric a.0 b.0 v.0 w.0 p.0 q.0 i, s.antisymmetric a.1 b.1 v.1 w.1 p.1 q.1 i);
  }

  pub both_least : (a b c : C × D) → IsLeastAbove V R a.0 b.0 c.0 → IsLeastAbove W S a.1 b.1 c.1 →
      IsLeastAbove (BothValid V W) (BothBelow R S) a b c
  both_least a b c h k = record {
    valid = (h.valid, k.valid);
    above_first = (h.above_first, k.above_first);
    above_second = (h.above_second, k.above_second);
    least = λ d v p q. (h.least d.0 v.0 p.0 q.0, k.least d.1 v.1 p.1 q.1);
  }

  pub both_covering : {P Q : Type 0} (X : C → P → Type 0) (Y : D → Q → Type 0) (a b : C × D) (p : P × Q) →
      IsLeastCovering V R X a.0 (p.0 ∷ []) b.0 → IsLeastCovering W S Y a.1 (p.1 ∷ []) b.1 →
      IsLeastCovering (BothValid V W) (BothBelow R S) (BothCover X Y) a (p ∷ []) b
  both_covering X Y a b p h k = record {
    valid = (h.valid, k.valid);
    above = (h.above, k.above);
    covers = ((h.covers.0, k.covers.0), tt);
    least = λ d v up c. (h.least d.0 v.0 up.0 (c.0.0, tt), k.least d.1 v.1 up.1 (c.0.1, tt));
  }

-- both sides are defined together and equal, where each half's are
pub both_associate : {C D : Type 0} {V : C → Type 0} {W : D → Type 0} {R : C → C → C → Type 0}
    {S : D → D → D → Type 0} →
    ((a b c d : C) → V a → V b → V c → ((ab : C) × R a b ab × R ab c d) ↔ ((bc : C) × R b c bc × R a bc d)) →
    ((a b c d : D) → W a → W b → W c → ((ab : D) × S a b ab × S ab c d) ↔ ((bc : D) × S b c bc × S a bc d)) →
    (a b c d : C × D) → BothValid V W a → BothValid V W b → BothValid V W c →
    ((ab : C × D) × BothJoined R S a b ab × BothJoined R S ab c d)
    ↔ ((bc : C × D) × BothJoined R S b c bc × BothJoined R S a bc d)
both_associate r s a b c d u v w =
    let one = r a.0 b.0 c.0 d.0 u.0 v.0 w.0 in
    let two = s a.1 b.1 c.1 d.1 u.1 v.1 w.1 in (
      λ h.
          let x = one.0 (h.0.0, h.1.0, h.2.0) in
          let y = two.0 (h.0.1, h.1.1, h.2.1) in ((x.0, y.0), (x.1, y.1), (x.2, y.2)),
      λ h.
          let x = one.1 (h.0.0, h.1.0, h.2.0) in
          let y = two.1 (h.0.1, h.1.1, h.2.1) in ((x.0, y.0), (x.1, y.1), (x.2, y.2)),
    )

-- a pair has no fault that neither half has
pub neither_fault : {F G : Type 0} (P : F → Type 0) (Q : G → Type 0) → ((f : F) → P f → ⊥) → ((g : G) → Q g → ⊥) →
    (fault : BothFault F G) → FaultOf P Q ⊥ fault → ⊥
neither_fault P Q p q (First f) h = p f h
neither_fault P Q p q (Second g) h = q g h
neither_fault P Q p q NoMemory h = h

-- want of memory is no fault of a pair, where it is none of either half
pub want_apart : {F G : Type 0} (P P' : F → Type 0) (Q Q' : G → Type 0) → ((f : F) → P f → P' f → ⊥) →
    ((g : G) → Q g → Q' g → ⊥) → (fault : BothFault F G) → FaultOf P Q ⊤ fault → FaultOf P' Q' ⊥ fault → ⊥
want_apart P P' Q Q' p q (First f) h k = p f h k
want_apart P P' Q Q' p q (Second g) h k = q g h k
want_apart P P' Q Q' p q NoMemory h k = k
