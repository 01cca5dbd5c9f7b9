-- What shows that a list is the family of a node.
use Rattle.std.proofs.Common.{◌≡◌, ◌⊎◌, ◌∷◌, ◌++◌, [], List, Contains, arith, inl, inr, ⊎_elim, subst, sym, refl, map}
use Rattle.std.proofs.Common.{ap, length, ◌∙◌}
use Rattle.std.proofs.lemmas.List.{append-nil}
use Rattle.std.proofs.lemmas.List.Elements.{Contains-append_left, Contains-append_right, Contains-append_cases}
use Rattle.std.specs.List.{AllZip}
use Rattle.std.specs.List.Sorted.{IsStrictlySortedBy}
use Rattle.hg_changeset.specs.declared.node.Node.{Node}
use Rattle.hg_marker.specs.Fields.{Fields}
use Rattle.hg_history.specs.Content.{IsHeld}
use Rattle.hg_replica.specs.Content.{Content}
use Rattle.hg_replica.specs.Evolution.{IsMarker, IsPredecessor, Precedes}
use Rattle.hg_replica.specs.Evolution.Precedes.{step, further}
use Rattle.hg_changeset.proofs.NodeLemmas.{node_cmp_total}
use Rattle.hg_succ.proofs.SortedLemmas.{same_members}
use Rattle.hg_succ.specs.Successors.{IsPick, IsPickOfEach, IsOnCycle, AreWithin, IsFamily, IsOverfull, IsAny}
use Rattle.hg_succ.specs.Successors.IsPick.{on_cycle, itself, unknown, rewritten}
use Rattle.hg_succ.specs.Successors.IsPickOfEach.{no_places, next_place}
use Rattle.hg_succ.specs.Successors.IsOverfull.{passed_on, too_many}
use Rattle.hg_succ.specs.Cover.{IsCover}
use Rattle.hg_succ.specs.Unions.{IsChoice, AreLargest}
use Rattle.hg_changeset.proofs.ListLemmas.{Contains-later, Contains-none}

-- nothing is within nothing
within_nil : (xs : List Node) → AreWithin xs [] → xs ≡ []
within_nil [] w = refl
within_nil (x ∷ xs) w = let h : Contains [] x = w x (0, omega arith, refl) in absurd (omega (arith, h.1))

pub family_from_cover : (s : Content) (n : Node) (family : List (List Node)) → IsCover s n family → IsFamily s n family
family_from_cover s n family c = record {
  ascending = c.ascending;
  exact = λ set. (
    (λ h. record {
      ascending = c.each_ascending set h;
      some = c.some set h;
      pick = c.picks set h;
      largest = λ p is_pick within. ⊎_elim
          (λ (empty : p ≡ []). absurd (c.some set h (within_nil set (subst (AreWithin set) empty within))))
          (λ (q : (other : List Node) × Contains family other × AreWithin p other).
          let same = c.apart set q.0 h q.1 (λ x i. q.2 x (within x i)) in
          λ x i. subst (λ (ys : List Node). Contains ys x) (sym same) (q.2 x i))
          (c.covers p is_pick);
    }),
    (λ h. ⊎_elim
        (λ (empty : h.pick.0 ≡ []). absurd (h.some (within_nil set (subst (AreWithin set) empty h.pick.2))))
        (λ (q : (other : List Node) × Contains family other × AreWithin h.pick.0 other).
        let other_pick = c.picks q.0 q.1 in
        let up : AreWithin set q.0 = λ x i. q.2 x (h.pick.2 x i) in
        let down = h.largest other_pick.0 other_pick.1 (λ x i. other_pick.2 x (up x i)) in
        let same = same_members node_cmp_total q.0 set (c.each_ascending q.0 q.1) h.ascending
        (λ x i. down x (other_pick.2 x i)) up in
        subst (Contains family) same q.1)
        (c.covers h.pick.0 h.pick.1)),
  );
}

-- what precedes another, or itself, has a marker
pub precedes_rewritten : (s : Content) (p n : Node) → Precedes s IsAny p n → IsPredecessor s p
precedes_rewritten s p n (step {m = m} held kind at is) = (m, held, is)
precedes_rewritten s p n (further {m = m} held kind at r) = precedes_rewritten s p m.predecessor r

pub cycle_rewritten : (s : Content) (n : Node) → IsOnCycle s n → IsPredecessor s n
cycle_rewritten s n on = precedes_rewritten s n n on

-- the one pick of a node that is on a cycle is empty
pub pick_on_cycle : (s : Content) (n : Node) (p : List Node) → IsOnCycle s n → IsPick s n p → p ≡ []
pick_on_cycle s n p on (on_cycle h) = refl
pick_on_cycle s n p on (itself free held) = absurd (free (cycle_rewritten s n on))
pick_on_cycle s n p on (unknown free not_held) = refl
pick_on_cycle s n p on (rewritten m in' at off picks) = absurd (off on)

pub not_overfull : (s : Content) (n : Node) → IsOnCycle s n → IsOverfull s n → ⊥
not_overfull s n on (passed_on off to over) = off on
not_overfull s n on (too_many places counts off are zip many) = off on

-- what no marker rewrites has itself, where it is held, and nothing else
pub pick_free_held : (s : Content) (n : Node) (p : List Node) → ¬ (IsPredecessor s n) → IsHeld s.0 n → IsPick s n p
    → p ≡ n ∷ []
pick_free_held s n p free held (on_cycle on) = absurd (free (cycle_rewritten s n on))
pick_free_held s n p free held (itself f h) = refl
pick_free_held s n p free held (unknown f not_held) = absurd (not_held held)
pick_free_held s n p free held (rewritten m in' at off picks) = absurd (free (m, in', at))

pub pick_free_unknown : (s : Content) (n : Node) (p : List Node) → ¬ (IsPredecessor s n) → ¬ (IsHeld s.0 n)
    → IsPick s n p → p ≡ []
pick_free_unknown s n p free not_held (on_cycle on) = refl
pick_free_unknown s n p free not_held (itself f h) = absurd (not_held h)
pick_free_unknown s n p free not_held (unknown f h) = refl
pick_free_unknown s n p free not_held (rewritten m in' at off picks) = absurd (free (m, in', at))

-- a pick of each place of a list that has one is a pick of what stands there
pub pick_of_one : (s : Content) (x : Node) (ns p : List Node) → ns ≡ x ∷ [] → IsPickOfEach s ns p → IsPick s x p
pick_of_one s x ns p is no_places = absurd (let e = ap length is in omega (arith, e))
pick_of_one s x ns p is (next_place {n = y} {ns = ys} {pick = a} {picks = b} first rest) =
    let head : y ≡ x = cc in
    let none : ys ≡ [] = cc in
    subst (IsPick s x) (sym (append-nil a) ∙ ap (λ (c : List Node). a ++ c) (sym (no_picks ys b none rest)))
    (subst (λ (z : Node). IsPick s z a) head first)
  where
    no_picks : (zs : List Node) (q : List Node) → zs ≡ [] → IsPickOfEach s zs q → q ≡ []
    no_picks zs q is' no_places = refl
    no_picks zs q is' (next_place first' rest') = absurd (let e = ap length is' in omega (arith, e))

append_within : (a b c d : List Node) → AreWithin a c → AreWithin b d → AreWithin (a ++ b) (c ++ d)
append_within a b c d f g x h = ⊎_elim (λ (l : Contains a x). Contains-append_left c d x (f x l))
    (λ (r : Contains b x). Contains-append_right c d x (g x r)) (Contains-append_cases a b x h)

-- a node without sets has an empty pick
empty_pick : (s : Content) (n : Node) (f : List (List Node)) → IsCover s n f → f ≡ [] → IsPick s n []
empty_pick s n f c empty = ⊎_elim (λ (e : c.one.0 ≡ []). subst (IsPick s n) e c.one.1)
    (λ (q : (set : List Node) × Contains f set × AreWithin c.one.0 set).
    absurd (Contains-none q.0 (subst (λ (g : List (List Node)). Contains g q.0) empty q.1)))
    (c.covers c.one.0 c.one.1)

-- each choice is, as a set, a pick of each of the successors
pub choice_is_pick : (s : Content) (ns : List Node) (fs : List (List (List Node))) (u : List Node)
    → AllZip (IsCover s) ns fs → IsChoice fs u → (p : List Node) × IsPickOfEach s ns p × AreWithin u p × AreWithin p u
choice_is_pick s [] [] u all e =
    ([], no_places, subst (λ (v : List Node). AreWithin v []) (sym e) (λ x h. h), (λ x h. absurd (Contains-none x h)))
choice_is_pick s [] (f ∷ fs) u all e = absurd all
choice_is_pick s (n ∷ ns) [] u all e = absurd all
choice_is_pick s (n ∷ ns) (f ∷ fs) u all e = ⊎_elim
    (λ (skip : (f ≡ []) × IsChoice fs u). let rest = choice_is_pick s ns fs u all.1 skip.1 in
    (rest.0, next_place (empty_pick s n f all.0 skip.0) rest.1, rest.2, rest.3))
    (λ (q : (set : List Node) × (rest : List Node) × Contains f set × IsChoice fs rest × (u ≡ set ++ rest)).
    let first = all.0.picks q.0 q.2 in
    let rest = choice_is_pick s ns fs q.1 all.1 q.3 in (
      first.0 ++ rest.0,
      next_place first.1 rest.1,
      subst (λ (v : List Node). AreWithin v (first.0 ++ rest.0)) (sym q.4)
          (append_within q.0 q.1 first.0 rest.0 first.2 rest.2),
      subst (AreWithin (first.0 ++ rest.0)) (sym q.4) (append_within first.0 rest.0 q.0 q.1 first.3 rest.3),
    ))
    e

-- a family has no sets, or a first one
empty_or_first : (f : List (List Node)) → (f ≡ []) ⊎ ((set : List Node) × Contains f set)
empty_or_first [] = inl refl
empty_or_first (set ∷ f) = inr (set, (0, omega arith, refl))

-- each pick of each of the successors is within a choice
pub pick_in_choice : (s : Content) (ns : List Node) (fs : List (List (List Node))) (p : List Node)
    → AllZip (IsCover s) ns fs → IsPickOfEach s ns p → (u : List Node) × IsChoice fs u × AreWithin p u
pick_in_choice s [] [] p all no_places = ([], refl, λ x h. h)
pick_in_choice s [] (f ∷ fs) p all picks = absurd all
pick_in_choice s (n ∷ ns) [] p all picks = absurd all
pick_in_choice s (n ∷ ns) (f ∷ fs) p all (next_place {pick = a} {picks = b} first rest) =
    let more = pick_in_choice s ns fs b all.1 rest in
    let with' = λ (set : List Node) (in' : Contains f set) (w : AreWithin a set).
    (let r : (u : List Node) × IsChoice (f ∷ fs) u
    × AreWithin (a ++ b) u =
    (set ++ more.0, inr (set, more.0, in', more.1, refl), append_within a b set more.0 w more.2) in r) in
    ⊎_elim
    (λ (e : a ≡ []). ⊎_elim
    (λ (none : f ≡ []). (
      more.0,
      inl (none, more.1),
      subst (λ (v : List Node). AreWithin (v ++ b) more.0) (sym e)
          more.2,
    ))
    (λ (some : (set : List Node) × Contains f set). with' some.0 some.1
    (subst (λ (v : List Node). AreWithin v some.0) (sym e) (λ x h. absurd (Contains-none x h))))
    (empty_or_first f))
    (λ (q : (set : List Node) × Contains f set × AreWithin a set). with' q.0 q.1 q.2)
    (all.0.covers a first)

-- covers for each of a list of nodes, by a table
pub covers_of_each : (s : Content) (table : Node → List (List Node)) (ns : List Node)
    → ((x : Node) → Contains ns x → IsCover s x (table x)) → AllZip (IsCover s) ns (map table ns)
covers_of_each s table [] c = tt
covers_of_each s table (n ∷ ns) c =
    (c n (0, omega arith, refl), covers_of_each s table ns (λ x h. c x (Contains-later n ns x h)))

any_pick : (s : Content) (table : Node → List (List Node)) (ns : List Node)
    → ((x : Node) → Contains ns x → IsCover s x (table x)) → (p : List Node) × IsPickOfEach s ns p
any_pick s table [] c = ([], no_places)
any_pick s table (n ∷ ns) c =
    let first = (c n (0, omega arith, refl)).one in
    let rest = any_pick s table ns (λ x h. c x (Contains-later n ns x h)) in
    (first.0 ++ rest.0, next_place first.1 rest.1)

-- the choices of the markers of n, each a list
pub record AreUnions (s : Content) (n : Node) (table : Node → List (List Node)) (found : List (List Node)) : Type
    0 where
  pub sound : (u : List Node) → Contains found u → (m : Fields) × IsMarker s m × (m.predecessor ≡ n)
      × IsChoice (map table m.successors) u
  pub complete : (m : Fields) (u : List Node) → IsMarker s m → m.predecessor ≡ n → IsChoice (map table m.successors) u
      → Contains found u

pick_covered : (s : Content) (n : Node) (table : Node → List (List Node)) (found family : List (List Node))
    (p : List Node) → ¬ (IsOnCycle s n) → IsPredecessor s n
    → ((m : Fields) → IsMarker s m → m.predecessor ≡ n → AllZip (IsCover s) m.successors (map table m.successors))
    → AreUnions s n table found → AreLargest found family → IsPick s n p
    → (p ≡ []) ⊎ ((set : List Node) × Contains family set × AreWithin p set)
pick_covered s n table found family p off is_rewritten all unions largest (on_cycle h) = absurd (off h)
pick_covered s n table found family p off is_rewritten all unions largest (itself free held) =
    absurd (free is_rewritten)
pick_covered s n table found family p off is_rewritten all unions largest (unknown free not_held) = inl refl
pick_covered s n table found family p off is_rewritten all unions largest (rewritten m in' at off' picks) =
    let u = pick_in_choice s m.successors (map table m.successors) p (all m in' at) picks in
    ⊎_elim
    (λ (e : u.0 ≡ []). inl (within_nil p (subst (AreWithin p) e u.2)))
    (λ (big : (big : List Node) × Contains family big × AreWithin u.0 big).
    inr (big.0, big.1, λ x i. big.2 x (u.2 x i)))
    (largest.covers u.0 (unions.complete m u.0 in' at u.1))

pub cover_from_unions : (s : Content) (n : Node) (table : Node → List (List Node)) (found family : List (List Node))
    → ¬ (IsOnCycle s n) → IsPredecessor s n
    → ((m : Fields) → IsMarker s m → m.predecessor ≡ n → (x : Node) → Contains m.successors x → IsCover s x (table x))
    → AreUnions s n table found → AreLargest found family → IsCover s n family
cover_from_unions s n table found family off is_rewritten below unions largest =
    let all = λ (m : Fields) (in' : IsMarker s m) (at : m.predecessor ≡ n). covers_of_each s table m.successors
    (below m in' at) in
    record {
      ascending = largest.ascending;
      each_ascending = largest.each_ascending;
      some = largest.some;
      one = (let p = any_pick s table is_rewritten.0.successors (below is_rewritten.0 is_rewritten.1 is_rewritten.2) in
          (p.0, rewritten is_rewritten.0 is_rewritten.1 is_rewritten.2 off p.1));
      picks = λ set h.
          let l = largest.kept set h in
          let u = unions.sound l.0 l.1 in
          let p = choice_is_pick s u.0.successors (map table u.0.successors) l.0 (all u.0 u.1 u.2) u.3 in
          (p.0, rewritten u.0 u.1 u.2 off p.1, (λ x i. p.2 x (l.2 x i)), (λ x i. l.3 x (p.3 x i)));
      apart = largest.apart;
      covers = λ p is_pick. pick_covered s n table found family p off is_rewritten (λ m in' at. all m in' at) unions
          largest is_pick;
    }
