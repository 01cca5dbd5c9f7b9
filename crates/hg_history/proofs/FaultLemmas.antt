-- The first fault of a part.
use Rattle.std.proofs.Common.{◌≡◌, ◌≢◌, ℕ, Bool, true, false, List, ◌++◌, length, take, slice_get, Some, Contains, ◌⊎◌}
use Rattle.std.proofs.Common.{◌↔◌, inl, inr, refl, sym, ap, subst, ◌∙◌}
use Rattle.std.proofs.lemmas.Bool.{cases_order}
use Rattle.std.proofs.lemmas.List.Elements.{Contains-append_left, Contains-append_right, Contains-append_cases}
use Rattle.std.proofs.lemmas.Option.{same_Some, slice_get_within}
use Rattle.hg_changeset.specs.declared.node.Node.{Node}
use Rattle.hg_changeset.specs.Node.{node_eq, null_node}
use Rattle.hg_changeset.specs.Contents.{Contents}
use Rattle.hg_changeset.specs.Changeset.{node_of}
use Rattle.hg_changeset.proofs.NodeLemmas.{same_node, node_eq_laws}
use Rattle.hg_graph.specs.Graph.{nodes, Holds, HoldsParents}
use Rattle.hg_graph.specs.Answers.{IsFirstMissing, Collides}
use Rattle.hg_graph.proofs.GraphLemmas.{Contains-from_place, place_from_Contains}
use Rattle.hg_graph.proofs.MarkLemmas.{get-take}
use Rattle.hg_phases.specs.declared.phase.Phase.{Phase}
use Rattle.hg_phases.specs.State.{State, changesets}
use Rattle.hg_phases.specs.Least.{PartValue, IsAdmitted}
use Rattle.hg_history.specs.declared.fault.Fault.{Fault}
use Rattle.hg_history.specs.declared.fault.Fault.TheVariants.{UnknownParent, Collision, UnknownBound, NullBound}
use Rattle.hg_history.specs.declared.fault.Fault.TheVariants.{NoMemory}
use Rattle.hg_history.specs.Answer.{IsFineUpTo, IsFirstUnheld, IsFirstFault}
use Rattle.hg_history.proofs.AddLemmas.{Holds-same}

-- ---- a part that is admitted

-- an id of one list or the other is one of both
either : (cs ds : List Contents) (n : Node) → Contains (nodes cs) n ⊎ Contains (nodes ds) n → Holds (cs ++ ds) n
either cs ds n (inl h) = Holds-same cs (cs ++ ds) (λ c at. Contains-append_left cs ds c at) n h
either cs ds n (inr h) = Holds-same ds (cs ++ ds) (λ c at. Contains-append_right cs ds c at) n h

module _ (s : State) (k : PartValue) (admitted : IsAdmitted s k) where
  parents_held : (i : ℕ) (c : Contents) → slice_get k.changesets i ≡ Some c
      → HoldsParents (changesets s ++ take i k.changesets) c
  parents_held i c at p is = either (changesets s) (take i k.changesets) p (admitted.parents i c at p is)

  apart : (i : ℕ) (c : Contents) → slice_get k.changesets i ≡ Some c → Collides (changesets s ++ take i k.changesets) c
      → ⊥
  apart i c at h =
      let in_part : Contains (changesets s) h.0 ⊎ Contains k.changesets h.0 =
      elim (Contains-append_cases (changesets s) (take i k.changesets) h.0 h.1) [
        | inl x ↦ inl x
        | inr x ↦ let p = place_from_Contains (take i k.changesets) h.0 x in
            inr (Contains-from_place k.changesets p.0 h.0 (get-take k.changesets i p.0 h.0 p.1).1)
      ] in
      h.3 (sym (admitted.apart c h.0 (Contains-from_place k.changesets i c at) in_part (sym h.2)))

  bound_held : (n : Node) → IsFirstUnheld (changesets s ++ k.changesets) k.bounds n → ⊥
  bound_held n u =
      let h = admitted.bounds u.bound (Contains-from_place k.bounds u.place u.bound u.at) in
      u.unheld (subst (Holds (changesets s ++ k.changesets)) u.node (either (changesets s) k.changesets u.bound.0 h))

  pub no_fault : (f : Fault) → IsFirstFault (changesets s) k f → ⊥
  no_fault (UnknownParent p) h = h.4.1 (parents_held h.0 h.1 h.2 p h.4.0)
  no_fault (Collision n) h = apart h.0 h.1 h.2 h.5
  no_fault (UnknownBound n) h = bound_held n h.1
  no_fault NullBound h = bound_held null_node h.1
  no_fault NoMemory h = h

-- ---- one first fault

-- a changeset has one first missing parent
first_missing_is_one : (cs : List Contents) (c : Contents) (p q : Node) → IsFirstMissing cs c p → IsFirstMissing cs c q
    → p ≡ q
first_missing_is_one cs c p q h g = by (node_eq p q) refl
  where
    by : (b : Bool) → node_eq p q ≡ b → p ≡ q
    by true e = same_node p q e
    by false e =
        let ne : p ≢ q = λ x. cc (e, subst (λ m. node_eq p m ≡ true) x (node_eq_laws.refl p)) in
        elim h.0.1 [
          | inr second ↦ elim g.0.1 [
            | inr other ↦ sym second ∙ other
            | inl first ↦ absurd
                (g.1 (subst (Holds cs) first (h.2 (λ x. ne (sym x ∙ first)) (λ x. g.0.0 (sym first ∙ x)))))
          ]
          | inl first ↦ absurd
              (h.1 (subst (Holds cs) first (g.2 (λ x. ne (sym first ∙ x)) (λ x. h.0.0 (sym first ∙ x)))))
        ]

-- the first fault among the changesets is at a place
abbrev IsFaultAt : List Contents → List Contents → ℕ → Contents → Fault → Type 0
IsFaultAt held part i c (UnknownParent p) = IsFirstMissing (held ++ take i part) c p
IsFaultAt held part i c (Collision n) = HoldsParents (held ++ take i part) c × Collides (held ++ take i part) c
    × (n ≡ node_of c)
IsFaultAt held part i c (UnknownBound n) = ⊥
IsFaultAt held part i c NullBound = ⊥
IsFaultAt held part i c NoMemory = ⊥

module _ (held part : List Contents) where
  -- what is fine has no fault
  not_fine : (i : ℕ) (c : Contents) (f : Fault)
      → HoldsParents (held ++ take i part) c × ¬ (Collides (held ++ take i part) c) → IsFaultAt held part i c f → ⊥
  not_fine i c (UnknownParent p) fine h = h.1 (fine.0 p h.0)
  not_fine i c (Collision n) fine h = fine.1 h.1
  not_fine i c (UnknownBound n) fine h = h
  not_fine i c NullBound fine h = h
  not_fine i c NoMemory fine h = h

  one_here : (i : ℕ) (c : Contents) (f g : Fault) → IsFaultAt held part i c f → IsFaultAt held part i c g → f ≡ g
  one_here i c (UnknownParent p) (UnknownParent q) h k =
      ap UnknownParent (first_missing_is_one (held ++ take i part) c p q h k)
  one_here i c (UnknownParent p) (Collision m) h k = absurd (h.1 (k.0 p h.0))
  one_here i c (Collision n) (UnknownParent q) h k = absurd (k.1 (h.0 q k.0))
  one_here i c (Collision n) (Collision m) h k = ap Collision (h.2 ∙ sym k.2)
  one_here i c (UnknownParent p) (UnknownBound m) h k = absurd k
  one_here i c (UnknownParent p) NullBound h k = absurd k
  one_here i c (UnknownParent p) NoMemory h k = absurd k
  one_here i c (Collision n) (UnknownBound m) h k = absurd k
  one_here i c (Collision n) NullBound h k = absurd k
  one_here i c (Collision n) NoMemory h k = absurd k
  one_here i c (UnknownBound n) g h k = absurd h
  one_here i c NullBound g h k = absurd h
  one_here i c NoMemory g h k = absurd h

  -- two places with a fault are one place
  one_place : (i j : ℕ) (c d : Contents) (f g : Fault) → slice_get part i ≡ Some c → slice_get part j ≡ Some d
      → IsFineUpTo held part i → IsFineUpTo held part j → IsFaultAt held part i c f → IsFaultAt held part j d g → f ≡ g
  one_place i j c d f g at_c at_d fine_i fine_j h k = elim (cases_order i j) [
    | inl same ↦
        let d_is : d ≡ c = same_Some d c (sym at_d ∙ ap (slice_get part) (sym same) ∙ at_c) in
        one_here i c f g h
        (subst (λ y. IsFaultAt held part y c g) (sym same) (subst (λ x. IsFaultAt held part j x g) d_is k))
    | inr o ↦ elim o [
      | inl before ↦ absurd (not_fine i c f (fine_j i c before at_c) h)
      | inr after ↦ absurd (not_fine j d g (fine_i j d after at_d) k)
    ]
  ]

  -- a fault among the changesets comes before each of the bounds
  all_fine : (i : ℕ) (c : Contents) (f : Fault) → slice_get part i ≡ Some c → IsFineUpTo held part (length part)
      → IsFaultAt held part i c f → ⊥
  all_fine i c f at fine h = not_fine i c f (fine i c (slice_get_within part i c at) at) h

-- there is one first bound whose node isn't held
one_unheld : (cs : List Contents) (bounds : List (Node × Phase)) (n m : Node) → IsFirstUnheld cs bounds n
    → IsFirstUnheld cs bounds m → n ≡ m
one_unheld cs bounds n m u v = elim (cases_order u.place v.place) [
  | inl same ↦
      let b_is : u.bound ≡ v.bound = same_Some u.bound v.bound (sym u.at ∙ ap (slice_get bounds) same ∙ v.at) in
      sym u.node ∙ ap (λ b. b.0) b_is ∙ v.node
  | inr o ↦ elim o [
    | inl before ↦ absurd (u.unheld (subst (Holds cs) u.node (v.before u.place u.bound before u.at)))
    | inr after ↦ absurd (v.unheld (subst (Holds cs) v.node (u.before v.place v.bound after v.at)))
  ]
]

pub one_fault : (held : List Contents) (k : PartValue) (f g : Fault) → IsFirstFault held k f → IsFirstFault held k g
    → f ≡ g
one_fault held k (UnknownParent p) (UnknownParent q) h j =
    one_place held k.changesets h.0 j.0 h.1 j.1 (UnknownParent p) (UnknownParent q) h.2 j.2 h.3 j.3 h.4 j.4
one_fault held k (UnknownParent p) (Collision m) h j =
    one_place held k.changesets h.0 j.0 h.1 j.1 (UnknownParent p) (Collision m) h.2 j.2 h.3 j.3 h.4 (j.4, j.5, j.6)
one_fault held k (Collision n) (UnknownParent q) h j =
    one_place held k.changesets h.0 j.0 h.1 j.1 (Collision n) (UnknownParent q) h.2 j.2 h.3 j.3 (h.4, h.5, h.6) j.4
one_fault held k (Collision n) (Collision m) h j =
    one_place held k.changesets h.0 j.0 h.1 j.1 (Collision n) (Collision m) h.2 j.2 h.3 j.3 (h.4, h.5, h.6)
    (j.4, j.5, j.6)
one_fault held k (UnknownParent p) (UnknownBound m) h j =
    absurd (all_fine held k.changesets h.0 h.1 (UnknownParent p) h.2 j.0 h.4)
one_fault held k (UnknownParent p) NullBound h j =
    absurd (all_fine held k.changesets h.0 h.1 (UnknownParent p) h.2 j.0 h.4)
one_fault held k (UnknownParent p) NoMemory h j = absurd j
one_fault held k (Collision n) (UnknownBound m) h j =
    absurd (all_fine held k.changesets h.0 h.1 (Collision n) h.2 j.0 (h.4, h.5, h.6))
one_fault held k (Collision n) NullBound h j =
    absurd (all_fine held k.changesets h.0 h.1 (Collision n) h.2 j.0 (h.4, h.5, h.6))
one_fault held k (Collision n) NoMemory h j = absurd j
one_fault held k (UnknownBound n) (UnknownParent q) h j =
    absurd (all_fine held k.changesets j.0 j.1 (UnknownParent q) j.2 h.0 j.4)
one_fault held k (UnknownBound n) (Collision m) h j =
    absurd (all_fine held k.changesets j.0 j.1 (Collision m) j.2 h.0 (j.4, j.5, j.6))
one_fault held k (UnknownBound n) (UnknownBound m) h j =
    ap UnknownBound (one_unheld (held ++ k.changesets) k.bounds n m h.1 j.1)
one_fault held k (UnknownBound n) NullBound h j =
    absurd (h.2 (one_unheld (held ++ k.changesets) k.bounds n null_node h.1 j.1))
one_fault held k (UnknownBound n) NoMemory h j = absurd j
one_fault held k NullBound (UnknownParent q) h j =
    absurd (all_fine held k.changesets j.0 j.1 (UnknownParent q) j.2 h.0 j.4)
one_fault held k NullBound (Collision m) h j =
    absurd (all_fine held k.changesets j.0 j.1 (Collision m) j.2 h.0 (j.4, j.5, j.6))
one_fault held k NullBound (UnknownBound m) h j =
    absurd (j.2 (one_unheld (held ++ k.changesets) k.bounds m null_node j.1 h.1))
one_fault held k NullBound NullBound h j = refl
one_fault held k NullBound NoMemory h j = absurd j
one_fault held k NoMemory g h j = absurd h

-- ---- a first fault is a matter of which changesets are held, in whatever order they are listed

module _ (held other : List Contents) (same : (c : Contents) → Contains held c ↔ Contains other c) where
  onward : (cs : List Contents) (c : Contents) → Contains (held ++ cs) c → Contains (other ++ cs) c
  onward cs c at = elim (Contains-append_cases held cs c at) [
    | inl x ↦ Contains-append_left other cs c ((same c).0 x)
    | inr x ↦ Contains-append_right other cs c x
  ]

  back : (cs : List Contents) (c : Contents) → Contains (other ++ cs) c → Contains (held ++ cs) c
  back cs c at = elim (Contains-append_cases other cs c at) [
    | inl x ↦ Contains-append_left held cs c ((same c).1 x)
    | inr x ↦ Contains-append_right held cs c x
  ]

  holds-onward : (cs : List Contents) (n : Node) → Holds (held ++ cs) n → Holds (other ++ cs) n
  holds-onward cs = Holds-same (held ++ cs) (other ++ cs) (onward cs)

  holds-back : (cs : List Contents) (n : Node) → Holds (other ++ cs) n → Holds (held ++ cs) n
  holds-back cs = Holds-same (other ++ cs) (held ++ cs) (back cs)

  fine-onward : (part : List Contents) (i : ℕ) → IsFineUpTo held part i → IsFineUpTo other part i
  fine-onward part i fine j c less at =
      let before = fine j c less at in (
        λ p is. holds-onward (take j part) p (before.0 p is),
        λ x. before.1 (x.0, back (take j part) x.0 x.1, x.2, x.3),
      )

  unheld-onward : (k : PartValue) (n : Node) → IsFirstUnheld (held ++ k.changesets) k.bounds n
      → IsFirstUnheld (other ++ k.changesets) k.bounds n
  unheld-onward k n first = record {
    place = first.place;
    bound = first.bound;
    at = first.at;
    before = λ j b less at. holds-onward k.changesets b.0 (first.before j b less at);
    node = first.node;
    unheld = λ x. first.unheld (holds-back k.changesets n x);
  }

  pub same_fault : (k : PartValue) (fault : Fault) → IsFirstFault held k fault → IsFirstFault other k fault
  same_fault k (UnknownParent p) (i, c, at, fine, missing) =
      let cs = take i k.changesets in (
        i,
        c,
        at,
        fine-onward k.changesets i fine,
        (
          missing.0,
          λ x. missing.1 (holds-back cs p x),
          λ ne known. holds-onward cs c.first (missing.2 ne known),
        ),
      )
  same_fault k (Collision n) (i, c, at, fine, parents, collides, is) =
      let cs = take i k.changesets in (
        i,
        c,
        at,
        fine-onward k.changesets i fine,
        λ p parent. holds-onward cs p (parents p parent),
        (collides.0, onward cs collides.0 collides.1, collides.2, collides.3),
        is,
      )
  same_fault k (UnknownBound n) (fine, first, known) =
      (fine-onward k.changesets (length k.changesets) fine, unheld-onward k n first, known)
  same_fault k NullBound (fine, first) =
      (fine-onward k.changesets (length k.changesets) fine, unheld-onward k null_node first)
  same_fault k NoMemory h = h
