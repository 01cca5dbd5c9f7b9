-- Whatever a history holds, there is what a discovery of it begins upon, and its heads are told by the history.
use Rattle.std.proofs.Common.{◌≡◌, ◌≢◌, ◌↔◌, ◌⊎◌, ℕ, zero, suc, ◌<◌, ◌≤◌, ◌+◌, inl, inr, List, [], ◌∷◌, ◌++◌, length}
use Rattle.std.proofs.Common.{map, set, take, get_or, replicate, slice_get, Option, Some, None, MatchOption, Contains}
use Rattle.std.proofs.Common.{option_map, refl, sym, ap, subst, ◌∙◌, arith}
use Rattle.std.specs.List.Sorted.{IsStrictlySortedBy}
use Rattle.std.proofs.lemmas.List.{length-map, take_all}
use Rattle.std.proofs.lemmas.List.Elements.{Contains-get_or}
use Rattle.std.proofs.lemmas.Option.{none-some, same_Some, slice_get_within, slice_get-map}
use Rattle.hg_changeset.specs.declared.node.Node.{Node}
use Rattle.std.specs.Prelude.{position}
use Rattle.hg_changeset.specs.Node.{node_eq, null_node}
use Rattle.hg_changeset.specs.Contents.{Contents}
use Rattle.hg_changeset.proofs.ListLemmas.{Contains-from_place, slice_get_some}
use Rattle.hg_changeset.proofs.NodeLemmas.{node_cases}
use Rattle.hg_graph.specs.declared.graph.ParentPlaces.{ParentPlaces}
use Rattle.hg_graph.specs.Graph.{nodes, Holds, IsParent}
use Rattle.hg_graph.specs.Places.{IsAt, IsOnlyAt, IsParentPlace}
use Rattle.hg_graph.proofs.PlaceLemmas.{IsAt-within, told_place}
use Rattle.hg_phases.specs.declared.phase.Phase.{Phase}
use Rattle.hg_phases.specs.declared.phase.Phase.TheVariants.{Public, Draft, Secret}
use Rattle.hg_phases.specs.State.{State, Held, changesets, IsPhaseOf, IsValid}
use Rattle.hg_phases.specs.Content.{content_of}
use Rattle.hg_view.specs.HeadPlaces.{IsHeadAmong}
use Rattle.hg_discovery.specs.declared.finding.Finding.{Finding}
use Rattle.hg_discovery.specs.declared.finding.Finding.TheVariants.{Undecided, Common, Missing}
use Rattle.hg_discovery.specs.declared.finding.PlacedNode.{PlacedNode}
use Rattle.hg_discovery.specs.Under.{IsOneOf, IsParentAt, IsUnder, IsInOrder, IsShapeOf}
use Rattle.hg_discovery.specs.Search.{Is, IsHead}
use Rattle.hg_discovery.specs.Order.{placed_node_cmp}
use Rattle.hg_discovery.specs.Start.{IsShared, IsBaseline}
use Rattle.hg_discovery.proofs.UnderLemmas.{child_on_way, parent_under}
use Rattle.hg_discovery.proofs.StartLemmas.{AreThoseTo, none_of_those, those_push, those_skip, all_those}
use Rattle.hg_discovery.proofs.StartLemmas.{phase_in_content, AreUndecidedTo, AreUndecidedTo-start}
use Rattle.hg_discovery.proofs.StartLemmas.{AreUndecidedTo-more, in_order, shared_within, closed_start}
use Rattle.hg_discovery.proofs.StartLemmas.{placed_nodes_start}
use Rattle.hg_discovery.proofs.PutLemmas.{ordered, ordered_members, ordered_sorted}
use Rattle.hg_discovery.proofs.SortLemmas.{ascending_placed_nodes}

-- ---- what was found of a history

module _ (s : State) (valid : IsValid s) (ps : List ParentPlaces) (shape : IsShapeOf (changesets s) ps)
    (xs : List PlacedNode) (shared : (x : PlacedNode) → Contains xs x ↔ IsShared s x) (ds : List Finding)
    (len : length ds ≡ length ps)
    (undecided : (k : ℕ) → Is ds Undecided k ↔ ((x : PlacedNode) × Contains xs x × (x.place ≡ k)))
    (nothing : (k : ℕ) → Is ds Common k → ⊥) (sorted : IsStrictlySortedBy placed_node_cmp xs) where
  pub baseline_from : IsBaseline s ps xs ds
  baseline_from = let placed_nodes = placed_nodes_start s valid ps shape xs shared ds len undecided nothing in record {
    shape = shape;
    shared = shared;
    undecided = undecided;
    nothing_common = nothing;
    len = len;
    in_order = in_order s valid ps shape xs shared;
    closed = closed_start s valid ps shape xs shared ds len undecided nothing;
    placed_nodes = placed_nodes;
    ascending = ascending_placed_nodes xs placed_nodes.distinct sorted;
  }

-- ---- there is such a baseline

module _ (s : State) (valid : IsValid s) where
  abbrev cs : List Contents
  cs = changesets s

  -- where a parent stands, if it is there
  abbrev IsFound : Node → Option ℕ → Type 0
  IsFound p place = (k : ℕ) → (place ≡ Some k) ↔ ((p ≢ null_node) × IsAt cs p k)

  found_by : (p : Node) → p ≢ null_node → (place : Option ℕ)
      → MatchOption place (¬ (Holds cs p)) (IsOnlyAt cs p) → (q : Option ℕ) × IsFound p q
  found_by p ne None out = (
    None,
    λ k. (λ h. absurd (none-some k h), λ h. absurd (out (Contains-from_place (nodes cs) k p h.1))),
  )
  found_by p ne (Some j) only = (
    Some j,
    λ k. (
      λ e. (ne, (only k).1 (sym (same_Some j k e))),
      λ h. ap (λ x. Some x) (sym ((only k).0 h.1)),
    ),
  )

  found_place : (p : Node) → (place : Option ℕ) × IsFound p place
  found_place p = elim (node_cases p null_node) [
    | inl e ↦ (None, λ k. (λ h. absurd (none-some k h), λ h. absurd (h.0 e)))
    | inr ne ↦
        let at = position (node_eq p) (nodes cs) in
        found_by p ne at (told_place cs valid.graph p at refl)
  ]

  places_of : Contents → ParentPlaces
  places_of c = record { first = (found_place c.first).0; second = (found_place c.second).0 }

  one_is_parent : (j k : ℕ) (c : Contents) → slice_get cs j ≡ Some c → IsOneOf (places_of c) k → IsParentPlace cs j k
  unfolding places_of
  one_is_parent j k c at one = elim one [
    | inl e ↦ let p = ((found_place c.first).1 k).0 e in (c, c.first, at, (p.0, inl refl), p.1)
    | inr e ↦ let p = ((found_place c.second).1 k).0 e in (c, c.second, at, (p.0, inr refl), p.1)
  ]

  parent_is_one : (k : ℕ) (c : Contents) (p : Node) → IsParent c p → IsAt cs p k → IsOneOf (places_of c) k
  unfolding places_of
  parent_is_one k c p is at = elim is.1 [
    | inl e ↦ inl (((found_place c.first).1 k).1
        ((λ (z : c.first ≡ null_node). is.0 (sym e ∙ z)), subst (λ n. IsAt cs n k) (sym e) at))
    | inr e ↦ inr (((found_place c.second).1 k).1
        ((λ (z : c.second ≡ null_node). is.0 (sym e ∙ z)), subst (λ n. IsAt cs n k) (sym e) at))
  ]

  parents_at : (j : ℕ) (c : Contents) → slice_get cs j ≡ Some c → slice_get (map places_of cs) j ≡ Some (places_of c)
  parents_at j c at = slice_get-map places_of cs j ∙ ap (option_map places_of) at

  shape_exists : IsShapeOf cs (map places_of cs)
  shape_exists = record {
    len = length-map cs places_of;
    parents = λ j k. (
      λ q.
          let c = slice_get_some cs j (omega (
            arith,
            length-map cs places_of,
            slice_get_within (map places_of cs) j q.0 q.1,
          )) in
          let is : q.0 ≡ places_of c.0 = same_Some q.0 (places_of c.0) (sym q.1 ∙ parents_at j c.0 c.1) in
          one_is_parent j k c.0 c.1 (subst (λ p. IsOneOf p k) is q.2),
      λ r. (places_of r.0, parents_at j r.0 r.2, parent_is_one k r.0 r.1 r.3 r.4),
    );
  }

  secret_by : (n : Node) (h : Held) → content_of s n ≡ Some h → (k : Phase) → h.phase ≡ k
      → IsPhaseOf s n Secret ⊎ (IsPhaseOf s n Secret → ⊥)
  secret_by n h e Secret p = inl ((phase_in_content s valid.graph n Secret).0 (h, e, p))
  secret_by n h e Public p = inr (λ q.
      let x = (phase_in_content s valid.graph n Secret).1 q in
      let other : Public ≡ Secret = sym p ∙ ap (λ (y : Held). y.phase) (same_Some h x.0 (sym e ∙ x.1)) ∙ x.2 in
      cc)
  secret_by n h e Draft p = inr (λ q.
      let x = (phase_in_content s valid.graph n Secret).1 q in
      let other : Draft ≡ Secret = sym p ∙ ap (λ (y : Held). y.phase) (same_Some h x.0 (sym e ∙ x.1)) ∙ x.2 in
      cc)

  secret_or_not : (n : Node) (o : Option Held) → content_of s n ≡ o
      → IsPhaseOf s n Secret ⊎ (IsPhaseOf s n Secret → ⊥)
  secret_or_not n None e = inr (λ q.
      let x = (phase_in_content s valid.graph n Secret).1 q in none-some x.0 (sym e ∙ x.1))
  secret_or_not n (Some h) e = secret_by n h e h.phase refl

  placed_nodes_to : (i : ℕ) → i ≤ length cs → (xs : List PlacedNode) × AreThoseTo (IsShared s) i xs
  placed_nodes_to zero le = ([], none_of_those (IsShared s))
  placed_nodes_to (suc i) le =
      let before = placed_nodes_to i (omega (arith, le)) in
      let n = IsAt-within cs i (omega (arith, le)) in
      let placed_node : PlacedNode = record { node = n.0; place = i } in
      let next : i + 1 ≡ suc i = omega arith in
      elim (secret_or_not n.0 (content_of s n.0) refl) [
        | inl secret ↦ (
          before.0,
          subst (λ m. AreThoseTo (IsShared s) m before.0) next
              (those_skip cs (IsShared s) (λ x h. h.0) i before.0 before.1 n.0 n.1 (λ h. h.1 secret)),
        )
        | inr open_one ↦ (
          before.0 ++ placed_node ∷ [],
          subst (λ m. AreThoseTo (IsShared s) m (before.0 ++ placed_node ∷ [])) next
              (those_push cs (IsShared s) (λ x h. h.0) i before.0 before.1 n.0 n.1 (n.1, open_one)),
        )
      ]

  nowhere : PlacedNode
  nowhere = record { node = record { 0 = [] }; place = 0 }

  undecided_to : (n : ℕ) (xs : List PlacedNode) → ((x : PlacedNode) → Contains xs x → x.place < n) → (i : ℕ)
      → i ≤ length xs
      → (ds : List Finding) × AreUndecidedTo n (take i xs) ds
  undecided_to n xs within zero le = (replicate n Missing, AreUndecidedTo-start n)
  undecided_to n xs within (suc i) le =
      let before = undecided_to n xs within i (omega (arith, le)) in
      let lt : i < length xs = omega (arith, le) in
      let next : i + 1 ≡ suc i = omega arith in
      let new : List Finding = set before.0 (get_or xs i nowhere).place Undecided in (
        new,
        subst (λ m. AreUndecidedTo n (take m xs) new) next
            (AreUndecidedTo-more n i xs nowhere before.0 lt
            (within (get_or xs i nowhere) (Contains-get_or xs i nowhere lt)) before.1),
      )

  pub baseline_exists : (ps : List ParentPlaces) × (xs : List PlacedNode) × (ds : List Finding) × IsBaseline s ps xs ds
  baseline_exists =
      let ps = map places_of cs in
      let found = placed_nodes_to (length cs) (omega arith) in
      let xs = ordered found.0 in
      let those : (x : PlacedNode) → Contains found.0 x ↔ IsShared s x =
      all_those cs (IsShared s) (λ x h. h.0) (length cs) found.0 found.1 (omega arith) in
      let shared : (x : PlacedNode) → Contains xs x ↔ IsShared s x = λ x. (
        λ h. (those x).0 ((ordered_members found.0 x).0 h),
        λ h. (ordered_members found.0 x).1 ((those x).1 h),
      ) in
      let within : (x : PlacedNode) → Contains xs x → x.place < length ps =
      shared_within s valid ps shape_exists xs shared in
      let made = undecided_to (length ps) xs within (length xs) (omega arith) in
      let all : AreUndecidedTo (length ps) xs made.0 =
      subst (λ ys. AreUndecidedTo (length ps) ys made.0) (take_all (length xs) xs (omega arith)) made.1 in (
        ps,
        xs,
        made.0,
        baseline_from s valid ps shape_exists xs shared made.0 all.length_is all.undecided all.nothing_common
            (ordered_sorted found.0),
      )

-- ---- heads

module _ (cs : List Contents) (ps : List ParentPlaces) (shape : IsShapeOf cs ps) (order : IsInOrder ps)
    (xs : List PlacedNode) (ds : List Finding) (d : Finding) (asked : List PlacedNode)
    (there : (x : PlacedNode) → Is ds d x.place → IsAt cs x.node x.place ↔ Contains xs x)
    (convex : (k m j : ℕ) → IsUnder ps k m → IsUnder ps m j → Is ds d k → Is ds d j → Is ds d m) where
  -- a head is what is so, and no child of it
  pub top_head : (x : PlacedNode) → (IsAt cs x.node x.place × IsHeadAmong cs (Is ds d) x.place)
      ↔ IsHead (record { parents = ps; placed_nodes = xs; decided = ds; asked = asked }) d x
  top_head x = (
    λ h.
        let so = h.1.0 in (
          ((there x so).0 h.0, so),
          λ j at_j under. elim (child_on_way ps x.place j under) [
            | inl e ↦ sym e
            | inr c ↦ absurd (h.1.1 c.0 ((shape.parents c.0 x.place).0 c.1)
                (convex x.place c.0 j (parent_under ps c.0 x.place c.1) c.2 so at_j))
          ],
        ),
    λ head. (
      (there x head.0.1).1 head.0.0,
      (
        head.0.1,
        λ k parent so.
            let child : IsParentAt ps k x.place = (shape.parents k x.place).1 parent in
            let again : k ≡ x.place = head.1 k so (parent_under ps k x.place child) in
            let before : x.place < k = order k x.place child in
            omega arith,
      ),
    ),
  )
