-- Where a discovery begins.
use Rattle.std.proofs.Common.{◌≡◌, ◌↔◌, ℕ, zero, suc, ◌<◌, ◌≤◌, ◌+◌, inl, inr, List, [], ◌∷◌, ◌++◌, length, set, take}
use Rattle.std.proofs.Common.{get_or, replicate, slice_get, Some, Contains, refl, sym, ap, subst, ◌∙◌, arith}
use Rattle.std.proofs.lemmas.Bool.{cases_eq}
use Rattle.std.proofs.lemmas.List.{length-replicate, length-set, length-map, take_more}
use Rattle.std.proofs.lemmas.List.Elements.{Contains-push, Contains-push_cases, Contains-append_left}
use Rattle.std.proofs.lemmas.Option.{none-some, same_Some, slice_get_within}
use Rattle.hg_changeset.specs.declared.node.Node.{Node}
use Rattle.hg_changeset.specs.Contents.{Contents}
use Rattle.hg_changeset.specs.Changeset.{node_of}
use Rattle.hg_graph.specs.Graph.{IsGraph, IsParent, nodes}
use Rattle.hg_graph.specs.declared.graph.ParentPlaces.{ParentPlaces}
use Rattle.hg_graph.specs.Places.{IsAt, IsParentPlace}
use Rattle.hg_graph.proofs.GraphLemmas.{Contains-from_place}
use Rattle.hg_graph.proofs.MarkLemmas.{get-set_same, get-set_other}
use Rattle.hg_graph.proofs.PlaceLemmas.{IsAt-from, parent_first, same_place}
use Rattle.hg_phases.specs.declared.phase.Phase.{Phase}
use Rattle.hg_phases.specs.declared.phase.Phase.TheVariants.{Public, Draft, Secret}
use Rattle.hg_phases.specs.State.{State, Held, changesets, rank, IsPhaseOf, IsValid}
use Rattle.hg_phases.specs.Content.{content_of}
use Rattle.hg_phases.proofs.ContentLemmas.{held_in_content, content-held}
use Rattle.hg_changeset.proofs.ListLemmas.{Contains-map_from, slice_get_some}
use Rattle.hg_discovery.specs.declared.finding.Finding.{Finding}
use Rattle.hg_discovery.specs.declared.finding.Finding.TheVariants.{Undecided, Common, Missing}
use Rattle.hg_discovery.specs.declared.finding.PlacedNode.{PlacedNode}
use Rattle.hg_discovery.specs.Under.{IsOneOf, IsParentAt, IsShapeOf, IsInOrder}
use Rattle.hg_discovery.specs.Search.{Is, IsClosed, ArePlacedNodes}
use Rattle.hg_discovery.specs.Start.{IsShared}
use Rattle.hg_discovery.proofs.UnderLemmas.{not_both_um, three}

-- ---- placed nodes from the first place on

-- those of which P holds before the place i
abbrev pub AreThoseTo : (PlacedNode → Type 0) → ℕ → List PlacedNode → Type 0
AreThoseTo P i xs = (x : PlacedNode) → Contains xs x ↔ (P x × (x.place < i))

pub none_of_those : (P : PlacedNode → Type 0) → AreThoseTo P 0 []
none_of_those P x = ((λ h. let far : h.0 < 0 = h.1 in absurd (omega arith)), (λ h. absurd (omega (arith, h.1))))

pub one_placed_node : (x y : PlacedNode) → x.node ≡ y.node → x.place ≡ y.place → x ≡ y
one_placed_node x y n p i = record { node = n i; place = p i }

module _ (cs : List Contents) (P : PlacedNode → Type 0) (placed : (x : PlacedNode) → P x → IsAt cs x.node x.place)
    (i : ℕ)
    (xs : List PlacedNode) (before : AreThoseTo P i xs) where
  module _ (n : Node) (at : IsAt cs n i) where
    abbrev here : PlacedNode
    here = record { node = n; place = i }

    is_here : (x : PlacedNode) → P x → x.place ≡ i → here ≡ x
    is_here x h e = one_placed_node here x
        (sym (same_Some x.node n (sym (subst (IsAt cs x.node) e (placed x h)) ∙ at))) (sym e)

    pub those_push : P here → AreThoseTo P (i + 1) (xs ++ here ∷ [])
    those_push is x = (
      λ h. elim (Contains-push_cases xs here x h) [
        | inl old ↦ let b = (before x).0 old in (b.0, omega (arith, b.1))
        | inr e ↦ subst (λ (y : PlacedNode). P y × (y.place < i + 1)) e (is, omega arith)
      ],
      λ h. elim (cases_eq x.place i) [
        | inl e ↦ subst (Contains (xs ++ here ∷ [])) (is_here x h.0 e) (Contains-push xs here)
        | inr ne ↦ Contains-append_left xs (here ∷ []) x ((before x).1 (h.0, omega (arith, h.1)))
      ],
    )

    pub those_skip : (P here → ⊥) → AreThoseTo P (i + 1) xs
    those_skip out x = (
      λ h. let b = (before x).0 h in (b.0, omega (arith, b.1)),
      λ h. elim (cases_eq x.place i) [
        | inl e ↦ absurd (out (subst P (sym (is_here x h.0 e)) h.0))
        | inr ne ↦ (before x).1 (h.0, omega (arith, h.1))
      ],
    )

  pub all_those : length cs ≤ i → (x : PlacedNode) → Contains xs x ↔ P x
  all_those le x = (
    λ h. ((before x).0 h).0,
    λ h. (before x).1 (
      h,
      omega (
        arith,
        le,
        slice_get_within (nodes cs) x.place x.node (placed x h),
        length-map cs node_of,
      ),
    ),
  )

-- the phase by the content
pub phase_in_content : (s : State) → IsGraph (changesets s) → (n : Node) (k : Phase)
    → ((h : Held) × (content_of s n ≡ Some h) × (h.phase ≡ k)) ↔ IsPhaseOf s n k
phase_in_content s graph n k = (
  λ h. let at = held_in_content s n h.0 h.1 in (h.0, at.0, at.1, h.2),
  λ h. (h.0, content-held s graph n h.0 h.1 h.2, h.3),
)

-- ---- undecided at first

pub record AreUndecidedTo (len : ℕ) (xs : List PlacedNode) (ds : List Finding) : Type 0 where
  pub length_is : length ds ≡ len
  pub undecided : (k : ℕ) → Is ds Undecided k ↔ ((x : PlacedNode) × Contains xs x × (x.place ≡ k))
  pub nothing_common : (k : ℕ) → Is ds Common k → ⊥

all_missing_at : (n k : ℕ) (d : Finding) → slice_get (replicate n Missing) k ≡ Some d → d ≡ Missing
all_missing_at zero k d h = absurd (none-some d h)
all_missing_at (suc n) zero d h = sym (same_Some Missing d h)
all_missing_at (suc n) (suc k) d h = all_missing_at n k d h

pub AreUndecidedTo-start : (n : ℕ) → AreUndecidedTo n [] (replicate n Missing)
AreUndecidedTo-start n = record {
  length_is = length-replicate n Missing;
  undecided = λ k. (
    λ h. let e : Undecided ≡ Missing = all_missing_at n k Undecided h in
        cc,
    λ h. let far : h.1.0 < 0 = h.1.1 in absurd (omega arith),
  );
  nothing_common = λ k h. let e : Common ≡ Missing = all_missing_at n k Common h in cc;
}

pub AreUndecidedTo-more : (n i : ℕ) (all : List PlacedNode) (d : PlacedNode) (ds : List Finding) → i < length all
    → (get_or all i d).place < n → AreUndecidedTo n (take i all) ds
    → AreUndecidedTo n (take (i + 1) all) (set ds (get_or all i d).place Undecided)
AreUndecidedTo-more n i all d ds lt within u =
    let x = get_or all i d in
    let more : take (i + 1) all ≡ take i all ++ x ∷ [] = take_more all i d lt in
    subst (λ ys. AreUndecidedTo n ys (set ds x.place Undecided)) (sym more) (grown x within)
  where
    grown : (x : PlacedNode) → x.place < n → AreUndecidedTo n (take i all ++ x ∷ []) (set ds x.place Undecided)
    grown x within_x = record {
      length_is = length-set ds x.place Undecided ∙ u.length_is;
      undecided = λ k. (
        λ h. elim (cases_eq k x.place) [
          | inl e ↦ (x, Contains-push (take i all) x, sym e)
          | inr ne ↦ let y = (u.undecided k).0 (sym (get-set_other ds x.place k Undecided ne) ∙ h) in
              (y.0, Contains-append_left (take i all) (x ∷ []) y.0 y.1, y.2)
        ],
        λ h. elim (cases_eq k x.place) [
          | inl e ↦ subst (Is (set ds x.place Undecided) Undecided) (sym e)
              (get-set_same ds x.place Undecided (omega (arith, u.length_is, within_x)))
          | inr ne ↦ get-set_other ds x.place k Undecided ne ∙ elim (Contains-push_cases (take i all) x h.0 h.1) [
            | inl old ↦ (u.undecided k).1 (h.0, old, h.2)
            | inr e ↦ absurd (ne (sym h.2 ∙ ap (λ (y : PlacedNode). y.place) (sym e)))
          ]
        ],
      );
      nothing_common = λ k h. elim (cases_eq k x.place) [
        | inl e ↦ let c : Undecided ≡ Common = same_Some Undecided Common
            (sym (get-set_same ds x.place Undecided (omega (arith, u.length_is, within_x)))
            ∙ subst (Is (set ds x.place Undecided) Common) e h) in cc
        | inr ne ↦ u.nothing_common k (sym (get-set_other ds x.place k Undecided ne) ∙ h)
      ];
    }

-- ---- what the first sample needs

module _ (s : State) (valid : IsValid s) (ps : List ParentPlaces) (shape : IsShapeOf (changesets s) ps)
    (xs : List PlacedNode) (shared : (x : PlacedNode) → Contains xs x ↔ IsShared s x) where
  pub in_order : IsInOrder ps
  in_order j k q = parent_first (changesets s) valid.graph j k ((shape.parents j k).0 q)

  pub shared_within : (x : PlacedNode) → Contains xs x → x.place < length ps
  shared_within x h = omega (
    arith,
    shape.len,
    length-map (changesets s) node_of,
    slice_get_within (nodes (changesets s)) x.place x.node ((shared x).0 h).0,
  )

  -- the child of a secret one is secret
  secret_child : (c : Contents) (p : Node) → Contains (changesets s) c → IsParent c p → IsPhaseOf s p Secret
      → IsPhaseOf s (node_of c) Secret
  secret_child c p at is secret =
      let child = held_with s c at in
      let le = valid.phases child.0 secret.0 child.1 secret.1
      (subst (λ n. IsParent child.0.changeset n) (sym secret.2) (subst (λ e. IsParent e p) (sym child.2) is)) in
      let two : rank secret.0.phase ≡ 2 = ap rank secret.3 in
      (child.0, child.1, ap node_of child.2, top child.0.phase (omega (arith, le, two)))
    where
      top : (k : Phase) → 2 ≤ rank k → k ≡ Secret
      top Public le = absurd (omega (arith, le))
      top Draft le = absurd (omega (arith, le))
      top Secret le = refl

      held_with : (t : State) (d : Contents) → Contains (changesets t) d
          → (h : Held) × Contains t.held h × (h.changeset ≡ d)
      held_with t d h = Contains-map_from (λ (y : Held). y.changeset) t.held d h

  module _ (ds : List Finding) (len : length ds ≡ length ps) (undecided : (k : ℕ)
      → Is ds Undecided k ↔ ((x : PlacedNode) × Contains xs x × (x.place ≡ k)))
      (nothing : (k : ℕ) → Is ds Common k → ⊥) where
    undecided_parent : (j k : ℕ) → IsParentAt ps j k → Is ds Undecided j → Is ds Undecided k
    undecided_parent j k q h =
        let r = (shape.parents j k).0 q in
        let x = (undecided j).0 h in
        let shared_x = (shared x.0).0 x.1 in
        let at_j : IsAt (changesets s) (node_of r.0) j = IsAt-from (changesets s) j r.0 (node_of r.0) r.2 refl in
        let same : x.0.node ≡ node_of r.0 = same_Some x.0.node (node_of r.0)
        (sym (subst (IsAt (changesets s) x.0.node) x.2 shared_x.0) ∙ at_j) in
        let y : PlacedNode = record { node = r.1; place = k } in
        (undecided k).1 (
          y,
          (shared y).1 (
            r.4,
            λ (secret : IsPhaseOf s r.1 Secret). shared_x.1
                (subst (λ n. IsPhaseOf s n Secret) (sym same) (secret_child r.0 r.1
                (Contains-from_place (changesets s) j r.0 r.2) r.3 secret)),
          ),
          refl,
        )

    pub closed_start : IsClosed ps ds
    closed_start = record {
      common = λ j k q h. absurd (nothing j h);
      missing = λ j k q h. elim (three ds j (omega (arith, len, slice_get_within ps j q.0 q.1))) [
        | inl u ↦ absurd (not_both_um ds k (undecided_parent j k q u) h)
        | inr e ↦ elim e [ inl c ↦ absurd (nothing j c) | inr m ↦ m ]
      ];
    }

    pub placed_nodes_start : ArePlacedNodes ds xs
    placed_nodes_start = record {
      distinct = λ x y hx hy e. one_placed_node x y e (sym (same_place (nodes (changesets s)) x.node x.place y.place
          valid.graph.distinct ((shared x).0 hx).0
          (subst (λ n. IsAt (changesets s) n y.place) (sym e) ((shared y).0 hy).0)));
      apart = λ x y hx hy e. one_placed_node x y (same_Some x.node y.node
          (sym (subst (IsAt (changesets s) x.node) e ((shared x).0 hx).0) ∙ ((shared y).0 hy).0)) e;
      within = λ x h. omega (arith, len, shared_within x h);
      found = λ k h. elim h [ inl u ↦ (undecided k).0 u | inr c ↦ absurd (nothing k c) ];
    }

pub shape_end : (cs : List Contents) (ps : List ParentPlaces) (i : ℕ) → IsGraph cs → length ps ≡ i → length cs ≡ i
    → ((j : ℕ) (p : ParentPlaces) → slice_get ps j ≡ Some p → (k : ℕ) → IsOneOf p k ↔ IsParentPlace cs j k)
    → IsShapeOf cs ps
shape_end cs ps i graph len all each = record {
  len = len ∙ sym all;
  parents = λ j k. (
    λ q. (each j q.0 q.1 k).0 q.2,
    λ r.
        let p = slice_get_some ps j (omega (arith, len, all, slice_get_within cs j r.0 r.2)) in
        (p.0, p.1, (each j p.0 p.1 k).1 r),
  );
}
