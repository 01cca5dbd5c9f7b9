-- Whole discoveries.
use Rattle.std.proofs.Common.{◌≡◌, ◌↔◌, ℕ, inl, inr, Bool, true, false, List, [], ◌∷◌, length, slice_get, Some}
use Rattle.std.proofs.Common.{Contains, refl, sym, ap, subst, ◌∙◌, arith, true≢false}
use Rattle.std.proofs.lemmas.Option.{same_Some, slice_get_within, slice_get-map}
use Rattle.std.specs.Option.{option_map}
use Rattle.hg_changeset.specs.declared.node.Node.{Node}
use Rattle.hg_changeset.specs.Contents.{Contents}
use Rattle.hg_changeset.specs.Changeset.{node_of}
use Rattle.hg_graph.specs.declared.graph.ParentPlaces.{ParentPlaces}
use Rattle.hg_graph.specs.Graph.{nodes, Holds, IsParent, IsGraph}
use Rattle.hg_graph.specs.Places.{IsAt}
use Rattle.hg_graph.proofs.GraphLemmas.{Contains-from_place, place_from_Contains, Holds-changeset, Holds-from}
use Rattle.hg_phases.proofs.LeastLemmas.{Holds-taken}
use Rattle.hg_changeset.proofs.ListLemmas.{Contains-first, Contains-later}
use Rattle.hg_graph.proofs.PlaceLemmas.{IsAt-from, place_from_Holds}
use Rattle.hg_phases.specs.declared.phase.Phase.TheVariants.{Secret}
use Rattle.hg_phases.specs.State.{State, changesets, IsPhaseOf}
use Rattle.hg_view.specs.Common.{AreFree}
use Rattle.hg_discovery.specs.declared.finding.Finding.TheVariants.{Undecided, Common, Missing}
use Rattle.hg_discovery.specs.declared.finding.PlacedNode.{PlacedNode}
use Rattle.hg_discovery.specs.Under.{IsUnder, IsShapeOf, itself, below}
use Rattle.hg_discovery.specs.Search.{Search, Is, IsSearch, nodes_of}
use Rattle.hg_discovery.specs.Answers.{TakesAnswers}
use Rattle.hg_discovery.specs.Start.{IsStart}
use Rattle.hg_discovery.specs.Rounds.{Round, AreTrueRounds, AreAnsweredRounds, IsCommon, AreWithin}
use Rattle.hg_discovery.proofs.UnderLemmas.{not_both_um, three, above_missing, under_before}
use Rattle.hg_discovery.proofs.ToldLemmas.{all_common, all_missing, told_length}
use Rattle.hg_discovery.proofs.DrawLemmas.{sample_member}

pub node_at : (xs : List PlacedNode) (i : ℕ) (x : PlacedNode) → slice_get xs i ≡ Some x
    → slice_get (nodes_of xs) i ≡ Some x.node
node_at xs i x at = slice_get-map (λ (y : PlacedNode). y.node) xs i ∙ ap (option_map (λ (y : PlacedNode). y.node)) at

-- who is asked about is a placed node
pub asked_placed_node : (s : Search) → IsSearch s → (i : ℕ) (x : PlacedNode) → slice_get s.asked i ≡ Some x
    → Contains s.placed_nodes x
asked_placed_node s known i x at = (sample_member s s.asked known.sample x (Contains-from_place s.asked i x at)).0

-- what the places of a shape say of the graph
module _ (cs : List Contents) (ps : List ParentPlaces) (shape : IsShapeOf cs ps) where
  -- a node is at the place, and P holds of it
  abbrev pub Stands : (Node → Type 0) → ℕ → Type 0
  Stands P k = (n : Node) × IsAt cs n k × P n

  pub stands_below : (P : Node → Type 0) → ((c : Contents) (p : Node) → Contains cs c → IsParent c p → P (node_of c)
      → P p) → (k j : ℕ) → IsUnder ps k j → Stands P j → Stands P k
  stands_below P parent k j itself h = h
  stands_below P parent k j (below {p = m} u q) h =
      let r = (shape.parents j m).0 q in
      let at_j : IsAt cs (node_of r.0) j = IsAt-from cs j r.0 (node_of r.0) r.2 refl in
      let same : h.0 ≡ node_of r.0 = same_Some h.0 (node_of r.0) (sym h.1 ∙ at_j) in
      stands_below P parent k m u (r.1, r.4, parent r.0 r.1 (Contains-from_place cs j r.0 r.2) r.3 (subst P same h.2))

-- ---- held by both

module _ (cs theirs : List Contents) (graph : IsGraph theirs) (free : AreFree cs theirs) where
  parent_held : (c : Contents) (p : Node) → Contains cs c → IsParent c p → Holds theirs (node_of c) → Holds theirs p
  parent_held c p at is held =
      let d = Holds-changeset theirs (node_of c) held in
      let same : c ≡ d.0 = free c at d.0 d.1 (sym d.2) in
      let place = place_from_Contains theirs d.0 d.1 in
      Holds-taken theirs place.0 p (graph.parents_first place.0 d.0 place.1 p (subst (λ e. IsParent e p) same is))

held_more : (cs ds : List Contents) → AreWithin cs ds → (n : Node) → Holds cs n → Holds ds n
held_more cs ds within n h = let c = Holds-changeset cs n h in subst (Holds ds) c.2 (Holds-from ds c.0 (within c.0 c.1))

module _ (s : State) (start : Search) (is : IsStart s start) where
  placed_node_at : (x : PlacedNode) → Contains start.placed_nodes x → IsAt (changesets s) x.node x.place
  placed_node_at x h = ((is.placed_nodes x).0 h).0

  module _ (theirs : List Contents) (graph : IsGraph theirs) (free : AreFree (changesets s) theirs) where
    abbrev Held : ℕ → Type 0
    Held k = Stands (changesets s) start.parents is.shape (Holds theirs) k

    held_after : (rounds : List Round) (a t : Search) → a.parents ≡ start.parents → a.placed_nodes ≡ start.placed_nodes
        → IsSearch a
        → AreTrueRounds a rounds t → ((r : Round) → Contains rounds r → AreWithin r.theirs theirs)
        → ((k : ℕ) → Is a.decided Common k → Held k) → (k : ℕ) → Is t.decided Common k → Held k
    held_after [] a t ps placed_nodes known e grow was k h = was k (subst (λ (u : Search). Is u.decided Common k) e h)
    held_after (r ∷ rs) a t ps placed_nodes known run grow was k h =
        let round = run.1 in
        let told : TakesAnswers start.parents a.asked r.answers a.decided run.0.decided =
        subst (λ qs. TakesAnswers qs a.asked r.answers a.decided run.0.decided) ps round.told in
        held_after rs run.0 t (round.parents ∙ ps) (round.placed_nodes ∙ placed_nodes) round.search run.3
        (λ q h. grow q (Contains-later r rs q h))
        (all_common start.parents Held (stands_below (changesets s) start.parents is.shape (Holds theirs)
        (parent_held (changesets s) theirs graph free)) a.asked r.answers a.decided run.0.decided told
        (λ i x at b.
        let placed_node : Contains start.placed_nodes x = subst (λ xs. Contains xs x) placed_nodes
        (asked_placed_node a known i x at) in (
          x.node,
          placed_node_at x placed_node,
          held_more r.theirs theirs (grow r (Contains-first r rs)) x.node
              (run.2 i x.node (node_at a.asked i x at) b),
        ))
        was) k h

    pub held_by_both : (rounds : List Round) (t : Search) (ours : List Contents) → AreTrueRounds start rounds t
        → AreWithin (changesets s) ours → ((r : Round) → Contains rounds r → AreWithin r.theirs theirs)
        → (n : Node) → IsCommon t n → Holds ours n × Holds theirs n
    held_by_both rounds t ours run ours_grow grow n common =
        let placed_nodes : t.placed_nodes ≡ start.placed_nodes = kept rounds start t run in
        let x = common.0 in
        let at : IsAt (changesets s) x.node x.place = placed_node_at x
        (subst (λ xs. Contains xs x) placed_nodes common.1.0) in
        let held = held_after rounds start t refl refl is.search run grow
        (λ k h. absurd (is.nothing_common k h)) x.place common.1.1 in
        let same : held.0 ≡ n = same_Some held.0 x.node (sym held.1 ∙ at) ∙ common.2 in (
          held_more (changesets s) ours ours_grow n (subst (Holds (changesets s)) common.2
              (Contains-from_place (nodes (changesets s)) x.place x.node at)),
          subst (Holds theirs) same held.2,
        )
      where
        kept : (qs : List Round) (a b : Search) → AreTrueRounds a qs b → b.placed_nodes ≡ a.placed_nodes
        kept [] a b e = ap (λ (u : Search). u.placed_nodes) e
        kept (q ∷ qs) a b r = kept qs r.0 b r.3 ∙ r.1.placed_nodes

  -- ---- the other side stands still

  module _ (P : Node → Type 0) (parent_so : (c : Contents) (p : Node) → Contains (changesets s) c → IsParent c p
      → P (node_of c) → P p) where
    abbrev Served : ℕ → Type 0
    Served k = Is start.decided Undecided k × Stands (changesets s) start.parents is.shape P k

    abbrev Unserved : ℕ → Type 0
    Unserved k = Served k → ⊥

    undecided_below : (k j : ℕ) → IsUnder start.parents k j → Is start.decided Undecided j
        → Is start.decided Undecided k
    undecided_below k j u h =
        elim (three start.decided k
        (omega (
          arith,
          under_before start.parents is.search.in_order k j u,
          slice_get_within start.decided j Undecided h,
        ))) [
          | inl e ↦ e
          | inr e ↦ elim e [
            | inl c ↦ absurd (is.nothing_common k c)
            | inr m ↦ absurd (not_both_um start.decided j h
                (above_missing start.parents start.decided is.search.closed k j u m))
          ]
        ]

    served_below : (k j : ℕ) → IsUnder start.parents k j → Served j → Served k
    served_below k j u h = (
      undecided_below k j u h.0,
      stands_below (changesets s) start.parents is.shape P parent_so k j u h.1,
    )

    unserved_above : (k j : ℕ) → IsUnder start.parents k j → Unserved k → Unserved j
    unserved_above k j u out h = out (served_below k j u h)

    -- what is common is served, and what is missing isn't
    abbrev Fits : Search → Type 0
    Fits a = ((k : ℕ) → Is a.decided Common k → Served k) × ((k : ℕ) → Is a.decided Missing k → Unserved k)

    fits_start : Fits start
    fits_start = ((λ k h. absurd (is.nothing_common k h)), (λ k h served_k. not_both_um start.decided k served_k.0 h))

    fits_after : (rounds : List (List Bool)) (a t : Search) → a.parents ≡ start.parents
        → a.placed_nodes ≡ start.placed_nodes
        → IsSearch a → AreAnsweredRounds P a rounds t → Fits a
        → (t.placed_nodes ≡ start.placed_nodes) × (length t.decided ≡ length a.decided) × Fits t
    fits_after [] a t ps placed_nodes known e fits = subst (λ (u : Search). (u.placed_nodes ≡ start.placed_nodes)
        × (length u.decided ≡ length a.decided) × Fits u) (sym e) (placed_nodes, refl, fits)
    fits_after (answers ∷ rest) a t ps placed_nodes known run fits =
        let round = run.1 in
        let told : TakesAnswers start.parents a.asked answers a.decided run.0.decided =
        subst (λ qs. TakesAnswers qs a.asked answers a.decided run.0.decided) ps round.told in
        let placed_node = λ (i : ℕ) (x : PlacedNode) (at : slice_get a.asked i ≡ Some x). subst
        (λ xs. Contains xs x) placed_nodes
        (asked_placed_node a known i x at) in
        let common = all_common start.parents Served served_below a.asked answers a.decided run.0.decided told
        (λ i x at b. (
          (is.undecided x.place).1 (x, placed_node i x at, refl),
          (x.node, placed_node_at x (placed_node i x at), (run.2.1 i x.node true (node_at a.asked i x at) b).0 refl),
        ))
        fits.0 in
        let missing = all_missing start.parents Unserved unserved_above a.asked answers a.decided run.0.decided told
        (λ i x at b served_x.
        let same : served_x.1.0 ≡ x.node = same_Some served_x.1.0 x.node
        (sym served_x.1.1 ∙ placed_node_at x (placed_node i x at)) in
        true≢false (sym ((run.2.1 i x.node false (node_at a.asked i x at) b).1 (subst P same served_x.1.2))))
        fits.1 in
        let after = fits_after rest run.0 t (round.parents ∙ ps) (round.placed_nodes ∙ placed_nodes) round.search run.3
        (common, missing) in
        (after.0, after.1 ∙ told_length start.parents a.asked answers a.decided run.0.decided told, after.2)

    pub common_is_served : (rounds : List (List Bool)) (t : Search) → AreAnsweredRounds P start rounds t
        → ((k : ℕ) → Is t.decided Undecided k → ⊥)
        → (n : Node) → IsCommon t n ↔ (Holds (changesets s) n × (IsPhaseOf s n Secret → ⊥) × P n)
    common_is_served rounds t run done n =
        let after = fits_after rounds start t refl refl is.search run fits_start in (
          λ common.
              let x = common.0 in
              let placed_node : Contains start.placed_nodes x = subst (λ xs. Contains xs x) after.0 common.1.0 in
              let shared = (is.placed_nodes x).0 placed_node in
              let at = after.2.0 x.place common.1.1 in
              let same : at.1.0 ≡ x.node = same_Some at.1.0 x.node (sym at.1.1 ∙ shared.0) in (
                subst (Holds (changesets s)) common.2 (Contains-from_place
                    (nodes (changesets s)) x.place x.node shared.0),
                subst (λ m. IsPhaseOf s m Secret → ⊥) common.2 shared.1,
                subst P (same ∙ common.2) at.1.2,
              ),
          λ h.
              let place = place_from_Holds (changesets s) n h.0 in
              let x : PlacedNode = record { node = n; place = place.0 } in
              let placed_node : Contains start.placed_nodes x = (is.placed_nodes x).1 (place.1, h.1) in
              let und = (is.undecided place.0).1 (x, placed_node, refl) in
              elim (three t.decided place.0
              (omega (arith, after.1, slice_get_within start.decided place.0 Undecided und))) [
                | inl u ↦ absurd (done place.0 u)
                | inr e ↦ elim e [
                  | inl c ↦ (x, (subst (λ xs. Contains xs x) (sym after.0) placed_node, c), refl)
                  | inr m ↦ absurd (after.2.1 place.0 m (und, (n, place.1, h.2)))
                ]
              ],
        )
