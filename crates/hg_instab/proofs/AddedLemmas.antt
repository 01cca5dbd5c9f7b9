-- What a change added wasn't held before; and what is known where it added one changeset alone, or one marker.
use Rattle.std.proofs.Common.{◌≡◌, ◌≢◌, ◌≤◌, suc, ◌∷◌, ◌++◌, [], ℕ, List, length, Contains, slice_get, Some}
use Rattle.std.proofs.Common.{inl, inr, refl, sym, ap, subst, ◌∙◌, arith}
use Rattle.std.proofs.lemmas.List.{map-append}
use Rattle.std.proofs.lemmas.List.Elements.{Contains-append_right}
use Rattle.std.proofs.lemmas.Option.{same_Some, slice_get_within}
use Rattle.hg_changeset.specs.declared.node.Node.{Node}
use Rattle.hg_changeset.specs.Changeset.{node_of}
use Rattle.hg_changeset.proofs.ListLemmas.{Contains-first, Contains-none, Contains-one, place_from_Contains}
use Rattle.hg_changeset.proofs.ListLemmas.{slice_get-append}
use Rattle.hg_graph.specs.Graph.{nodes}
use Rattle.hg_graph.proofs.PlaceLemmas.{same_place}
use Rattle.hg_phases.specs.State.{changesets}
use Rattle.hg_marker.specs.Fields.{Fields}
use Rattle.hg_history.specs.Content.{IsHeld}
use Rattle.hg_history.proofs.ContentLemmas.{content-node, node_in_content}
use Rattle.hg_replica.specs.Change.{ChangeValue}
use Rattle.hg_replica.specs.Content.{content_of}
use Rattle.hg_replica.specs.State.{ReplicaState, IsValid}
use Rattle.hg_replica.specs.Evolution.{IsMarker, IsPredecessor}
use Rattle.hg_replica.proofs.MarkerLemmas.{in_from_holds}
use Rattle.hg_instab.specs.Amend.{IsOnlyAdded, IsOnlyFresh}
use Rattle.hg_instab.specs.Changed.{IsFresh, IsMoved, IsChangedTo}
use Rattle.hg_instab.specs.Walk.{IsFork}

-- what is in the second of two lists stands behind the first
behind : {X : Type 0} (xs ys : List X) (y : X) → Contains ys y
    → (k : ℕ) × (length xs ≤ k) × (slice_get (xs ++ ys) k ≡ Some y)
behind [] ys y at = let k = place_from_Contains ys y at in (k.0, omega arith, k.1)
behind (x ∷ xs) ys y at = let k = behind xs ys y at in (suc k.0, omega (arith, k.1), k.2)

module _ (s t : ReplicaState) (change : ChangeValue) (v : IsValid t) (is : IsChangedTo s change t) where
  -- ---- the changesets

  -- what was added stands last
  order : nodes (changesets t.history) ≡ nodes (changesets s.history) ++ change.added
  order = ap (λ cs. nodes cs) is.told.history.order
      ∙ map-append node_of (changesets s.history) is.told.history.new
      ∙ ap (λ ns. nodes (changesets s.history) ++ ns) (sym is.told.history.added)

  pub held-now : (n : Node) → Contains change.added n → IsHeld (content_of t).0 n
  held-now n at = content-node t.history v.graph n (subst (λ (ns : List Node). Contains ns n) (sym order)
      (Contains-append_right (nodes (changesets s.history)) change.added n at))

  pub not_held-before : (n : Node) → Contains change.added n → ¬ (IsHeld (content_of s).0 n)
  not_held-before n at h =
      let olds = nodes (changesets s.history) in
      let k = place_from_Contains olds n (node_in_content s.history is.valid.graph n h) in
      let within = slice_get_within olds k.0 n k.1 in
      let last = behind olds change.added n at in
      let stands : (i : ℕ) → slice_get (olds ++ change.added) i ≡ Some n
      → slice_get (nodes (changesets t.history)) i ≡ Some n =
      λ i there. subst (λ (ns : List Node). slice_get ns i ≡ Some n) (sym order) there in
      let same = same_place (nodes (changesets t.history)) n k.0 last.0 v.graph.distinct
      (stands k.0 (slice_get-append olds change.added k.0 n k.1)) (stands last.0 last.2) in
      omega (arith, same, within, last.1)

  module _ (to : Node) (only : IsOnlyAdded change to) where
    pub added-in : Contains change.added to
    added-in = subst (λ (ns : List Node). Contains ns to) (sym only.0) (Contains-first to [])

    pub added-is : (n : Node) → Contains change.added n → n ≡ to
    added-is n at = sym (Contains-one to n (subst (λ (ns : List Node). Contains ns n) only.0 at))

    pub not_moved : (n : Node) → n ≢ to → ¬ (IsMoved change n)
    not_moved n other (inl added) = other (added-is n added)
    not_moved n other (inr low) = Contains-none n (subst (λ (ns : List Node). Contains ns n) only.1 low)

  -- ---- the marker

  module _ (m : Fields) (only : IsOnlyFresh t.markers change m) where
    fresh-place : Contains change.markers only.0
    fresh-place = subst (λ (ps : List ℕ). Contains ps only.0) (sym only.1) (Contains-first only.0 [])

    pub is-fresh : IsFresh t.markers change m
    is-fresh = (only.0, fresh-place, only.2)

    pub fresh-is : (x : Fields) → IsFresh t.markers change x → x ≡ m
    fresh-is x at =
        let same = Contains-one only.0 at.0 (subst (λ (ps : List ℕ). Contains ps at.0) only.1 at.1) in
        same_Some x m (sym at.2 ∙ ap (slice_get t.markers) (sym same) ∙ only.2)

    -- a marker of before stands at another place
    pub old-place : (x : Fields) → IsMarker (content_of s) x
        → (i : ℕ) × (i ≢ only.0) × (slice_get t.markers i ≡ Some x)
    old-place x held =
        let k = place_from_Contains s.markers x (in_from_holds s.markers x held) in
        let before = slice_get_within s.markers k.0 x k.1 in
        let beyond = ((is.told.markers.places.exact only.0).0 fresh-place).0 in (
          k.0,
          (λ e. omega (arith, e, before, beyond)),
          ap (λ ms. slice_get ms k.0) is.told.markers.first.1
              ∙ slice_get-append s.markers is.told.markers.first.0 k.0 x k.1,
        )

    -- what no two markers rewrote was rewritten by none before
    pub not_rewritten-before : ¬ (IsFork t.markers m.predecessor) → ¬ (IsPredecessor (content_of s) m.predecessor)
    not_rewritten-before once h =
        let k = old-place h.0 h.1 in
        once (k.0, only.0, k.1, (h.0, k.2, h.2), (m, only.2, refl))
