-- What is asked of one changeset, in the words of contents.
use Rattle.std.proofs.Common.{◌≡◌, ◌≢◌, ℕ, Bool, true, false, not, true≢false, List, [], ◌∷◌, length, Option, Some}
use Rattle.std.proofs.Common.{None, slice_get, Contains, IsTrue, MatchOption, ◌↔◌, refl, sym, ap, subst, ◌∙◌, arith}
use Rattle.std.specs.Bool.{◌==◌}
use Rattle.std.specs.Option.{option_map}
use Rattle.std.proofs.lemmas.Bool.Decides.{nat_tests}
use Rattle.std.proofs.lemmas.List.{length-map}
use Rattle.std.proofs.lemmas.Option.{same_Some, slice_get_within, slice_get-map}
use Rattle.hg_changeset.specs.declared.node.Node.{Node}
use Rattle.hg_changeset.specs.Changeset.{node_of}
use Rattle.hg_changeset.proofs.ListLemmas.{Contains-none, slice_get_some}
use Rattle.hg_graph.specs.Graph.{nodes}
use Rattle.hg_graph.specs.Places.{IsAt}
use Rattle.hg_graph.proofs.GraphLemmas.{Contains-from_place, place_from_Contains}
use Rattle.hg_phases.specs.declared.phase.Phase.{Phase}
use Rattle.hg_phases.specs.declared.phase.Phase.TheVariants.{Public}
use Rattle.hg_phases.specs.State.{Held, Holds, IsPhaseOf, changesets}
use Rattle.hg_phases.proofs.ContentLemmas.{content-held}
use Rattle.hg_marker.specs.Fields.{Fields}
use Rattle.hg_obsstore.specs.Markers.{ArePlaces}
use Rattle.hg_history.specs.Content.{IsHeld}
use Rattle.hg_history.proofs.ContentLemmas.{node_in_content}
use Rattle.hg_replica.specs.State.{ReplicaState, IsValid}
use Rattle.hg_replica.specs.Content.{Content, content_of}
use Rattle.hg_replica.specs.Evolution.{HasPhase, IsMutable, IsPredecessor}
use Rattle.hg_replica.proofs.MarkerLemmas.{holds-from, in_from_holds}

-- the phase that was told
pub told_phase : (s : ReplicaState) → IsValid s → (n : Node) (o : Option Phase)
    → MatchOption o (¬ (Holds s.history n)) (IsPhaseOf s.history n)
    → MatchOption o (¬ (IsHeld (content_of s).0 n)) (HasPhase (content_of s) n)
told_phase s v n None missing = λ held. missing (node_in_content s.history v.graph n held)
told_phase s v n (Some k) h = (h.0, content-held s.history v.graph n h.0 h.1 h.2, h.3)

-- a changeset has one phase
pub one_phase : (f : Content) (n : Node) (j k : Phase) → HasPhase f n j → HasPhase f n k → j ≡ k
one_phase f n j k a b = sym a.2 ∙ ap (λ h. h.phase) (same_Some a.0 b.0 (sym a.1 ∙ b.1)) ∙ b.2

-- mutable is to have another phase than public
pub mutable_from_phase : (f : Content) (n : Node) (k : Phase) → HasPhase f n k → k ≢ Public → IsMutable f n
mutable_from_phase f n k h ne = (h.0, h.1, λ e. ne (sym h.2 ∙ e))

pub phase_from_mutable : (f : Content) (n : Node) (k : Phase) → HasPhase f n k → IsMutable f n → k ≢ Public
phase_from_mutable f n k h m e = m.2 (one_phase f n m.0.phase Public (m.0, m.1, refl) (subst (HasPhase f n) e h))

some_length : {X : Type 0} (x : X) (xs : List X) → (length (x ∷ xs) == 0) ≡ false
some_length x xs = grind (arith, nat_tests)

-- an empty list has nothing
pub nothing-in : {X : Type 0} (xs : List X) → (length xs == 0) ≡ true → (x : X) → ¬ (Contains xs x)
nothing-in [] t x = Contains-none x
nothing-in (y ∷ ys) t x = absurd (true≢false (sym t ∙ some_length y ys))

pub not_true : (b : Bool) → not b ≡ true → b ≡ true → ⊥
not_true true h e = true≢false (sym h)
not_true false h e = true≢false (sym e)

-- what isn't so of a test that tells it
pub isnt_so : (b : Bool) (A : Type 0) → (b ≡ true) ↔ A → (not b ≡ true) ↔ (¬ A)
isnt_so true A so = (λ h. absurd (true≢false (sym h)), λ not. absurd (not (so.0 refl)))
isnt_so false A so = (λ h a. true≢false (sym (so.1 a)), λ not. refl)

-- the places tell whether there is a marker
pub told_predecessor : (s : ReplicaState) (n : Node) (ms : List Fields) (places : List ℕ) (b : Bool)
    → ms ≡ s.markers → ArePlaces (λ m. m.predecessor ≡ n) ms places → b ≡ (length places == 0) → IsTrue (not b)
    ↔ IsPredecessor (content_of s) n
told_predecessor s n ms [] b is are e = (
  (λ t. absurd (not_true b t e)),
  (λ h. let p = place_from_Contains ms h.0 (subst (λ xs. Contains xs h.0) (sym is) (in_from_holds s.markers h.0 h.1)) in
      absurd (Contains-none p.0 ((are.exact p.0).1 (h.0, p.1, h.2)))),
)
told_predecessor s n ms (x ∷ xs) b is are e = (
  (λ t. let m = (are.exact x).0 (0, omega arith, refl) in
      (m.0, holds-from s.markers m.0 (subst (λ ys. Contains ys m.0) is (Contains-from_place ms x m.0 m.1)), m.2)),
  (λ h. ap not (e ∙ some_length x xs)),
)

-- ---- what is asked by place

module _ (s : ReplicaState) (v : IsValid s) (i : ℕ) (n : Node) (at : IsAt (changesets s.history) n i) where
  -- the phase at the node's place is the node's
  pub phase_there : (h : Held) → slice_get s.history.held i ≡ Some h → HasPhase (content_of s) n h.phase
  phase_there h here =
      let changeset : slice_get (changesets s.history) i ≡ Some h.changeset = slice_get-map (λ (x : Held). x.changeset)
      s.history.held i ∙ ap (option_map (λ (x : Held). x.changeset)) here in
      let named : slice_get (nodes (changesets s.history)) i ≡ Some (node_of h.changeset) =
      slice_get-map node_of (changesets s.history) i ∙ ap (option_map node_of) changeset in (
        h,
        content-held s.history v.graph n h (Contains-from_place s.history.held i h here)
            (same_Some (node_of h.changeset) n (sym named ∙ at)),
        refl,
      )

  pub held_there : (h : Held) × (slice_get s.history.held i ≡ Some h)
  held_there = slice_get_some s.history.held i
      (omega (
        arith,
        slice_get_within (nodes (changesets s.history)) i n at,
        length-map (changesets s.history) node_of,
        length-map s.history.held (λ (x : Held). x.changeset),
      ))

  -- what isn't public is mutable
  pub mutable_there : ¬ (HasPhase (content_of s) n Public) → IsMutable (content_of s) n
  mutable_there not =
      let h = held_there in
      let its = phase_there h.0 h.1 in
      mutable_from_phase (content_of s) n h.0.phase its (λ e. not (subst (HasPhase (content_of s) n) e its))
