-- The walk from a changeset to what stands on it.
use Rattle.std.proofs.Common.{◌≡◌, ℕ, ◌+◌, ◌<◌, ◌≤◌, List, [], length, take, get_or, slice_get, Contains, ◌↔◌, ◌⊎◌, inl}
use Rattle.std.proofs.Common.{inr, refl, sym, ap, subst, ◌∙◌, arith}
use Rattle.std.specs.List.{IsDistinct}
use Rattle.std.proofs.lemmas.List.{take_all}
use Rattle.std.proofs.lemmas.List.Elements.{Contains-get_or}
use Rattle.std.proofs.lemmas.Map.Made.{length-le_from_is_member}
use Rattle.std.proofs.lemmas.Map.Views.{Contains-from_any, list_any-from_Contains}
use Rattle.std.proofs.lemmas.Option.{same_Some}
use Rattle.hg_changeset.specs.declared.node.Node.{Node}
use Rattle.hg_changeset.proofs.ListLemmas.{Contains-none}
use Rattle.hg_changeset.specs.Node.{node_eq}
use Rattle.hg_changeset.specs.Contents.{Contents}
use Rattle.hg_changeset.specs.Changeset.{node_of}
use Rattle.hg_changeset.proofs.NodeLemmas.{same_node, node_eq_laws}
use Rattle.hg_graph.specs.Graph.{nodes, Holds, IsGraph, IsParent, Reaches}
use Rattle.hg_graph.specs.Graph.Reaches.{itself, below}
use Rattle.hg_graph.specs.Places.{IsAt, IsOnlyAt, IsParentPlace}
use Rattle.hg_graph.proofs.GraphLemmas.{Contains-from_place, place_from_Contains}
use Rattle.hg_graph.proofs.PlaceLemmas.{IsAt-from, Holds-reached, Holds-reaching}
use Rattle.hg_phases.specs.State.{changesets}
use Rattle.hg_phases.proofs.LeastLemmas.{Holds-taken}
use Rattle.hg_history.specs.Content.Leads.{itself as leads_itself}
use Rattle.hg_history.proofs.ContentLemmas.{content-node, node_in_content, leads_from_reach, reach_from_leads}
use Rattle.hg_replica.specs.State.{ReplicaState, IsValid}
use Rattle.hg_replica.specs.Content.{content_of}
use Rattle.hg_instab.specs.Walk.{Adds}
use Rattle.hg_changeset.proofs.ListLemmas.{Contains-taken}
use Rattle.hg_instab.proofs.WalkLemmas.{front-kept}
use Rattle.hg_view.specs.Pins.{CountsAsObsolete, IsVisibleUnder}
use Rattle.hg_view.specs.Shown.{IsChild, IsAtOne}

-- one place more
pub at-more : (cs : List Contents) (places : List ℕ) (i k : ℕ) (x : Node) → i < length places
    → get_or places i k ≡ k → IsAt cs x k → (n : Node) → IsAtOne cs (take (i + 1) places) n
    ↔ (IsAtOne cs (take i places) n ⊎ (x ≡ n))
at-more cs places i k x l is at n = (
  λ h. elim ((Contains-taken places i k h.0 l is).0 h.1)
      [ inl old ↦ inl (h.0, old, h.2) | inr e ↦ inr (same_Some x n (sym at ∙ ap (slice_get (nodes cs)) e ∙ h.2)) ],
  λ h. elim h [
    | inl old ↦ (old.0, (Contains-taken places i k old.0 l is).1 (inl old.1), old.2)
    | inr e ↦
        (k, (Contains-taken places i k k l is).1 (inr refl), subst (λ m. IsAt cs m k) e at)
  ],
)

-- nothing stands at a place beyond the graph
pub at-nothing : (cs : List Contents) (places : List ℕ) (i k : ℕ) → i < length places
    → get_or places i k ≡ k → ((x : Node) → IsAt cs x k → ⊥) → (n : Node) → IsAtOne cs (take (i + 1) places) n
    ↔ IsAtOne cs (take i places) n
at-nothing cs places i k l is none n = (
  λ h. elim ((Contains-taken places i k h.0 l is).0 h.1)
      [ inl old ↦ (h.0, old, h.2) | inr e ↦ absurd (none n (ap (slice_get (nodes cs)) e ∙ h.2)) ],
  λ h. (h.0, (Contains-taken places i k h.0 l is).1 (inl h.1), h.2),
)

-- the children stand at the places of children
pub children-at : (cs : List Contents) (p : Node) (place : ℕ) (places : List ℕ) → IsOnlyAt cs p place
    → ((k : ℕ) → Contains places k ↔ IsParentPlace cs k place) → (n : Node) → IsChild cs p n ↔ IsAtOne cs places n
children-at cs p place places only are n = (
  λ h.
      let k = place_from_Contains cs h.0 h.1 in
      (k.0, (are k.0).1 (h.0, p, k.1, h.3, (only place).1 refl), IsAt-from cs k.0 h.0 n k.1 h.2),
  λ h.
      let parent = (are h.0).0 h.1 in
      let c = parent.0 in
      let p_is : parent.1 ≡ p = same_Some parent.1 p (sym parent.4 ∙ (only place).1 refl) in
      let n_is : node_of c ≡ n = same_Some (node_of c) n (sym (IsAt-from cs h.0 c (node_of c) parent.2 refl) ∙ h.2) in
      (c, Contains-from_place cs h.0 c parent.2, n_is, subst (IsParent c) p_is parent.3),
)

-- what isn't held has no children
pub childless : (cs : List Contents) → IsGraph cs → (p : Node) → ¬ (Holds cs p) → (n : Node) → ¬ (IsChild cs p n)
childless cs graph p missing n child =
    let k = place_from_Contains cs child.0 child.1 in
    missing (Holds-taken cs k.0 p (graph.parents_first k.0 child.0 k.1 p child.3))

-- one that doesn't count as obsolete is visible where it is held
pub shown-visible : (s : ReplicaState) → IsValid s → (pins : List Node) (n : Node)
    → ¬ (CountsAsObsolete (content_of s) pins n)
    → Holds (changesets s.history) n ↔ IsVisibleUnder (content_of s) pins n
shown-visible s valid pins n not = (
  λ held. (n, (content-node s.history valid.graph n held, not), leads_itself),
  λ v. Holds-reaching (changesets s.history)
      (reach_from_leads s.history valid.graph n v.0 (node_in_content s.history valid.graph v.0 v.1.0) v.2),
)

-- how far the walk has come: of the first i that were met all count as obsolete, and their children were met
pub record IsSearched (s : ReplicaState) (pins : List Node) (start : Node) (met : List Node) (i : ℕ) : Type 0 where
  pub sound : (n : Node) → Contains met n → Reaches (changesets s.history) start n
  pub begun : Contains met start
  pub closed : (p n : Node) → Contains (take i met) p → IsChild (changesets s.history) p n → Contains met n
  pub obsolete : (p : Node) → Contains (take i met) p → CountsAsObsolete (content_of s) pins p

module _ (s : ReplicaState) (valid : IsValid s) (pins : List Node) (start : Node) where
  pub search-start : (met : List Node) → CountsAsObsolete (content_of s) pins start → Adds (λ n. start ≡ n) [] met
      → IsSearched s pins start met 0
  search-start met o a =
      let held = node_in_content s.history valid.graph start (o.0.0.0, o.0.0.1) in
      record {
        sound = λ n h. elim ((a.members n).0 h) [
          | inl none ↦ absurd (Contains-none n none)
          | inr e ↦ subst (Reaches (changesets s.history) start) e
              (itself held)
        ];
        begun = (a.members start).1 (inr refl);
        closed = λ p n h child. absurd (Contains-none p h);
        obsolete = λ p h. absurd (Contains-none p h);
      }

  pub search-step : (met new : List Node) (i : ℕ) (x : Node) → i < length met
      → get_or met i x ≡ x → IsSearched s pins start met i → CountsAsObsolete (content_of s) pins x
      → Adds (IsChild (changesets s.history) x) met new → IsSearched s pins start new (i + 1)
  search-step met new i x l at w o a = record {
    sound = λ n h. elim ((a.members n).0 h) [
      | inl old ↦ w.sound n old
      | inr child ↦ below (w.sound x (subst (Contains met) at (Contains-get_or met i x l))) child.3 child.1 child.2
    ];
    begun = (a.members start).1 (inl w.begun);
    closed = λ p n h child. (a.members n).1 (elim ((Contains-taken met i x p l at).0 (before p h)) [
      | inl old ↦ inl (w.closed p n old child)
      | inr e ↦ inr (subst (λ y. IsChild (changesets s.history) y n) (sym e) child)
    ]);
    obsolete = λ p h. elim ((Contains-taken met i x p l at).0 (before p h))
        [ inl old ↦ w.obsolete p old | inr e ↦ subst (CountsAsObsolete (content_of s) pins) e o ];
  }
    where
      before : (p : Node) → Contains (take (i + 1) new) p → Contains (take (i + 1) met) p
      before p h = subst (λ zs. Contains zs p) (front-kept met new (i + 1) a.kept (omega (arith, l))) h

  -- all that was met is held, so the walk ends
  pub search-within : (met : List Node) (i : ℕ) → IsSearched s pins start met i → IsDistinct node_eq met
      → length met ≤ length (nodes (changesets s.history))
  search-within met i w distinct =
      length-le_from_is_member node_eq_laws met (nodes (changesets s.history)) distinct
      (λ q e. list_any-from_Contains node_eq_laws q (nodes (changesets s.history))
      (Holds-reached (changesets s.history) (w.sound q (Contains-from_any same_node q met e))))

  -- one that doesn't count as obsolete was met
  pub search-found : (met : List Node) (i : ℕ) → IsSearched s pins start met i → (x : Node) → Contains met x
      → ¬ (CountsAsObsolete (content_of s) pins x) → IsVisibleUnder (content_of s) pins start
  search-found met i w x h not =
      let reach = w.sound x h in (
        x,
        (content-node s.history valid.graph x (Holds-reached (changesets s.history) reach), not),
        leads_from_reach s.history valid.graph start x reach,
      )

  -- all that was met counts as obsolete, and that is all that there is
  pub search-end : (met : List Node) (i : ℕ) → IsSearched s pins start met i
      → length met ≤ i → ¬ (IsVisibleUnder (content_of s) pins start)
  search-end met i w ended v =
      v.1.1 (w.obsolete v.0
      (subst (λ zs. Contains zs v.0) (sym (take_all i met ended))
      (all v.0 (reach_from_leads s.history valid.graph start v.0 (node_in_content s.history valid.graph v.0 v.1.0)
      v.2))))
    where
      all : (n : Node) → Reaches (changesets s.history) start n → Contains met n
      all n (itself held) = w.begun
      all n (below {c = c} {p = p} r is at e) =
          w.closed p n (subst (λ zs. Contains zs p) (sym (take_all i met ended)) (all p r)) (c, at, e, is)
