-- The phase rule, where a changeset was added as secret.
use Rattle.std.proofs.Common.{◌≡◌, ℕ, ◌<◌, ◌≤◌, ◌+◌, ◌-◌, List, [], ◌∷◌, ◌++◌, length, take, slice_get, Some, Contains}
use Rattle.std.proofs.Common.{inl, inr, refl, sym, ap, subst, min, ◌∙◌, arith}
use Rattle.std.proofs.lemmas.List.{length-append, length-take}
use Rattle.std.proofs.lemmas.Option.{slice_get_within}
use Rattle.hg_changeset.specs.declared.node.Node.{Node}
use Rattle.hg_changeset.specs.Contents.{Contents}
use Rattle.hg_changeset.specs.Changeset.{node_of}
use Rattle.hg_changeset.proofs.ListLemmas.{slice_get-push_cases, slice_get-take}
use Rattle.hg_graph.specs.Graph.{IsGraph, IsParent, nodes}
use Rattle.hg_graph.specs.Places.{IsAt}
use Rattle.hg_graph.proofs.GraphLemmas.{Contains-from_place, place_from_Contains, Holds-changeset, get-take}
use Rattle.hg_graph.proofs.GraphLemmas.{IsGraph-take}
use Rattle.hg_graph.proofs.MarkLemmas.{same_place, IsAt-from}
use Rattle.hg_phases.specs.declared.phase.Phase.{Phase}
use Rattle.hg_phases.specs.declared.phase.Phase.TheVariants.{Secret}
use Rattle.hg_phases.specs.State.{Held, rank, state_of, IsValid}
use Rattle.hg_phases.specs.Kept.{before_last}
use Rattle.hg_phases.proofs.RankLemmas.{rank-top}
use Rattle.hg_phases.proofs.PlaceLemmas.{held-at, parts-at, changesets-held_of, graph_of_state}

module _ (cs : List Contents) (ks : List Phase) (graph : IsGraph cs) (len : length cs ≡ length ks + 1)
    (valid : IsValid (state_of (before_last cs) ks)) where
  abbrev now : List Phase
  now = ks ++ Secret ∷ []

  len_now : length now ≡ length cs
  len_now = omega (arith, length-append ks (Secret ∷ []), len)

  -- what stands before the last stood there already
  earlier : (j : ℕ) (h : Held) → slice_get cs j ≡ Some h.changeset → slice_get ks j ≡ Some h.phase
      → Contains (state_of (before_last cs) ks).held h
  earlier j h at_c at_k =
      let l : j < length cs - 1 = omega (arith, slice_get_within ks j h.phase at_k, len) in
      Contains-from_place (state_of (before_last cs) ks).held j h
      (held-at (before_last cs) ks j h.changeset h.phase (slice_get-take cs (length cs - 1) j h.changeset l at_c)
      at_k)

  parent_first : (i : ℕ) (c : Contents) (n : Node) → slice_get cs i ≡ Some c → IsParent c n
      → (j : ℕ) × (j < i) × IsAt cs n j
  parent_first i c n at is =
      let d = Holds-changeset (take i cs) n (graph.parents_first i c at n is) in
      let place = place_from_Contains (take i cs) d.0 d.1 in
      let front = get-take cs i place.0 d.0 place.1 in
      (place.0, front.0, IsAt-from cs place.0 d.0 n front.1 d.2)

  rule : (child parent : Held) → Contains (state_of cs now).held child → Contains (state_of cs now).held parent
      → IsParent child.changeset (node_of parent.changeset) → rank parent.phase ≤ rank child.phase
  rule child parent at_child at_parent is =
      let p = place_from_Contains (state_of cs now).held child at_child in
      let c = parts-at cs now p.0 child p.1 in
      elim (slice_get-push_cases ks Secret p.0 child.phase c.1) [
        | inr top ↦ subst (λ k. rank parent.phase ≤ rank k) top.1 (rank-top parent.phase)
        | inl old ↦
            let q = place_from_Contains (state_of cs now).held parent at_parent in
            let d = parts-at cs now q.0 parent q.1 in
            elim (slice_get-push_cases ks Secret q.0 parent.phase d.1) [
              | inl was ↦ valid.phases child parent (earlier p.0 child c.0 old) (earlier q.0 parent d.0 was) is
              | inr last ↦
                  let before = parent_first p.0 child.changeset (node_of parent.changeset) c.0 is in
                  let here = IsAt-from cs q.0 parent.changeset (node_of parent.changeset) d.0 refl in
                  let same : before.0 ≡ q.0 =
                  same_place (nodes cs) (node_of parent.changeset) q.0 before.0 graph.distinct here before.2 in
                  absurd (omega (arith, before.1, same, last.0, slice_get_within ks p.0 child.phase old))
            ]
      ]

  pub admitted-valid : IsValid (state_of cs (ks ++ Secret ∷ []))
  admitted-valid = record { graph = subst IsGraph (sym (changesets-held_of cs now len_now)) graph; phases = rule }

-- the first changesets of a valid state are valid
pub valid-take : (n : ℕ) (cs : List Contents) (ks : List Phase) → length ks ≡ length cs → IsValid (state_of cs ks)
    → IsValid (state_of (take n cs) (take n ks))
valid-take n cs ks len valid = record {
  graph = subst IsGraph
      (sym (changesets-held_of (take n cs) (take n ks) (length-take n ks ∙ ap (min n) len ∙ sym (length-take n cs))))
      (IsGraph-take n cs (graph_of_state cs ks len valid));
  phases = λ child parent at_child at_parent is. valid.phases child parent (whole child at_child)
      (whole parent at_parent) is;
}
  where
    whole : (h : Held) → Contains (state_of (take n cs) (take n ks)).held h → Contains (state_of cs ks).held h
    whole h at =
        let p = place_from_Contains (state_of (take n cs) (take n ks)).held h at in
        let parts = parts-at (take n cs) (take n ks) p.0 h p.1 in
        Contains-from_place (state_of cs ks).held p.0 h
        (held-at cs ks p.0 h.changeset h.phase (get-take cs n p.0 h.changeset parts.0).1
        (get-take ks n p.0 h.phase parts.1).1)
