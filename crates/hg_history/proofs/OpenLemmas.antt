-- A history that is opened.
use Rattle.std.proofs.Common.{◌≡◌, List, [], ◌∷◌, ◌++◌, length, Ok, Err, inl, inr, append_assoc, refl, sym, ap, subst}
use Rattle.std.proofs.Common.{◌∙◌, arith}
use Rattle.std.proofs.lemmas.Option.{same_Some, slice_get_within}
use Rattle.hg_changeset.specs.declared.node.Node.{Node}
use Rattle.hg_changeset.specs.Contents.{Contents}
use Rattle.hg_changeset.specs.Changeset.{node_of}
use Rattle.hg_changeset.proofs.ListLemmas.{slice_get-append, slice_get-append_seam, slice_get_some}
use Rattle.hg_graph.specs.Graph.{Holds, IsGraph, nodes}
use Rattle.hg_graph.specs.Places.{IsAt}
use Rattle.hg_graph.proofs.GraphLemmas.{absent}
use Rattle.hg_graph.proofs.PlaceLemmas.{same_place, IsAt-from, place_from_Holds, placed_within}
use Rattle.hg_phases.specs.declared.phase.Phase.{Phase}
use Rattle.hg_phases.specs.State.{State, IsValid, changesets, state_of}
use Rattle.hg_phases.specs.Least.{IsAdmitted}
use Rattle.hg_phases.specs.Roots.{AreRoots, AreSameRoots, IsOpened}
use Rattle.hg_phases.proofs.PlaceLemmas.{changesets-held_of}
use Rattle.hg_phases.proofs.LeastLemmas.{same_changeset}
use Rattle.hg_phases.proofs.RootLemmas.{opened-again}
use Rattle.hg_history.proofs.FaultLemmas.{no_fault}
use Rattle.hg_history.specs.declared.fault.Fault.{Fault}
use Rattle.hg_history.specs.declared.fault.Fault.TheVariants.{UnknownParent, Collision, UnknownBound, NullBound}
use Rattle.hg_history.specs.declared.fault.Fault.TheVariants.{NoMemory}
use Rattle.hg_history.specs.Answer.{AbsorbAnswer}
use Rattle.hg_history.specs.Change.{ChangeValue, unheld}
use Rattle.hg_history.specs.Open.{OpenAnswer, changesets_alone}

-- ---- a history

pub history-opened : (part : List Contents) (roots : List (Phase × Node)) (change : ChangeValue) (old after : State)
    (cs : List Contents) (ks ls : List Phase)
    → old ≡ state_of [] [] → AbsorbAnswer old (changesets_alone part) (Ok change) after → after ≡ state_of cs ks
    → length ks ≡ length cs
    → IsOpened cs roots (state_of cs ls) → OpenAnswer part roots (Ok (state_of cs ls))
history-opened part roots change old after cs ks ls none absorbed is len opened =
    let from_none : AbsorbAnswer (state_of [] []) (changesets_alone part) (Ok change) after =
    subst (λ s. AbsorbAnswer s (changesets_alone part) (Ok change) after) none absorbed in
    let order : cs ≡ unheld [] part = sym (changesets-held_of cs ks len) ∙ ap changesets (sym is) ∙ from_none.order in
    (from_none.admitted, subst (λ ds. IsOpened ds roots (state_of cs ls)) order opened)

-- ---- a history's own changesets

-- none of a graph's changesets is held twice
pub unheld-graph : (held part : List Contents) → IsGraph (held ++ part) → unheld held part ≡ part
unheld-graph held [] graph = refl
unheld-graph held (c ∷ part) graph =
    rw (absent held (node_of c) apart)
    (ap (λ cs. c ∷ cs)
    (unheld-graph (held ++ c ∷ []) part (subst IsGraph (sym (append_assoc held (c ∷ []) part)) graph)))
  where
    at_c : IsAt (held ++ c ∷ part) (node_of c) (length held)
    at_c = IsAt-from (held ++ c ∷ part) (length held) c (node_of c) (slice_get-append_seam held c part) refl

    apart : ¬ (Holds held (node_of c))
    apart holds =
        let place = place_from_Holds held (node_of c) holds in
        let d = slice_get_some held place.0 (placed_within held (node_of c) place.0 place.1) in
        let d_is : node_of d.0 ≡ node_of c =
        same_Some (node_of d.0) (node_of c) (sym (IsAt-from held place.0 d.0 (node_of d.0) d.1 refl) ∙ place.1) in
        let at_d = IsAt-from (held ++ c ∷ part) place.0 d.0 (node_of c)
        (slice_get-append held (c ∷ part) place.0 d.0 d.1) d_is in
        let same = same_place (nodes (held ++ c ∷ part)) (node_of c) (length held) place.0 graph.distinct at_c at_d in
        omega (arith, same, slice_get_within held place.0 d.0 d.1)

-- a graph's changesets can be absorbed from nothing
own_admitted : (cs : List Contents) → IsGraph cs → IsAdmitted (state_of [] []) (changesets_alone cs)
own_admitted cs graph = record {
  parents = λ i c at p is. inr (graph.parents_first i c at p is);
  bounds = λ b at. absurd (omega (arith, at.1));
  apart = λ c d at_c at_d e. elim at_d
      [ inl none ↦ absurd (omega (arith, none.1)) | inr in_part ↦ same_changeset cs graph d c in_part at_c (sym e) ];
}

pub own-refused : (cs : List Contents) → IsGraph cs → (roots : List (Phase × Node)) (fault : Fault)
    → OpenAnswer cs roots (Err fault) → fault ≡ NoMemory
own-refused cs graph roots (UnknownParent p) h =
    absurd (no_fault (state_of [] []) (changesets_alone cs) (own_admitted cs graph) (UnknownParent p) h)
own-refused cs graph roots (Collision n) h =
    absurd (no_fault (state_of [] []) (changesets_alone cs) (own_admitted cs graph) (Collision n) h)
own-refused cs graph roots (UnknownBound n) h =
    absurd (no_fault (state_of [] []) (changesets_alone cs) (own_admitted cs graph) (UnknownBound n) h)
own-refused cs graph roots NullBound h =
    absurd (no_fault (state_of [] []) (changesets_alone cs) (own_admitted cs graph) NullBound h)
own-refused cs graph roots NoMemory h = refl

pub own-same : (s t : State) (roots listed : List (Phase × Node)) → IsValid s → AreRoots s roots
    → AreSameRoots listed roots → OpenAnswer (changesets s) listed (Ok t) → t ≡ s
own-same s t roots listed valid are same opened =
    opened-again s t roots listed valid are same
    (subst (λ cs. IsOpened cs listed t) (unheld-graph [] (changesets s) valid.graph) opened.1)
