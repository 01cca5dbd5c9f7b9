-- A graph's table: what is found in it, and the graph once a new changeset is put into it.
use Rattle.std.proofs.Common.{◌≡◌, ◌∷◌, [], ◌++◌, ◌∙◌, List, None, Some, Result, Ok, Err, Contains, is_some}
use Rattle.std.proofs.Common.{refl, sym, ap, subst, true≢false, slice_get}
use Rattle.std.specs.Option.{option_map}
use Rattle.std.specs.Map.{keys_of, values_of}
use Rattle.std.proofs.lemmas.List.{map-append}
use Rattle.std.proofs.lemmas.Option.{slice_get-map, same_Some}
use Rattle.std.proofs.lemmas.Map.Entries.{place_from_lookup}
use Rattle.std.proofs.lemmas.Map.Made.{is_some-lookup}
use Rattle.std.proofs.lemmas.Map.Views.{list_any-from_Contains}
use Rattle.indexmap.specs.IndexMap.{IndexMap, keys, values, get, insert_entry}
use Rattle.indexmap.proofs.CallerLemmas.{insert_entry-new}
use Rattle.hg_changeset.specs.declared.node.Node.{Node}
use Rattle.hg_changeset.specs.Node.{node_eq}
use Rattle.hg_changeset.specs.Contents.{Contents}
use Rattle.hg_changeset.specs.Changeset.{node_of, IsChangeset}
use Rattle.hg_changeset.proofs.NodeLemmas.{same_node, node_eq_laws}
use Rattle.hg_graph.specs.declared.error.GraphError.{GraphError}
use Rattle.hg_graph.specs.declared.error.GraphError.TheVariants.{UnknownParent, Collision, NoMemory}
use Rattle.hg_graph.specs.declared.graph.Added.{Added}
use Rattle.hg_graph.specs.declared.graph.Added.TheVariants.{New, Known}
use Rattle.hg_graph.specs.declared.graph.ParentPlaces.{ParentPlaces}
use Rattle.hg_graph.specs.Graph.{nodes, Holds, HoldsParents, IsGraph}
use Rattle.hg_graph.specs.Places.{ArePlaces, ArePlacesOf}
use Rattle.hg_graph.specs.Answers.{IsNew, AddAnswer, MetAnswer}
use Rattle.hg_graph.proofs.GraphLemmas.{IsGraph-push, Contains-from_place, keyed-push}
use Rattle.hg_graph.proofs.PlaceLemmas.{ArePlaces-push}

module _ {H : Type 0} (m : IndexMap Node Contents H) (node : Node) (keyed : keys m ≡ nodes (values m)) where
  -- an id that isn't found is no changeset's
  not_held : get node_eq m node ≡ None → ¬ (Holds (values m) node)
  not_held none held =
      let there = list_any-from_Contains node_eq_laws node (keys m)
      (subst (λ ns. Contains ns node) (sym keyed) held) in
      true≢false (sym there ∙ sym (is_some-lookup (node_eq node) m.entries) ∙ ap is_some none)

  -- so a changeset with that id is new, where its parents are held
  pub is_new : (c : Contents) → node ≡ node_of c → get node_eq m node ≡ None → (cs : List Contents) → values m ≡ cs
      → HoldsParents cs c → IsNew cs c
  is_new c id none cs is parents = (parents, subst (λ n. ¬ (Holds cs n)) id (rw is at not_held none))

  -- what is found is held, and has the id
  pub found_held : (d : Contents) → get node_eq m node ≡ Some d → Contains (values m) d × (node_of d ≡ node)
  found_held d found =
      let at = place_from_lookup (node_eq node) m.entries d found in
      let value : slice_get (values m) at.0 ≡ Some d = slice_get-map (λ e. e.1) m.entries at.0
      ∙ ap (option_map (λ e. e.1)) at.2 in
      let key : slice_get (nodes (values m)) at.0 ≡ Some at.1 = ap (λ ns. slice_get ns at.0) (sym keyed)
      ∙ slice_get-map (λ e. e.0) m.entries at.0 ∙ ap (option_map (λ e. e.0)) at.2 in
      let own : slice_get (nodes (values m)) at.0 ≡ Some (node_of d) = slice_get-map node_of (values m) at.0
      ∙ ap (option_map node_of) value in
      (Contains-from_place (values m) at.0 d value, same_Some _ _ (sym own ∙ key) ∙ sym (same_node node at.1 at.3))

  -- the entries once a new changeset is put last
  module _ (es : List (Node × Contents)) (c : Contents) (none : get node_eq m node ≡ None)
      (put : es ≡ insert_entry node_eq m.entries node c) where
    last : es ≡ m.entries ++ (node, c) ∷ []
    last = put ∙ insert_entry-new node_eq m node c none

    values_put : values_of es ≡ values m ++ c ∷ []
    values_put = ap values_of last ∙ map-append (λ e. e.1) m.entries ((node, c) ∷ [])

    keys_put : keys_of es ≡ keys m ++ node ∷ []
    keys_put = ap keys_of last ∙ map-append (λ e. e.0) m.entries ((node, c) ∷ [])

    -- which is the answer to a new one
    pub new_put : node ≡ node_of c → (cs : List Contents) → values m ≡ cs → HoldsParents cs c
        → HoldsParents cs c × ¬ (Holds cs (node_of c)) × (values_of es ≡ cs ++ c ∷ [])
    new_put id cs is parents =
        let new = is_new c id none cs is parents in (new.0, new.1, values_put ∙ ap (λ ds. ds ++ c ∷ []) is)

    -- and these are a graph's, with the places of the parents
    pub graph_put : (old new : List ParentPlaces) (p : ParentPlaces) → IsGraph (values m) → ArePlaces (values m) old
        → node ≡ node_of c → IsChangeset c → HoldsParents (values m) c → ArePlacesOf (values m) c p
        → new ≡ old ++ p ∷ []
        → (keys_of es ≡ nodes (values_of es)) × IsGraph (values_of es) × ArePlaces (values_of es) new
    graph_put old new p graph places id is parents of_parents links =
        let out = (is_new c id none (values m) refl parents).1 in (
          keys_put ∙ ap (λ k. keys m ++ k ∷ []) id ∙ keyed-push (values m) c (keys m) keyed ∙ ap nodes (sym values_put),
          subst IsGraph (sym values_put) (IsGraph-push (values m) c graph is parents out),
          subst (λ cs. ArePlaces cs new) (sym values_put) (subst (ArePlaces (values m ++ c ∷ [])) (sym links)
              (ArePlaces-push (values m) old c p places of_parents)),
        )

-- the answer where d, which has the id of c, is held
pub met : (cs after : List Contents) (c d : Contents) (r : Result Added GraphError) → MetAnswer d c r
    → Contains cs d × (node_of d ≡ node_of c) → HoldsParents cs c → after ≡ cs → AddAnswer cs c r after
met cs after c d (Ok New) answer at parents same = absurd answer
met cs after c d (Ok Known) answer at parents same = (subst (Contains cs) answer at.0, same)
met cs after c d (Err (UnknownParent p)) answer at parents same = absurd answer
met cs after c d (Err (Collision n)) answer at parents same =
    (parents, (d, at.0, at.1, answer.0), answer.1, same)
met cs after c d (Err NoMemory) answer at parents same = absurd answer
