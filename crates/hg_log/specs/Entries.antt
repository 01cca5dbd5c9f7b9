-- What JSON tells of a changeset.
use Rattle.std.specs.Prelude.{ℕ, ◌≡◌, ◌++◌, ◌∷◌, [], Bool, List, Some, codes, not, slice_get}
use Rattle.std.specs.Prelude.{if◌then◌else◌}
use Rattle.hg_changeset.specs.declared.node.Node.{Node}
use Rattle.hg_changeset.specs.Node.{node_eq, null_node}
use Rattle.hg_changeset.specs.Contents.{Contents}
use Rattle.hg_changeset.specs.Changeset.{node_of}
use Rattle.hg_marker.specs.Fields.{Fields}
use Rattle.hg_obsstore.specs.Markers.{ArePlaces}
use Rattle.hg_obsstore.specs.Places.{picked}
use Rattle.hg_phases.specs.Words.{phase_word}
use Rattle.hg_phases.specs.State.{Held}
use Rattle.hg_view.specs.Kept.{KeptValue}
use Rattle.hg_view.specs.Status.{IsStatus}
use Rattle.hg_view.specs.declared.status.Status.{Status}
use Rattle.hg_log.specs.Drawings.{Text}
use Rattle.hg_log.specs.Fates.{rewriting_of}
use Rattle.hg_log.specs.Json.{id_text, ids_text, list_text, string_text, truth_text}
use Rattle.hg_log.specs.Titles.{label_of}

-- ---- what is told

-- a changeset with its phase, in a repository of this name; what is so of it, and the markers that rewrote it
pub record Entry : Type 0 where
  pub repository : Text
  pub held : Held
  pub status : Status
  pub markers : List Fields

-- all of this is so of what stands at the place: the markers are those with it as their predecessor, in their order
pub record IsEntryAt (name : Text) (kept : KeptValue) (place : ℕ) (e : Entry) : Type 0 where
  pub repository : e.repository ≡ name
  pub held : slice_get kept.replica.history.held place ≡ Some e.held
  pub status : IsStatus kept (node_of e.held.changeset) e.status
  pub markers : (places : List ℕ)
      × ArePlaces (λ m. m.predecessor ≡ node_of e.held.changeset) kept.replica.markers places
      × (e.markers ≡ picked kept.replica.markers places)

-- the parents: the null id where there is none, and two of a merge
abbrev pub parents_of : Contents → List Node
parents_of c = if node_eq c.second null_node then c.first ∷ [] else c.first ∷ c.second ∷ []

-- a word where that is so
abbrev pub only_if : Bool → Text → List Text
only_if is_so word = if is_so then word ∷ [] else []

-- the words for what is unstable
abbrev pub unstable_words : Status → List Text
unstable_words status =
    only_if status.orphan (codes "orphan")
    ++ (only_if status.phase_divergent (codes "phase-divergent")
    ++ only_if status.content_divergent (codes "content-divergent"))

-- ---- how it is written

-- a key, but for the first
abbrev pub key_text : Text → Text
key_text key = codes ",\n  \"" ++ key ++ codes "\": "

-- the beginning, with the label
abbrev pub label_text : Text → Text
label_text label = codes "\n {\n  \"desc\": " ++ string_text label

abbrev pub unstable_text : Status → Text
unstable_text status = key_text (codes "instabilities") ++ list_text string_text (unstable_words status)

abbrev pub node_text : Node → Text
node_text n = key_text (codes "node") ++ id_text n

abbrev pub parents_text : Contents → Text
parents_text c = key_text (codes "parents") ++ ids_text (parents_of c)

-- to which others a marker rewrites, and how
abbrev pub nodes_text : List Node → Text
nodes_text ns = codes "{\"nodes\": " ++ ids_text ns

abbrev pub operation_text : Text → Text
operation_text word = codes ", \"operation\": " ++ string_text word ++ codes "}"

abbrev pub marker_text : Fields → Text
marker_text m = nodes_text m.successors ++ operation_text (rewriting_of m)

abbrev pub markers_text : List Fields → Text
markers_text ms = key_text (codes "successors") ++ list_text marker_text ms

-- the first half, up to whether it is obsolete
abbrev pub state_text : Contents → Status → Text
state_text c status =
    label_text (label_of c) ++ (key_text (codes "hidden") ++ truth_text (not status.visible)) ++ unstable_text status
    ++ node_text (node_of c) ++ (key_text (codes "obsolete") ++ truth_text status.obsolete)

-- the keys in the order of the alphabet
abbrev pub told_text : Contents → Status → Text → Text → List Fields → Text
told_text c status phase repository markers =
    state_text c status ++ parents_text c ++ (key_text (codes "phase") ++ string_text phase)
    ++ (key_text (codes "repository") ++ string_text repository) ++ markers_text markers ++ codes "\n }"

abbrev pub object_text : Entry → Text
object_text e = told_text e.held.changeset e.status (phase_word e.held.phase) e.repository e.markers
