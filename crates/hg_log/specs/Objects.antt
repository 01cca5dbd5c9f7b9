-- The histories of nodes as JSON.
use Rattle.std.specs.Prelude.{ℕ, ◌≡◌, ◌++◌, ◌∷◌, [], Bool, false, List, Option, codes, length, map}
use Rattle.std.specs.Io.KnownBytes.{Appends}
use Rattle.hg_phases.specs.State.{changesets}
use Rattle.hg_view.specs.Kept.{KeptValue}
use Rattle.hg_log.specs.declared.named.NamedNode.{NamedNode as NamedNodeValue}
use Rattle.hg_log.specs.Drawings.{ArePieces, ArePlacesGiven, Text}
use Rattle.hg_log.specs.Entries.{Entry, IsEntryAt, object_text}
use Rattle.hg_log.specs.Json.{behind, divided}

-- what a node is called, and what it holds
abbrev pub NodeState : Type 0
NodeState = Text × KeptValue

abbrev pub named : NamedNodeValue → NodeState
named node = (node.name.now, node.kept.now)

abbrev pub names_and_states : List NamedNodeValue → List NodeState
names_and_states = map named

-- what is told of a place that is to be drawn
abbrev pub IsEntryOf : NodeState → ℕ → List Entry → Type 0
IsEntryOf node place es = (e : Entry) × IsEntryAt node.0 node.1 place e × (es ≡ e ∷ [])

-- what is told of a node: of all places that are to be drawn, the last first
abbrev pub AreNodeEntries : Bool → NodeState → List Entry → Type 0
AreNodeEntries shows_hidden node es =
    ArePlacesGiven (IsEntryOf node) node.1 shows_hidden 0 (length (changesets node.1.replica.history)) es

-- what is told of all nodes, one after the other
abbrev pub AreEntries : Bool → List NodeState → List Entry → Type 0
AreEntries shows_hidden nodes es = ArePieces (AreNodeEntries shows_hidden) nodes es

-- the objects of these, with commas between them
abbrev pub objects_text : Bool → List Entry → Text
objects_text is_behind es = divided is_behind (codes ",") object_text es

-- an array of the objects of all nodes
abbrev pub IsArray : Bool → List NodeState → Text → Type 0
IsArray shows_hidden nodes text =
    (es : List Entry) × AreEntries shows_hidden nodes es
    × (text ≡ codes "[" ++ objects_text false es ++ codes "\n]\n")

-- such entries were written, behind others or not, and whether something stands before what follows
abbrev pub WritesEntries : (List Entry → Type 0) → Bool → Bool → Option Text → Option Text → Type 0
WritesEntries Are before after held holds =
    (es : List Entry) × Are es × Appends held holds (objects_text before es) × (after ≡ behind before es)
