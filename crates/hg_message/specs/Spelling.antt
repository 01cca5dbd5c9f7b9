-- How a message is spelled: the grammar of messages, apart from any reader or writer.
use Rattle.std.specs.Prelude.{◌≡◌, ◌≢◌, ◌≤◌, ◌⊎◌, ℕ, List, [], ◌∷◌, ◌++◌, length}
use Rattle.std.specs.List.{flat_map, AllByRecursion}
use Rattle.std.specs.Int.{w32, to_be_bytes}
use Rattle.hg_changeset.specs.declared.node.Node.{Node}
use Rattle.hg_changeset.specs.Node.{IsNode, null_node}
use Rattle.hg_changeset.specs.Contents.{Contents}
use Rattle.hg_changeset.specs.Changeset.{IsChangeset, node_of, changeset_of, text_limit}
use Rattle.hg_marker.specs.Grammar.{IsMarker}
use Rattle.hg_phases.specs.declared.phase.Phase.{Phase}
use Rattle.hg_phases.specs.State.{rank}
use Rattle.hg_obsstore.specs.Spelling.{IsStoreSpelling, store_spelling}
use Rattle.hg_message.specs.declared.scope.Scope.{Scope}
use Rattle.hg_message.specs.declared.scope.Scope.TheVariants.{Served}
use Rattle.hg_message.specs.Scope.{scope_number}
use Rattle.hg_message.specs.Value.{MessageValue, IsMessage}
use Rattle.hg_message.specs.Limits.{count_limit}
use Rattle.hg_message.specs.Message.{magic_number}

-- a number in four bytes, the highest first
abbrev pub number : ℕ → List ℕ
number n = to_be_bytes w32 n

-- an id, two parents, the length of a text, and the text
abbrev pub record_layout : Node → Node → Node → List ℕ → List ℕ
record_layout id p q text = id.0 ++ (p.0 ++ (q.0 ++ (number (length text) ++ text)))

-- a record of the changeset: its parents stand in either order, and are both null or differ
pub record IsRecord (c : Contents) (bytes : List ℕ) : Type 0 where
  pub p : Node
  pub q : Node
  pub text : List ℕ
  pub ids : IsNode (node_of c) × IsNode p × IsNode q
  pub short : length text ≤ text_limit
  pub parents : p ≡ q → p ≡ null_node
  pub present : node_of c ≢ null_node
  pub changeset : c ≡ changeset_of p q text
  pub layout : bytes ≡ record_layout (node_of c) p q text

-- a phase and a node id
abbrev pub bound_layout : Node × Phase → List ℕ
bound_layout bound = number (rank bound.1) ++ bound.0.0

abbrev pub IsBound : Node × Phase → List ℕ → Type 0
IsBound bound bytes = IsNode bound.0 × (bytes ≡ bound_layout bound)

-- each value's spelling, one after the other
abbrev pub InOrder : {A : Type 0} → (A → List ℕ → Type 0) → List A → List ℕ → Type 0
InOrder S [] bytes = bytes ≡ []
InOrder S (x ∷ xs) bytes = (front : List ℕ) × (back : List ℕ) × S x front × InOrder S xs back × (bytes ≡ front ++ back)

-- the version and the scope that are written
abbrev pub head_spelling : Scope → List ℕ
head_spelling scope = 2 ∷ scope_number scope ∷ []

-- version 1, which is served, or version 2 and the scope
abbrev pub IsHead : Scope → List ℕ → Type 0
IsHead scope bytes = ((scope ≡ Served) × (bytes ≡ 1 ∷ [])) ⊎ (bytes ≡ head_spelling scope)

-- the magic, the head, the records behind their count, the bounds behind theirs, and the store behind its length
abbrev pub message_layout : List ℕ → ℕ → List ℕ → ℕ → List ℕ → List ℕ → List ℕ
message_layout head count records entries bounds store =
    number magic_number ++
    (head ++ (number count ++ (records ++ (number entries ++ (bounds ++ (number (length store) ++ store))))))

-- the bytes spell the message
pub record IsMessageSpelling (m : MessageValue) (bytes : List ℕ) : Type 0 where
  pub head : List ℕ
  pub records : List ℕ
  pub entries : List ℕ
  pub store : List ℕ
  pub counts : (length m.changesets ≤ count_limit) × (length m.bounds ≤ count_limit) × (length store ≤ count_limit)
  pub scope : IsHead m.scope head
  pub changesets : InOrder IsRecord m.changesets records
  pub bounds : InOrder IsBound m.bounds entries
  pub markers : IsStoreSpelling m.markers store
  pub layout : bytes ≡ message_layout head (length m.changesets) records (length m.bounds) entries store

-- the record that is written, with the parents in normal form
abbrev pub record_spelling : Contents → List ℕ
record_spelling c = record_layout (node_of c) c.first c.second c.text

-- the one spelling that is written
abbrev pub message_spelling : MessageValue → List ℕ
message_spelling m =
    message_layout (head_spelling m.scope) (length m.changesets) (flat_map record_spelling m.changesets)
    (length m.bounds) (flat_map bound_layout m.bounds) (store_spelling m.markers)

-- the bound is of a node id
pub record HasNode (bound : Node × Phase) : Type 0 where
  pub is_node : IsNode bound.0

-- what can be written: not too much, of changesets, ids and markers
pub record IsWritable (m : MessageValue) : Type 0 where
  pub message : IsMessage m
  pub changesets : AllByRecursion IsChangeset m.changesets
  pub bounds : AllByRecursion HasNode m.bounds
  pub markers : AllByRecursion IsMarker m.markers
