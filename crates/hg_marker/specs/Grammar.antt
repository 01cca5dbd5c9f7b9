-- How a marker is spelled: the grammar of markers, apart from any reader or writer.
use Rattle.std.specs.Prelude.{◌≡◌, ◌<◌, ◌≤◌, ℕ, List, ◌∷◌, ◌++◌, length, false}
use Rattle.std.specs.List.{flat_map, list_any, AllByRecursion}
use Rattle.std.specs.Int.{w32, to_be_bytes}
use Rattle.std.specs.FinMap.{entries}
use Rattle.hg_changeset.specs.declared.node.Node.{Node}
use Rattle.hg_changeset.specs.Node.{IsNode, null_node, node_eq}
use Rattle.hg_marker.specs.Fields.{Fields}
use Rattle.hg_marker.specs.Metadata.{IsMetadata, IsClean, written}
use Rattle.hg_marker.specs.Limits.{metadata_limit}

-- the ids, one after the other
abbrev pub ids : List Node → List ℕ
ids ns = flat_map (λ n. n.0) ns

-- the number of successors in one byte, the length of the metadata in four, the flags in one, the predecessor, the
-- successors, and the metadata
abbrev pub layout : Fields → List ℕ → List ℕ
layout m text =
    length m.successors ∷ to_be_bytes w32 (length text) ++ m.flags ∷ m.predecessor.0 ++ ids m.successors ++ text

-- the fields apart from the metadata have room in the layout, and no successor is the null id
pub record Fits (m : Fields) : Type 0 where
  pub predecessor : IsNode m.predecessor
  pub successors : AllByRecursion IsNode m.successors
  pub present : list_any (node_eq null_node) m.successors ≡ false
  pub few : length m.successors < 256
  pub flags : m.flags < 256

-- what is so of every marker: it fits, and its metadata can be written in no more bytes than allowed. A marker may be
-- its own successor, since such a marker may have been received.
pub record IsMarker (m : Fields) : Type 0 where
  pub fits : Fits m
  pub clean : AllByRecursion IsClean (entries m.metadata)
  pub short : length (written m.metadata) ≤ metadata_limit

-- the bytes spell the marker, with this text of its metadata
pub record IsSpelling (m : Fields) (bytes : List ℕ) : Type 0 where
  pub text : List ℕ
  pub fits : Fits m
  pub short : length text ≤ metadata_limit
  pub metadata : IsMetadata m.metadata text
  pub layout : bytes ≡ layout m text

-- the one spelling that is written
abbrev pub spelling : Fields → List ℕ
spelling m = layout m (written m.metadata)
