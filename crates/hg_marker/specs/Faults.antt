-- What is read at the front of bytes, and which fault there is.
use Rattle.std.specs.Prelude.{◌≡◌, ◌≢◌, ◌<◌, ◌≤◌, ◌+◌, ◌-◌, ◌*◌, ◌⊎◌, ℕ, List, length, take, drop, false, nat_le, not}
use Rattle.std.specs.Prelude.{slice_index, Result, Ok, Err}
use Rattle.std.specs.List.{list_any, list_all}
use Rattle.std.specs.Int.{w32, from_be_bytes}
use Rattle.hg_changeset.specs.declared.node.Node.{Node}
use Rattle.hg_changeset.specs.Node.{null_node, node_eq}
use Rattle.hg_marker.specs.declared.error.MarkerFault.{MarkerFault}
use Rattle.hg_marker.specs.declared.error.MarkerFault.TheVariants.{Truncated, NullSuccessor, BadMetadata}
use Rattle.hg_marker.specs.declared.error.ReadError.{ReadError}
use Rattle.hg_marker.specs.declared.error.ReadError.TheVariants.{NoMemory, Fault}
use Rattle.hg_marker.specs.Fields.{Fields}
use Rattle.hg_marker.specs.Metadata.{metadata_at, pieces, has_colon}
use Rattle.hg_marker.specs.Limits.{metadata_limit}
use Rattle.hg_marker.specs.Reading.{Reader, ◌>>=◌, says, wants, yields, field, number, byte, node, nodes}

-- ---- field by field

-- the marker at the front, or the first fault: bytes that aren't there, a null successor, bad metadata
unfoldable pub marker_at : Reader MarkerFault Fields
marker_at = do
  count ← byte Truncated
  len ← number Truncated
  flags ← byte Truncated
  predecessor ← node Truncated
  successors ← nodes Truncated count
  text ← field Truncated len
  _ ← wants (not (list_any (node_eq null_node) successors)) NullSuccessor
  _ ← wants (nat_le len metadata_limit) BadMetadata
  metadata ← yields (metadata_at text)
  says (record { predecessor = predecessor; successors = successors; flags = flags; metadata = metadata })

-- what was left
abbrev pub left : {A F : Type 0} → Result (A × List ℕ) F → Result (List ℕ) F
left (Ok x) = Ok x.1
left (Err e) = Err e

-- the bytes after the marker at the front
abbrev pub after_marker : List ℕ → Result (List ℕ) MarkerFault
after_marker bytes = left (marker_at bytes)

-- what was read, with the number of bytes that it took
abbrev pub with_length : List ℕ → Result (Fields × List ℕ) MarkerFault → Result (Fields × ℕ) MarkerFault
with_length bytes (Ok x) = Ok (x.0, length bytes - length x.1)
with_length bytes (Err e) = Err e

-- the marker at the front, and how many bytes it takes
abbrev pub marker_and_length : List ℕ → Result (Fields × ℕ) MarkerFault
marker_and_length bytes = with_length bytes (marker_at bytes)

-- ---- by places in the bytes

-- N: the number of successors
abbrev pub count_at : List ℕ → ℕ
count_at bytes = slice_index bytes 0

-- M: the length of the metadata
abbrev pub len_at : List ℕ → ℕ
len_at bytes = from_be_bytes w32 (take 4 (drop 1 bytes))

-- how many bytes the first six announce
abbrev pub announced : List ℕ → ℕ
announced bytes = 26 + 20 * count_at bytes + len_at bytes

-- the successor of this number, from 0
abbrev pub successor_at : List ℕ → ℕ → Node
successor_at bytes k = record { 0 = take 20 (drop (26 + 20 * k) bytes) }

-- the metadata, as its bytes
abbrev pub metadata_text_at : List ℕ → List ℕ
metadata_text_at bytes = take (len_at bytes) (drop (26 + 20 * count_at bytes) bytes)

-- not all bytes are there: fewer than six, or fewer than these announce
abbrev pub IsTruncated : List ℕ → Type 0
IsTruncated bytes = (length bytes < 6) ⊎ (length bytes < announced bytes)

-- all bytes are there
abbrev pub IsWhole : List ℕ → Type 0
IsWhole bytes = announced bytes ≤ length bytes

-- a successor is the null id
abbrev pub HasNullSuccessor : List ℕ → Type 0
HasNullSuccessor bytes = (k : ℕ) × (k < count_at bytes) × (successor_at bytes k ≡ null_node)

-- no successor is the null id
abbrev pub HasSuccessors : List ℕ → Type 0
HasSuccessors bytes = (k : ℕ) → k < count_at bytes → successor_at bytes k ≢ null_node

-- the metadata is too long, or a piece of it has no colon
abbrev pub HasBadMetadata : List ℕ → Type 0
HasBadMetadata bytes = (metadata_limit < len_at bytes) ⊎ (list_all has_colon (pieces (metadata_text_at bytes)) ≡ false)

-- this is the fault of the bytes
abbrev pub IsFault : List ℕ → MarkerFault → Type 0
IsFault bytes Truncated = IsTruncated bytes
IsFault bytes NullSuccessor = IsWhole bytes × HasNullSuccessor bytes
IsFault bytes BadMetadata = IsWhole bytes × HasSuccessors bytes × HasBadMetadata bytes

-- where a fault is told, it is one of these; want of memory is none
abbrev pub IfFault : {X : Type 0} → Result X (ReadError MarkerFault) → (MarkerFault → Type 0) → Type 0
IfFault (Ok x) P = Unit {0}
IfFault (Err NoMemory) P = Unit {0}
IfFault (Err (Fault f)) P = P f
