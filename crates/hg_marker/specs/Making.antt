-- Which fields make a marker.
use Rattle.std.specs.Prelude.{ℕ, List, length, Bool, not, ◌||◌, nat_lt, if◌then◌else◌, Result, Ok, Err}
use Rattle.std.specs.List.{list_any}
use Rattle.std.specs.FinMap.{entries}
use Rattle.hg_changeset.specs.Node.{null_node, node_eq}
use Rattle.hg_marker.specs.declared.error.MarkerError.{MarkerError}
use Rattle.hg_marker.specs.declared.error.MarkerError.TheVariants.{SelfSuccessor, NullSuccessor, BadKey, BadValue}
use Rattle.hg_marker.specs.declared.error.MarkerError.TheVariants.{TooManySuccessors, MetaTooLong}
use Rattle.hg_marker.specs.Fields.{Fields}
use Rattle.hg_marker.specs.Texts.{Texts}
use Rattle.hg_marker.specs.Metadata.{is_nul, is_colon, written}
use Rattle.hg_marker.specs.Limits.{metadata_limit, successor_limit}

-- a byte that no key holds
abbrev pub ends_key : ℕ → Bool
ends_key b = is_nul b || is_colon b

-- a key holds a colon or a NUL
abbrev pub has_bad_key : List (List ℕ × List ℕ) → Bool
has_bad_key es = list_any (λ e. list_any ends_key e.0) es

-- a value holds a NUL
abbrev pub has_bad_value : List (List ℕ × List ℕ) → Bool
has_bad_value es = list_any (λ e. list_any is_nul e.1) es

-- the texts can be written
abbrev pub is_writable : Texts → Bool
is_writable texts = not (has_bad_key (entries texts) || has_bad_value (entries texts))

-- the marker of these fields, or why there is none: the first reason that applies
abbrev pub marker_of : Fields → Result Fields MarkerError
marker_of m =
    if list_any (node_eq m.predecessor) m.successors then Err SelfSuccessor
    else if list_any (node_eq null_node) m.successors then Err NullSuccessor
    else if has_bad_key (entries m.metadata) then Err BadKey
    else if has_bad_value (entries m.metadata) then Err BadValue
    else if nat_lt successor_limit (length m.successors) then Err TooManySuccessors
    else if nat_lt metadata_limit (length (written m.metadata)) then Err MetaTooLong
    else Ok m
