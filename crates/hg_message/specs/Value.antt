-- A message as a value, and what is so of every message.
use Rattle.std.specs.Prelude.{ℕ, ◌≤◌, List, length, Bool, ◌||◌, nat_lt, if◌then◌else◌, Result, Ok, Err}
use Rattle.hg_changeset.specs.declared.node.Node.{Node}
use Rattle.hg_changeset.specs.Contents.{Contents}
use Rattle.hg_marker.specs.Fields.{Fields}
use Rattle.hg_phases.specs.declared.phase.Phase.{Phase}
use Rattle.hg_obsstore.specs.Spelling.{store_spelling}
use Rattle.hg_message.specs.declared.scope.Scope.{Scope}
use Rattle.hg_message.specs.declared.error.MessageError.{MessageError}
use Rattle.hg_message.specs.declared.error.MessageError.TheVariants.{TooLarge}
use Rattle.hg_message.specs.Limits.{count_limit}

-- a scope, and records, bounds and markers, each in their order and as often as they came
pub record MessageValue : Type 0 where
  pub scope : Scope
  pub changesets : List Contents
  pub bounds : List (Node × Phase)
  pub markers : List Fields

-- four bytes can tell how many records and bounds there are, and how long the markers are as they are written
pub record IsMessage (m : MessageValue) : Type 0 where
  pub changesets : length m.changesets ≤ count_limit
  pub bounds : length m.bounds ≤ count_limit
  pub store : length (store_spelling m.markers) ≤ count_limit

-- one of these numbers is too large
abbrev pub is_too_large : MessageValue → Bool
is_too_large m = nat_lt count_limit (length m.changesets) || nat_lt count_limit
    (length m.bounds) || nat_lt count_limit (length (store_spelling m.markers))

-- the message of these, or that they are too many
abbrev pub message_of : MessageValue → Result MessageValue MessageError
message_of m = if is_too_large m then Err TooLarge else Ok m
