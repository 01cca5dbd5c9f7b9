-- The bytes of a message, field by field.
use Rattle.std.specs.Prelude.{ℕ, ◌+◌, ◌==◌, List, length, Result, Ok, Err, if◌then◌else◌}
use Rattle.hg_marker.specs.Fields.{Fields}
use Rattle.hg_marker.specs.Reading.{Reader, ◌>>=◌, says, wants, yields, field, number, byte}
use Rattle.hg_obsstore.specs.declared.fault.StoreFault.{StoreFault}
use Rattle.hg_obsstore.specs.declared.fault.StoreFault.TheVariants as store
use Rattle.hg_obsstore.specs.Faults.{store_at}
use Rattle.hg_message.specs.declared.error.MessageFault.{MessageFault}
use Rattle.hg_message.specs.declared.error.MessageFault.TheVariants.{Truncated, BadMagic, BadVersion, BadMarker}
use Rattle.hg_message.specs.declared.error.MessageFault.TheVariants.{Trailing}
use Rattle.hg_message.specs.Place.{here, whole}
use Rattle.hg_message.specs.Scope.{is_version, scope_of}
use Rattle.hg_message.specs.Counted.{counted}
use Rattle.hg_message.specs.Record.{record_at}
use Rattle.hg_message.specs.Bound.{bound_at}
use Rattle.hg_message.specs.Value.{MessageValue}

-- HGFX as a number
abbrev pub magic_number : ℕ
magic_number = 0x48474658

-- a fault of the store that begins at this place, told with the place of its version byte or of the faulty marker
abbrev pub told_in : {A : Type 0} → ℕ → Result A StoreFault → Result A MessageFault
told_in start (Ok x) = Ok x
told_in start (Err (store.BadVersion v)) = Err (BadMarker start (store.BadVersion v))
told_in start (Err (store.Bad p cause)) = Err (BadMarker (start + p) (store.Bad p cause))

-- the store in so many bytes from this place on
abbrev pub store_in : ℕ → ℕ → Reader MessageFault (List Fields)
store_in len start = do
  bytes ← field (Truncated start) len
  markers ← yields (told_in start (store_at bytes))
  says markers

-- the message at the front of so many bytes
unfoldable pub parts_at : ℕ → Reader MessageFault MessageValue
parts_at total = do
  magic ← whole total number
  _ ← wants (magic == magic_number) BadMagic
  version ← whole total byte
  _ ← wants (is_version version) BadVersion
  scope ← scope_of total version
  count ← whole total number
  changesets ← counted (record_at total) 0 count
  entries ← whole total number
  bounds ← counted (λ _. bound_at total) 0 entries
  len ← whole total number
  markers ← here total (store_in len)
  says (record { scope = scope; changesets = changesets; bounds = bounds; markers = markers })

-- nothing follows
abbrev pub ended : {A : Type 0} → Result (A × List ℕ) MessageFault → Result A MessageFault
ended (Ok x) = if length x.1 == 0 then Ok x.0 else Err Trailing
ended (Err e) = Err e

-- the message that all of the bytes say, or the first fault from the front
abbrev pub message_at : List ℕ → Result MessageValue MessageFault
message_at bytes = ended (parts_at (length bytes) bytes)
