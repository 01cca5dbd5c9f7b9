-- A message whose parts still stand in bytes.
use Rattle.std.specs.Prelude.{◌≡◌, ℕ, ◌+◌, ◌<◌, ◌≤◌, ◌*◌, ◌^◌, ◌⊎◌, ◌==◌, List, length, Option, Result, Ok, Err}
use Rattle.std.specs.Prelude.{IsTrue, if◌then◌else◌}
use Rattle.hg_changeset.specs.declared.node.Node.{Node}
use Rattle.hg_changeset.specs.Contents.{Contents}
use Rattle.hg_marker.specs.Fields.{Fields}
use Rattle.hg_marker.specs.declared.error.ReadError.{ReadError}
use Rattle.hg_marker.specs.Reading.{IsRead, Fails}
use Rattle.hg_phases.specs.declared.phase.Phase.{Phase}
use Rattle.hg_obsstore.specs.Faults.{store_at}
use Rattle.hg_replica.specs.State.{ReplicaState}
use Rattle.hg_replica.specs.Least.{PartValue}
use Rattle.hg_message.specs.declared.error.MessageFault.{MessageFault}
use Rattle.hg_message.specs.declared.error.MessageFault.TheVariants.{Trailing}
use Rattle.hg_message.specs.declared.layout.Layout.{Layout}
use Rattle.hg_message.specs.declared.scope.Scope.{Scope}
use Rattle.hg_message.specs.Counted.{counted}
use Rattle.hg_message.specs.Record.{record_at}
use Rattle.hg_message.specs.Bound.{bound_at}
use Rattle.hg_message.specs.Message.{told_in}
use Rattle.hg_message.specs.Value.{MessageValue}
use Rattle.hg_message.specs.Limits.{count_limit}
use Rattle.hg_message.specs.Part.{part_of}
use Rattle.hg_message.specs.Known.{AreKnownAt, rest_of}

-- what the bytes of the records say, and those of the bounds
abbrev pub records_in : Layout → Result (List Contents × List ℕ) MessageFault
records_in l = counted (record_at l.total) 0 l.count l.records.now

abbrev pub bounds_in : Layout → Result (List (Node × Phase) × List ℕ) MessageFault
bounds_in l = counted (λ _. bound_at l.total) 0 l.entries l.bounds.now

-- what the store says, where nothing follows it
abbrev pub last_of : Result (List Fields) MessageFault → List ℕ → Result (List Fields) MessageFault
last_of (Ok markers) rest = if length rest == 0 then Ok markers else Err Trailing
last_of (Err fault) rest = Err fault

abbrev pub markers_in : Layout → Result (List Fields) MessageFault
markers_in l = last_of (told_in l.start (store_at l.store.now)) l.rest.now

-- the first of what was read, and then the others
abbrev pub with_read : {A B : Type 0} → Result (A × List ℕ) MessageFault → (A → Result B MessageFault)
    → Result B MessageFault
with_read (Ok x) f = f x.0
with_read (Err fault) f = Err fault

abbrev pub with_markers : Scope → List Contents → List (Node × Phase) → Result (List Fields) MessageFault
    → Result MessageValue MessageFault
with_markers scope changesets bounds (Ok markers) =
    Ok (record { scope = scope; changesets = changesets; bounds = bounds; markers = markers })
with_markers scope changesets bounds (Err fault) = Err fault

-- the message that the parts say
abbrev pub said : Layout → Result MessageValue MessageFault
said l = with_read (records_in l) (λ changesets. with_read (bounds_in l)
    (λ bounds. with_markers l.scope changesets bounds (markers_in l)))

-- records and bounds were read, and the store is no longer than its length tells, and has a place
pub record IsLayout (l : Layout) : Type 0 where
  pub records : IsRead (records_in l)
  pub bounds : IsRead (bounds_in l)
  pub short : length l.store.now ≤ count_limit
  pub within : l.start + length l.store.now < 2 ^ 64

-- the bytes that the parts take at least: 17 of the head and the numbers, without a byte for the scope, 64 of each
-- record and 24 of each bound
abbrev pub least_len : Layout → ℕ
least_len l = 17 + 64 * l.count + 24 * l.entries + length l.store.now

-- there is a record, a bound, or a store with a marker, which takes 26 bytes at least behind the version
abbrev pub HoldsSomething : Layout → Type 0
HoldsSomething l = (0 < l.count) ⊎ (0 < l.entries) ⊎ (26 < length l.store.now)

-- where the layout tells so, the changesets of all its records are known
abbrev pub KnowsRecords : Option ReplicaState → Layout → Type 0
KnowsRecords held l =
    IsTrue l.are_known → (x : List Contents × List ℕ) → records_in l ≡ Ok x → AreKnownAt held x.0

-- what reading a part gives: that of the message that the parts say, or what is left of it where all its changesets are
-- known; or the first fault. Memory can be wanting only for what is read
abbrev pub GivesPart : Layout → Result PartValue (ReadError MessageFault) → Type 0
GivesPart l (Ok part) =
    (m : MessageValue) × (said l ≡ Ok m) × ((part ≡ part_of m) ⊎ (IsTrue l.are_known × (part ≡ rest_of m)))
GivesPart l (Err e) = Fails e (said l)
