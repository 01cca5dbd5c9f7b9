-- What a replica knows of a message already, and what is left of the message's part without that.
use Rattle.std.specs.Prelude.{◌≡◌, ◌≢◌, ◌⊎◌, ℕ, Option, Some, None, List, [], Contains, Result, Ok, Err}
use Rattle.hg_changeset.specs.Contents.{Contents}
use Rattle.hg_marker.specs.declared.error.ReadError.{ReadError}
use Rattle.hg_marker.specs.Reading.{Fails}
use Rattle.hg_phases.specs.declared.phase.Phase.TheVariants.{Secret}
use Rattle.hg_phases.specs.State.{Held}
use Rattle.hg_replica.specs.State.{ReplicaState}
use Rattle.hg_replica.specs.Least.{PartValue}
use Rattle.hg_message.specs.declared.error.MessageFault.{MessageFault}
use Rattle.hg_message.specs.Value.{MessageValue}
use Rattle.hg_message.specs.Message.{message_at}
use Rattle.hg_message.specs.Part.{part_of}

-- the changeset is held, and isn't secret
abbrev pub IsKnown : ReplicaState → Contents → Type 0
IsKnown s c = (h : Held) × Contains s.history.held h × (h.changeset ≡ c) × (h.phase ≢ Secret)

abbrev pub AreKnown : ReplicaState → List Contents → Type 0
AreKnown s cs = (c : Contents) → Contains cs c → IsKnown s c

-- the same, where there may be no replica, by which nothing is known
abbrev pub IsKnownAt : Option ReplicaState → Contents → Type 0
IsKnownAt (Some s) c = IsKnown s c
IsKnownAt None c = ⊥

abbrev pub AreKnownAt : Option ReplicaState → List Contents → Type 0
AreKnownAt held cs = (c : Contents) → Contains cs c → IsKnownAt held c

-- the part of the message without its changesets and their draft bounds
abbrev pub rest_of : MessageValue → PartValue
rest_of m = record { history = record { changesets = []; bounds = m.bounds }; markers = m.markers }

-- the part of the message; or, where the replica knows all its changesets, what is left without these
abbrev pub IsPartAt : ReplicaState → MessageValue → PartValue → Type 0
IsPartAt s m part = (part ≡ part_of m) ⊎ (AreKnown s m.changesets × (part ≡ rest_of m))

-- what reading bytes at the replica answers: a part of the message that they say, or their first fault; memory can be
-- wanting only where they say one
abbrev pub PartAnswer : ReplicaState → List ℕ → Result PartValue (ReadError MessageFault) → Type 0
PartAnswer s bytes (Ok part) = (m : MessageValue) × (message_at bytes ≡ Ok m) × IsPartAt s m part
PartAnswer s bytes (Err e) = Fails e (message_at bytes)
