-- What reading takes memory for.
use Rattle.std.proofs.Common.{◌≡◌, ◌<◌, ◌≤◌, ◌++◌, ℕ, List, [], ◌∷◌, length, Result, Ok, Err, refl, sym, ap, ◌∙◌, arith}
use Rattle.std.proofs.Common.{length-append}
use Rattle.std.specs.Prelude.{IsErrOf, OnErr}
use Rattle.hg_changeset.specs.Changeset.{node_of}
use Rattle.hg_changeset.specs.Contents.{Contents}
use Rattle.hg_marker.specs.declared.error.ReadError.{ReadError}
use Rattle.hg_marker.specs.declared.error.ReadError.TheVariants as reading
use Rattle.hg_marker.specs.Reading.{Fails}
use Rattle.hg_replica.specs.Least.{PartValue}
use Rattle.hg_message.specs.declared.error.MessageFault.{MessageFault}
use Rattle.hg_message.specs.Value.{MessageValue}
use Rattle.hg_message.specs.Message.{magic_number}
use Rattle.hg_message.specs.Spelling.{IsRecord, IsMessageSpelling, InOrder, number}
use Rattle.hg_peer.specs.declared.refusal.PeerRefusal.{PeerRefusal}
use Rattle.hg_peer.specs.declared.refusal.PeerRefusal.TheVariants.{Message, NoMemory}
use Rattle.hg_peer.specs.Refusals.{message_refusal}

-- ---- a message with a changeset has more than 40 bytes

record-long : (c : Contents) (bytes : List ℕ) → IsRecord c bytes → 60 ≤ length bytes
record-long c bytes s = omega (
  arith,
  ap length s.layout,
  s.ids.0.0,
  s.ids.1.0,
  s.ids.2.0,
  length-append (node_of c).0 (s.p.0 ++ (s.q.0 ++ (number (length s.text) ++ s.text))),
  length-append s.p.0 (s.q.0 ++ (number (length s.text) ++ s.text)),
  length-append s.q.0 (number (length s.text) ++ s.text),
)

records-long : (cs : List Contents) (bytes : List ℕ) → InOrder IsRecord cs bytes → 0 < length cs → 40 < length bytes
records-long [] bytes h some = absurd (omega arith)
records-long (c ∷ cs) bytes h some =
    omega (arith, ap length h.4, length-append h.0 h.1, record-long c h.0 h.2)

pub message-long : (m : MessageValue) (bytes : List ℕ) → IsMessageSpelling m bytes → 0 < length m.changesets →
    40 < length bytes
message-long m bytes s some =
    let store = number (length s.store) ++ s.store in
    let bounds = number (length m.bounds) ++ (s.entries ++ store) in
    let counted = number (length m.changesets) ++ (s.records ++ bounds) in
    omega (
      arith,
      records-long m.changesets s.records s.changesets some,
      ap length s.layout,
      length-append (number magic_number) (s.head ++ counted),
      length-append s.head counted,
      length-append (number (length m.changesets)) (s.records ++ bounds),
      length-append s.records bounds,
    )

-- ---- want of memory, as a peer tells it

same_error : (told other : PeerRefusal) → ◌≡◌ {A = Result PartValue PeerRefusal} (Err told) (Err other) → told ≡ other
same_error told other e = cc

-- what is so of an error is so where there is one
pub of_error : {A E P : Type 0} (r : Result A E) (e : E) → r ≡ Err e → OnErr r P → P
of_error (Ok x) e is h = absurd cc
of_error (Err f) e is h = h

-- bytes that aren't read for want of memory say a message
pub read-memory : (r : Result MessageValue MessageFault) (error : ReadError MessageFault) (told : PeerRefusal)
    {P : Type 0} → told ≡ message_refusal error → Fails error r → (error ≡ reading.NoMemory → P) →
    IsErrOf {T = PartValue} (Err told) NoMemory → P × ((m : MessageValue) × (r ≡ Ok m))
read-memory (Ok m) reading.NoMemory told is fails long e = (long refl, (m, refl))
read-memory (Ok m) (reading.Fault other) told is fails long e = absurd cc
read-memory (Err fault) reading.NoMemory told is fails long e = absurd fails
read-memory (Err fault) (reading.Fault other) told is fails long e =
    let same : Message other ≡ NoMemory = sym is ∙ same_error told NoMemory e in absurd cc
