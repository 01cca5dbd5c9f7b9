-- What taking bytes in says, by what reading them and absorbing their part say.
use Rattle.std.proofs.Common.{◌≡◌, ◌⊎◌, ◌<◌, ℕ, List, length, Result, Ok, Err, inl, inr, refl, sym, subst, ◌∙◌}
use Rattle.std.specs.Prelude.{IfOk, IfErr, OnOk, OnErr, IsErrOf, MatchResult}
use Rattle.hg_history.specs.declared.fault.Fault.{Fault}
use Rattle.hg_history.specs.declared.fault.Fault.TheVariants as fault
use Rattle.hg_marker.specs.declared.error.ReadError.{ReadError}
use Rattle.hg_marker.specs.declared.error.ReadError.TheVariants as reading
use Rattle.hg_marker.specs.Reading.{Fails}
use Rattle.hg_replica.specs.State.{IsValid}
use Rattle.hg_replica.specs.Least.{PartValue}
use Rattle.hg_replica.specs.Change.{ChangeValue}
use Rattle.hg_replica.specs.Answer.{AbsorbAnswer, IsGrowthBeforeFault}
use Rattle.hg_replica.specs.Content.{content_of, IsValidContent, ContentAfter, IsContentFault}
use Rattle.hg_replica.proofs.ContentLemmas.{absorbed-content, refused-content, absorbed-told, unchanged, content-valid}
use Rattle.hg_view.specs.Kept.{KeptValue}
use Rattle.hg_message.specs.declared.error.MessageFault.{MessageFault}
use Rattle.hg_message.specs.Value.{MessageValue}
use Rattle.hg_message.specs.Message.{message_at}
use Rattle.hg_message.specs.Part.{part_of as message_part}
use Rattle.hg_message.specs.Known.{PartAnswer}
use Rattle.hg_message.proofs.KnownLemmas.{part-answered, part-grown}
use Rattle.hg_peer.specs.declared.refusal.PeerRefusal.{PeerRefusal}
use Rattle.hg_peer.specs.Refusals.{message_refusal}
use Rattle.hg_peer.specs.Marks.{Tells}
use Rattle.hg_peer.specs.Peers.{SpellsPart, IsAgainstBytes, IsMemory, TakesBytes}
use Rattle.hg_peer.proofs.PeerLemmas.{told-peer, unchanged-peer}

module _ (s t : KeptValue) (bytes : List ℕ) where
  -- a part that was read is absorbed as the whole
  pub part_taken : (part : PartValue) (answer : Result ChangeValue Fault) → IsValid s.replica →
      PartAnswer s.replica bytes (Ok part) → AbsorbAnswer s.replica part answer t.replica →
      (IsErrOf answer fault.NoMemory → IsGrowthBeforeFault s.replica part) → t.pins ≡ s.pins →
      TakesBytes s bytes (Ok answer) t
  part_taken part answer valid read absorbed memory pins = (
    read.0,
    read.1,
    part-answered s.replica t.replica read.0 part answer valid read.2 absorbed,
    λ wanting. part-grown s.replica read.0 part valid read.2 (memory wanting),
    pins,
  )

  -- bytes that were refused
  pub none_taken : (r : Result MessageValue MessageFault) (error : ReadError MessageFault) (told : PeerRefusal) →
      message_at bytes ≡ r → told ≡ message_refusal error → Fails error r →
      (error ≡ reading.NoMemory → 40 < length bytes) → t ≡ s → TakesBytes s bytes (Err told) t
  none_taken (Ok m) reading.NoMemory told is says fails long same = (inr (says, (long refl, (m, is))), same)
  none_taken (Err other) reading.NoMemory told is says fails long same = absurd fails
  none_taken r (reading.Fault found) told is says fails long same =
      (inl (subst (IsAgainstBytes bytes) (sym says) (is ∙ fails)), same)

  pub take_taken : (r : Result (Result ChangeValue Fault) PeerRefusal) → IfOk r (λ answer. IsValid s.replica) →
      TakesBytes s bytes r t →
      IfOk r (λ answer. (part : PartValue) × SpellsPart bytes part × MatchResult answer
      (λ change. ContentAfter (content_of s.replica) part (content_of t.replica) × Tells s part change t)
      (λ cause. (IsContentFault (content_of s.replica) part cause ⊎ (cause ≡ fault.NoMemory)) × (t ≡ s)))
  take_taken (Ok (Ok change)) valid h =
      let part = message_part h.0 in (
        part,
        (h.0, h.1, refl),
        (
          absorbed-content s.replica t.replica part (Ok change) valid h.2,
          told-peer s t part {F = Fault} (Ok change) h.4 (absorbed-told s.replica t.replica part (Ok change) h.2),
        ),
      )
  take_taken (Ok (Err cause)) valid h =
      let part = message_part h.0 in (
        part,
        (h.0, h.1, refl),
        (
          refused-content s.replica t.replica part (Err cause) valid h.2,
          unchanged-peer s t {T = ChangeValue} (Err cause) h.4
              (unchanged s.replica t.replica part (Err cause) h.2),
        ),
      )
  take_taken (Err refusal) valid h = tt

  pub take_valid : (r : Result (Result ChangeValue Fault) PeerRefusal) → IfOk r (λ answer. IsValid s.replica) →
      IfOk r (λ answer. OnOk answer (IsValidContent (content_of s.replica)))
  take_valid (Ok (Ok change)) valid = content-valid s.replica valid
  take_valid (Ok (Err cause)) valid = tt
  take_valid (Err refusal) valid = tt

  pub take_err : (r : Result (Result ChangeValue Fault) PeerRefusal) → TakesBytes s bytes r t →
      IfErr r (λ refusal. IsAgainstBytes bytes refusal ⊎ IsMemory refusal)
  take_err (Ok answer) h = tt
  take_err (Err refusal) h = elim h.0 [ inl x ↦ inl x | inr x ↦ inr x.0 ]

  pub take_unchanged : (r : Result (Result ChangeValue Fault) PeerRefusal) → TakesBytes s bytes r t → OnErr r (t ≡ s)
  take_unchanged (Ok answer) h = tt
  take_unchanged (Err refusal) h = h.1
