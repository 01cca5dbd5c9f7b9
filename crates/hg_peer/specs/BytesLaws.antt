-- The laws of what a peer reads.
use Rattle.std.specs.Prelude.{◌≡◌, ℕ, List, refl}
use Rattle.std.proofs.Common.{sym, ap, ◌∙◌}
use Rattle.hg_join.specs.Order.{IsDue}
use Rattle.hg_replica.specs.Least.{PartValue}
use Rattle.hg_message.specs.Part.{part_of}
use Rattle.hg_message.proofs.SpellingLemmas.{said_once, said_is_not_refused, said_or_refused}
use Rattle.hg_peer.specs.declared.refusal.PeerRefusal.{PeerRefusal}
use Rattle.hg_peer.specs.declared.refusal.PeerRefusal.TheVariants.{Rewrite, Offer, Message, View, NoMemory}
use Rattle.hg_peer.specs.Peers.{SpellsPart, IsAgainstBytes, IsMemory}

pub spelled_once : (bytes : List ℕ) (p q : PartValue) → SpellsPart bytes p → SpellsPart bytes q → p ≡ q
spelled_once bytes p q h k = h.2 ∙ ap part_of (said_once h.0 k.0 bytes h.1 k.1) ∙ sym k.2

pub spelled_not_refused : (bytes : List ℕ) (p : PartValue) (refusal : PeerRefusal) → SpellsPart bytes p →
    IsAgainstBytes bytes refusal → ⊥
spelled_not_refused bytes p (Rewrite refusal) h k = k
spelled_not_refused bytes p (Offer refusal) h k = k
spelled_not_refused bytes p (Message fault) h k = said_is_not_refused h.0 fault bytes h.1 k
spelled_not_refused bytes p (View refusal) h k = k
spelled_not_refused bytes p NoMemory h k = k

pub memory_not_against_bytes : (bytes : List ℕ) (refusal : PeerRefusal) → IsMemory refusal →
    IsAgainstBytes bytes refusal → ⊥
memory_not_against_bytes bytes (Rewrite refusal) h k = k
memory_not_against_bytes bytes (Offer refusal) h k = k
memory_not_against_bytes bytes (Message fault) h k = cc
memory_not_against_bytes bytes (View refusal) h k = k
memory_not_against_bytes bytes NoMemory h k = k

pub bytes_due : (bytes : List ℕ) → IsDue (SpellsPart bytes) (IsAgainstBytes bytes)
bytes_due bytes f g = said_or_refused bytes (λ m e. f (part_of m) (m, e, refl)) (λ fault e. g (Message fault) e)
