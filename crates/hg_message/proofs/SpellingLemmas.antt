-- The laws of what bytes say: offered to the laws of implementations above.
use Rattle.std.specs.Prelude.{◌≡◌, ℕ, List, Result, Ok, Err}
use Rattle.std.proofs.Common.{refl, sym, ◌∙◌}
use Rattle.hg_message.specs.declared.error.MessageFault.{MessageFault}
use Rattle.hg_message.specs.Value.{MessageValue}
use Rattle.hg_message.specs.Message.{message_at}
use Rattle.hg_message.specs.Spelling.{IsWritable, IsMessageSpelling, message_spelling}
use Rattle.hg_message.proofs.MessageLemmas.{spelled_is_read}
use Rattle.hg_message.proofs.WritingLemmas.{writable_spells}

-- what is spelled so is read
pub spelling_is_read : (m : MessageValue) (bytes : List ℕ) → IsMessageSpelling m bytes → message_at bytes ≡ Ok m
spelling_is_read m bytes s = spelled_is_read bytes m s

-- bytes say one message
pub said_once : (m n : MessageValue) (bytes : List ℕ) → message_at bytes ≡ Ok m → message_at bytes ≡ Ok n → m ≡ n
said_once m n bytes e f = same (sym e ∙ f)
  where
    same : ◌≡◌ {A = Result MessageValue MessageFault} (Ok m) (Ok n) → m ≡ n
    same e = cc

-- bytes that say a message have no fault
pub said_is_not_refused : (m : MessageValue) (fault : MessageFault) (bytes : List ℕ) → message_at bytes ≡ Ok m
    → message_at bytes ≡ Err fault → ⊥
said_is_not_refused m fault bytes e f = apart (sym e ∙ f)
  where
    apart : ◌≡◌ {A = Result MessageValue MessageFault} (Ok m) (Err fault) → ⊥
    apart e = cc

-- bytes say a message or have a fault
pub said_or_refused : (bytes : List ℕ) → ((m : MessageValue) → message_at bytes ≡ Ok m → ⊥)
    → ((fault : MessageFault) → message_at bytes ≡ Err fault → ⊥) → ⊥
said_or_refused bytes unsaid unrefused = by_answer (message_at bytes) unsaid unrefused
  where
    by_answer : (r : Result MessageValue MessageFault) → ((m : MessageValue) → r ≡ Ok m → ⊥)
        → ((fault : MessageFault) → r ≡ Err fault → ⊥) → ⊥
    by_answer (Ok m) unsaid unrefused = unsaid m refl
    by_answer (Err fault) unsaid unrefused = unrefused fault refl

-- what is written of a message says it
pub written_says : (m : MessageValue) → IsWritable m → message_at (message_spelling m) ≡ Ok m
written_says m h = spelled_is_read (message_spelling m) m (writable_spells m h)
