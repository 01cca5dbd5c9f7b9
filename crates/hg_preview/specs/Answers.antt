-- What is written of what messages were answered.
use Rattle.std.specs.Prelude.{◌≡◌, ◌++◌, ◌∷◌, [], ℕ, List, codes, decimal, length, map}
use Rattle.hg_log.specs.Drawings.{IsLine, Text}
use Rattle.hg_replica.specs.Change.{ChangeValue}
use Rattle.hg_trial.specs.declared.turned.Turned.{Turned}
use Rattle.hg_trial.specs.declared.tried.Answer.{Answer}
use Rattle.hg_trial.specs.declared.tried.Answer.TheVariants.{Taken, Refused}
use Rattle.hg_preview.specs.declared.messages.NamedMessage.{NamedMessage}
use Rattle.hg_preview.specs.Lines.{HasLinesOf, IsMovedText}

-- how many changesets and markers are new
abbrev pub counts_text : ℕ → ℕ → Text
counts_text changesets markers =
    decimal changesets ++ (codes " changesets " ++ (decimal markers ++ codes " markers"))

-- a line that ends with that
abbrev pub IsCountsLine : ChangeValue → Text → Type 0
IsCountsLine change text =
    (front : Text) × IsLine (front ++ counts_text (length change.added) (length change.markers)) text

-- what came to each kind that is told, and what went from it
pub record AreKindsText (turned : Turned) (text : Text) : Type 0 where
  pub orphan : Text
  pub phase_divergent : Text
  pub content_divergent : Text
  pub suspended : Text
  pub extinct : Text
  pub of_orphan : IsMovedText turned.orphan orphan
  pub of_phase_divergent : IsMovedText turned.phase_divergent phase_divergent
  pub of_content_divergent : IsMovedText turned.content_divergent content_divergent
  pub of_suspended : IsMovedText turned.suspended suspended
  pub of_extinct : IsMovedText turned.extinct extinct
  pub all : text ≡ orphan ++ (phase_divergent ++ (content_divergent ++ (suspended ++ extinct)))

-- a line with the counts, a line for each changeset whose phase went down, and what came to each kind and went from it
pub record IsTakenText (change : ChangeValue) (turned : Turned) (text : Text) : Type 0 where
  pub counts : Text
  pub lowered : Text
  pub kinds : Text
  pub of_counts : IsCountsLine change counts
  pub of_lowered : HasLinesOf change.lowered lowered
  pub of_kinds : AreKindsText turned kinds
  pub all : text ≡ counts ++ (lowered ++ kinds)

abbrev pub IsOneLine : Text → Type 0
IsOneLine text = (line : Text) × IsLine line text

-- what changed; or one line that says why nothing was taken
abbrev pub IsAnswerText : Answer → Text → Type 0
IsAnswerText (Taken change turned) text = IsTakenText change turned text
IsAnswerText (Refused refusal) text = IsOneLine text

-- what is written of answers, one after the other
abbrev pub AreAnswersText : List Answer → Text → Type 0
AreAnswersText [] text = text ≡ []
AreAnswersText (answer ∷ answers) text =
    (first : Text) × (others : Text) × IsAnswerText answer first × AreAnswersText answers others
    × (text ≡ first ++ others)

-- the bytes of messages
abbrev pub texts_of : List NamedMessage → List Text
texts_of messages = map (λ bytes. bytes.now) (map (λ message. message.bytes) messages)
