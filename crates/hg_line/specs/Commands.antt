-- The commands of a script: what the words of a line say, or the first fault that they show.
use Rattle.std.specs.Prelude.{ℕ, ◌≤◌, ◌≡◌, ◌≢◌, ◌+◌, List, [], ◌∷◌, length, take, drop, map, slice_get, codes, Contains}
use Rattle.std.specs.Prelude.{IfSome, Bool, if◌then◌else◌, Option, Some, None, Result, Ok, Err}
use denote.Bor.{Bor}
use Rattle.std.specs.List.{AllPass}
use Rattle.hg_phases.specs.Words.{phase_word}
use Rattle.hg_line.specs.Words.{is_name}
use Rattle.hg_line.specs.declared.command.Command.{Command}
use Rattle.hg_message.specs.declared.scope.Scope.{Scope}
use Rattle.hg_message.specs.declared.scope.Scope.TheVariants.{Served, Whole}
use Rattle.hg_line.specs.declared.command.Command.TheVariants.{Node, Operation as operation, Mark, Offer, Take}
use Rattle.hg_line.specs.declared.command.Command.TheVariants.{Pull, Report, Agree}
use Rattle.hg_line.specs.declared.marking.Marking.{Marking}
use Rattle.hg_line.specs.declared.marking.Marking.TheVariants.{Pin, Unpin}
use Rattle.hg_line.specs.declared.operation.Operation.{Operation}
use Rattle.hg_line.specs.declared.operation.Operation.TheVariants.{Commit, Amend, Split, Fold, Prune, Relocate}
use Rattle.hg_line.specs.declared.operation.Operation.TheVariants.{Advance}
use Rattle.hg_line.specs.declared.operation.Parents.{Parents}
use Rattle.hg_line.specs.declared.operation.Parents.TheVariants.{NoParent, One, Two}
use Rattle.hg_line.specs.declared.fault.LineFault.{LineFault}
use Rattle.hg_line.specs.declared.fault.LineFault.TheVariants.{UnknownCommand, WordCount, BadName, BadPhase}

abbrev pub Text : Type 0
Text = List ℕ

-- a word where it stands in its line
abbrev pub Word : Type 0
Word = Bor Text

abbrev pub texts : List Word → List Text
texts words = map (λ w. w.now) words

-- ---- what each command is spelled as

abbrev pub asked_word : Bool → Text
asked_word is_secret = if is_secret then codes "secret" else codes "draft"

abbrev pub parent_words : Parents → List Text
parent_words NoParent = []
parent_words (One p) = p.now ∷ []
parent_words (Two p q) = p.now ∷ q.now ∷ []

abbrev pub operation_words : Text → Operation → List Text
operation_words at (Commit new is_secret parents) =
    codes "commit" ∷ at ∷ new.now ∷ asked_word is_secret ∷ parent_words parents
operation_words at (Amend old new) = codes "amend" ∷ at ∷ old.now ∷ new.now ∷ []
operation_words at (Split old new) = codes "split" ∷ at ∷ old.now ∷ texts new.now
operation_words at (Fold new old) = codes "fold" ∷ at ∷ new.now ∷ texts old.now
operation_words at (Prune old) = codes "prune" ∷ at ∷ old.now ∷ []
operation_words at (Relocate old new parents) = codes "relocate" ∷ at ∷ old.now ∷ new.now ∷ parent_words parents
operation_words at (Advance label phase) = codes "phase" ∷ at ∷ label.now ∷ phase_word phase ∷ []

abbrev pub marking_words : Text → Marking → List Text
marking_words at (Pin label) = codes "pin" ∷ at ∷ label.now ∷ []
marking_words at (Unpin label) = codes "unpin" ∷ at ∷ label.now ∷ []

-- the first word of an offer of this scope
abbrev pub offer_word : Scope → Text
offer_word Served = codes "offer"
offer_word Whole = codes "whole"

-- and of a pull
abbrev pub pull_word : Scope → Text
pull_word Served = codes "pull"
pull_word Whole = codes "share"

-- the words of the line that says this command
abbrev pub words_of_command : Command → List Text
words_of_command (Node at) = codes "node" ∷ at.now ∷ []
words_of_command (operation at op) = operation_words at.now op
words_of_command (Mark at marking) = marking_words at.now marking
words_of_command (Offer scope at message labels) = offer_word scope ∷ at.now ∷ message.now ∷ texts labels.now
words_of_command (Take at message) = codes "take" ∷ at.now ∷ message.now ∷ []
words_of_command (Pull scope to from) = pull_word scope ∷ to.now ∷ from.now ∷ []
words_of_command (Report at) = codes "report" ∷ at.now ∷ []
words_of_command (Agree one other) = codes "agree" ∷ one.now ∷ other.now ∷ []

-- ---- the forms of lines

-- a command's first word, how many words follow it, and where among these a phase stands, and which; all others are
-- names
pub record Form : Type 0 where
  pub word : Text
  pub least : ℕ
  pub most : Option ℕ
  pub phase_at : Option ℕ
  pub phases : List Text

abbrev pub names_alone : Text → ℕ → Option ℕ → Form
names_alone word least most = record { word = word; least = least; most = most; phase_at = None; phases = [] }

abbrev pub node_form : Form
node_form = names_alone (codes "node") 1 (Some 1)

abbrev pub commit_form : Form
commit_form =
    record {
      word = codes "commit";
      least = 3;
      most = Some 5;
      phase_at = Some 2;
      phases =
          codes "draft" ∷ codes "secret" ∷ [];
    }

abbrev pub amend_form : Form
amend_form = names_alone (codes "amend") 3 (Some 3)

abbrev pub split_form : Form
split_form = names_alone (codes "split") 2 None

abbrev pub fold_form : Form
fold_form = names_alone (codes "fold") 2 None

abbrev pub prune_form : Form
prune_form = names_alone (codes "prune") 2 (Some 2)

abbrev pub relocate_form : Form
relocate_form = names_alone (codes "relocate") 3 (Some 5)

abbrev pub advance_form : Form
advance_form =
    record {
      word = codes "phase";
      least = 3;
      most = Some 3;
      phase_at = Some 2;
      phases =
          codes "public" ∷ codes "draft" ∷ codes "secret" ∷ [];
    }

abbrev pub pin_form : Form
pin_form = names_alone (codes "pin") 2 (Some 2)

abbrev pub unpin_form : Form
unpin_form = names_alone (codes "unpin") 2 (Some 2)

abbrev pub offer_form : Scope → Form
offer_form scope = names_alone (offer_word scope) 2 None

abbrev pub take_form : Form
take_form = names_alone (codes "take") 2 (Some 2)

abbrev pub pull_form : Scope → Form
pull_form scope = names_alone (pull_word scope) 2 (Some 2)

abbrev pub report_form : Form
report_form = names_alone (codes "report") 1 (Some 1)

abbrev pub agree_form : Form
agree_form = names_alone (codes "agree") 2 (Some 2)

-- ---- the faults of lines, in the order in which they are tried

abbrev pub IsAtMost : ℕ → Option ℕ → Type 0
IsAtMost n None = Unit {0}
IsAtMost n (Some most) = n ≤ most

-- as many words follow as the form takes
abbrev pub Fits : Form → List Word → Type 0
Fits form words = (form.least ≤ length words) × IsAtMost (length words) form.most

-- each of the words is a name
abbrev pub AllNames : List Word → Type 0
AllNames words = AllPass (λ w. is_name w.now) words

-- each word is a name but for the one at a place, if there is one
abbrev pub AreNamesBut : Option ℕ → List Word → Type 0
AreNamesBut None words = AllNames words
AreNamesBut (Some place) words = AllNames (take place words) × AllNames (drop (place + 1) words)

-- each word in a name's place is a name
abbrev pub AreNames : Form → List Word → Type 0
AreNames form words = AreNamesBut form.phase_at words

-- the word at the place, if there is one, is among the phases
abbrev pub IsPhaseAt : Option ℕ → List Text → List Word → Type 0
IsPhaseAt None phases words = Unit {0}
IsPhaseAt (Some place) phases words = IfSome (slice_get words place) (λ w. Contains phases w.now)

-- the word in a phase's place is a phase that the form takes
abbrev pub HasPhase : Form → List Word → Type 0
HasPhase form words = IsPhaseAt form.phase_at form.phases words

-- what is answered to a line whose first word is the form's, and these words after it
abbrev pub FormAnswer : Form → List Word → Result Command LineFault → Type 0
FormAnswer form words (Ok command) = (words_of_command command ≡ form.word ∷ texts words) × AreNames form words
FormAnswer form words (Err WordCount) = ¬ (Fits form words)
FormAnswer form words (Err BadName) = Fits form words × ¬ (AreNames form words)
FormAnswer form words (Err BadPhase) = Fits form words × AreNames form words × ¬ (HasPhase form words)
FormAnswer form words (Err _) = ⊥

-- no operation begins with this word
abbrev pub IsNoOperation : Text → Type 0
IsNoOperation word =
    (word ≢ codes "commit") × (word ≢ codes "amend") × (word ≢ codes "split") × (word ≢ codes "fold")
    × (word ≢ codes "prune") × (word ≢ codes "relocate") × (word ≢ codes "phase")

-- what is answered to a line with this first word, by the operation that it names, if there is one
abbrev pub OperationAnswer : Text → List Word → Result Command LineFault → Type 0
OperationAnswer word words result =
    (word ≡ codes "commit" → FormAnswer commit_form words result)
    × (word ≡ codes "amend" → FormAnswer amend_form words result)
    × (word ≡ codes "split" → FormAnswer split_form words result)
    × (word ≡ codes "fold" → FormAnswer fold_form words result)
    × (word ≡ codes "prune" → FormAnswer prune_form words result)
    × (word ≡ codes "relocate" → FormAnswer relocate_form words result)
    × (word ≡ codes "phase" → FormAnswer advance_form words result)
    × (IsNoOperation word → result ≡ Err UnknownCommand)

-- no command but an operation begins with this word
abbrev pub IsOther : Text → Type 0
IsOther word =
    (word ≢ codes "node") × (word ≢ codes "pin") × (word ≢ codes "unpin") × (word ≢ codes "offer")
    × (word ≢ codes "whole") × (word ≢ codes "take") × (word ≢ codes "pull") × (word ≢ codes "share")
    × (word ≢ codes "report") × (word ≢ codes "agree")

-- what is answered to a line with this first word and these after it, by the command that the first word names
abbrev pub LineAnswer : Text → List Word → Result Command LineFault → Type 0
LineAnswer word words result =
    (word ≡ codes "node" → FormAnswer node_form words result)
    × (word ≡ codes "pin" → FormAnswer pin_form words result)
    × (word ≡ codes "unpin" → FormAnswer unpin_form words result)
    × (word ≡ codes "offer" → FormAnswer (offer_form Served) words result)
    × (word ≡ codes "whole" → FormAnswer (offer_form Whole) words result)
    × (word ≡ codes "take" → FormAnswer take_form words result)
    × (word ≡ codes "pull" → FormAnswer (pull_form Served) words result)
    × (word ≡ codes "share" → FormAnswer (pull_form Whole) words result)
    × (word ≡ codes "report" → FormAnswer report_form words result)
    × (word ≡ codes "agree" → FormAnswer agree_form words result)
    × (IsOther word → OperationAnswer word words result)

-- a line without words says nothing; any other says the command whose words they are, or is at fault
abbrev pub CommandAnswer : List Word → Result (Option Command) LineFault → Type 0
CommandAnswer words (Ok None) = words ≡ []
CommandAnswer words (Ok (Some command)) = (word : Word) × (rest : List Word) × (words ≡ word ∷ rest)
    × LineAnswer word.now rest (Ok command)
CommandAnswer words (Err fault) = (word : Word) × (rest : List Word) × (words ≡ word ∷ rest)
    × LineAnswer word.now rest (Err fault)
