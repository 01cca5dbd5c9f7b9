-- What the commands and the lines of a script print.
use Rattle.std.specs.Prelude.{ℕ, ◌≡◌, ◌⊎◌, ◌↔◌, List, [], ◌++◌, codes, decimal, Bool, IsTrue}
use Rattle.std.specs.Prelude.{Contains, Option, Some, None, true, false, if◌then◌else◌}
use Rattle.std.specs.List.{flat_map}
use Rattle.hg_history.specs.declared.fault.Fault.{Fault}
use Rattle.hg_history.specs.Fault.{number as fault_number, name as fault_name}
use Rattle.hg_replica.specs.State.{IsSameState}
use Rattle.hg_view.specs.Kept.{KeptValue}
use Rattle.hg_world.specs.declared.event.EventRefusal.{EventRefusal}
use Rattle.hg_world.specs.declared.event.EventRefusal.TheVariants.{NoNode, NoMessage, ByActor, ByState}
use Rattle.hg_world.specs.declared.event.Answer.TheVariants.{Accepted, Offered, Marked, Refused}
use Rattle.hg_peer.specs.declared.refusal.PeerRefusal.{PeerRefusal}
use Rattle.hg_peer.specs.declared.refusal.PeerRefusal.TheVariants.{Rewrite, Offer, Message, View, NoMemory}
use Rattle.hg_peer.specs.Refusals.{peer_refusal_number, peer_refusal_text}
use Rattle.hg_line.specs.declared.command.Command.{Command}
use Rattle.hg_line.specs.declared.command.Command.TheVariants.{Report, Agree}
use Rattle.hg_line.specs.declared.fleet.Fleet.{Fleet}
use Rattle.hg_line.specs.declared.output.LineName.{LineName}
use Rattle.hg_line.specs.declared.output.LineName.TheVariants.{Number, Sentence}
use Rattle.hg_line.specs.declared.telling.Notes.{Notes}
use Rattle.hg_line.specs.Commands.{Text}
use Rattle.hg_line.specs.Endings.{Says}
use Rattle.hg_line.specs.Events.{Trace, PeerAnswer}
use Rattle.hg_line.specs.Reports.{line_of, IsReport}
use Rattle.hg_line.specs.Lines.{node_named, DoesLine}
use Rattle.hg_line.specs.Words.{words_of}

-- ---- refusals

-- how a refused line is called: by its number, or by a sentence
abbrev pub name_of : LineName → Text
name_of (Number line) = decimal line
name_of (Sentence line) = codes "hgfleet: line " ++ (decimal line ++ codes " was refused")

-- how the line is called, what refuses, and the refusal's number and name. Want of memory has no number, and no line
abbrev pub refusal_line : LineName → Text → Option ℕ → Text → Text
refusal_line line word None name = []
refusal_line line word (Some number) name =
    line_of (name_of line ++ (codes ": " ++ (word ++ (codes " " ++ (decimal number ++ (codes " " ++ name))))))

-- what refuses: an operation, an offer, the bytes of a message or a pin
abbrev pub refusing_word : PeerRefusal → Text
refusing_word (Rewrite refusal) = codes "rewrite"
refusing_word (Offer refusal) = codes "offer"
refusing_word (Message fault) = codes "message"
refusing_word (View refusal) = codes "view"
refusing_word NoMemory = codes "memory"

-- the line of a refused event: by the peer, or by its replica
abbrev pub refused_line : LineName → EventRefusal PeerRefusal Fault → Text
refused_line line NoNode = []
refused_line line NoMessage = []
refused_line line (ByActor refusal) =
    refusal_line line (refusing_word refusal) (peer_refusal_number refusal) (peer_refusal_text refusal)
refused_line line (ByState fault) = refusal_line line (codes "replica") (fault_number fault) (fault_name fault)

-- what is printed of an answer
abbrev pub answer_line : LineName → PeerAnswer → Text
answer_line line (Accepted change) = []
answer_line line (Offered message) = []
answer_line line Marked = []
answer_line line (Refused refusal) = refused_line line refusal

-- what is printed of answers, in order
abbrev pub answer_lines : LineName → List PeerAnswer → Text
answer_lines line answers = flat_map (answer_line line) answers

-- ---- commands

-- whether two replicas agree
abbrev pub agree_line : Text → Text → Bool → Text
agree_line one other answer =
    line_of (codes "agree " ++ one ++ codes " " ++ other ++ (if answer then codes ": yes" else codes ": no"))

-- what the command of the line with this number prints: a report; whether two replicas are in the same state, whatever
-- their nodes pin; and of any other command the refusals of its events
abbrev pub Prints : ℕ → Fleet → Command → Trace → Text → Type 0
Prints line f (Report at) t text =
    (state : KeptValue) × (node_named f at.now ≡ Some state) × IsReport at.now state text
Prints line f (Agree one other) t text =
    (first : KeptValue) × (second : KeptValue) × (answer : Bool) × (node_named f one.now ≡ Some first)
    × (node_named f other.now ≡ Some second) × (IsTrue answer ↔ IsSameState first.replica second.replica)
    × (text ≡ agree_line one.now other.now answer)
Prints line f command t text = text ≡ answer_lines (Number line) t.answers

-- ---- lines

-- a line of no words prints nothing, and any other what its command prints
abbrev pub PrintsLine : ℕ → Fleet → Text → Trace → Text → Type 0
PrintsLine number old line t text =
    ((words_of line ≡ []) × (text ≡ []))
    ⊎ ((command : Command) × Says line command × Prints number old command t text)

-- where lines are explained, a reason without a line end may stand behind the last one that is printed
abbrev pub IsExplained : Bool → Text → Text → Type 0
IsExplained false text explained = explained ≡ text
IsExplained true text explained =
    (explained ≡ text)
    ⊎ ((line : Text) × (reason : Text) × (text ≡ line_of line) × ¬ (Contains reason 10)
    × (explained ≡ line_of (line ++ reason)))

-- where lines are traced, one more may follow, a note without a line end
abbrev pub IsTraced : Bool → Text → Text → Type 0
IsTraced false text traced = traced ≡ text
IsTraced true text traced =
    (traced ≡ text) ⊎ ((note : Text) × ¬ (Contains note 10) × (traced ≡ text ++ line_of note))

-- what a line prints is written so with these notes
abbrev pub IsAnnotated : Notes → Text → Text → Type 0
IsAnnotated notes text written =
    (explained : Text) × IsExplained notes.explains text explained × IsTraced notes.traces explained written

-- what a line shows before its notes: what it prints, or, where refusals alone are told, a sentence for each
abbrev pub ShowsLine : Bool → ℕ → Fleet → Text → Trace → Text → Type 0
ShowsLine false number old line t text = PrintsLine number old line t text
ShowsLine true number old line t text = text ≡ answer_lines (Sentence number) t.answers

-- the line with this number is done, and what it shows is written so
abbrev pub WritesLine : Notes → ℕ → Fleet → Text → Trace → Fleet → Text → Type 0
WritesLine notes number old line t new written =
    DoesLine old line t new
    × ((text : Text) × ShowsLine notes.refusals_alone number old line t text × IsAnnotated notes text written)

-- nothing is explained or traced, so what is written of a line is what it prints
abbrev pub no_notes : Notes
no_notes = record { explains = false; traces = false; refusals_alone = false }
