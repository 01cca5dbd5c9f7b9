-- Single events, single commands, and single lines.
use Rattle.std.proofs.Common.{◌≡◌, ◌↔◌, ℕ, List, [], ◌∷◌, ◌++◌, Option, Some, Bool, true, false, IsTrue}
use Rattle.std.proofs.Common.{is_some, ◌≤◌, inl, length, map}
use Rattle.std.proofs.Common.{Result, Ok, Err, OnOk, IfOk}
use Rattle.std.proofs.Common.{refl, sym, ap, subst, ◌∙◌}
use Rattle.std.proofs.KnownBytes.{Appends-nil, Appends-trans}
use Rattle.std.proofs.lemmas.List.{append-nil}
use Rattle.std.proofs.lemmas.Result.{on_ok_weaker}
use Rattle.hg_replica.specs.State.{IsSameState}
use Rattle.hg_replica.specs.Least.{PartValue}
use Rattle.hg_view.specs.Kept.{KeptValue}
use Rattle.hg_world.specs.Runs.{Snapshot, Happens}
use Rattle.hg_peer.specs.Words.{peer_state, peer_words}
use Rattle.hg_message.specs.declared.scope.Scope.{Scope}
use Rattle.hg_fleet.specs.Pulls.{Pulls, asking, taken}
use Rattle.hg_world.specs.declared.event.Event.TheVariants as event
use Rattle.hg_line.specs.declared.command.Command.{Command}
use Rattle.hg_line.specs.declared.command.Command.TheVariants.{Node as node, Operation as operation, Mark, Offer}
use Rattle.hg_line.specs.declared.command.Command.TheVariants.{Take, Pull, Report, Agree}
use Rattle.hg_line.specs.declared.fleet.Fleet.{Fleet}
use Rattle.hg_line.specs.declared.output.LineName.{LineName}
use Rattle.hg_line.specs.declared.output.LineName.TheVariants.{Number}
use Rattle.hg_line.specs.declared.telling.Notes.{Notes}
use Rattle.hg_line.specs.declared.line_outcome.LineOutcome.{LineOutcome}
use Rattle.hg_line.specs.declared.line_outcome.LineOutcome.TheVariants.{Nothing}
use Rattle.hg_line.specs.Commands.{Text, Word}
use Rattle.hg_line.specs.Limits.{line_limit}
use Rattle.hg_line.specs.Events.{Trace, PeerEvent, PeerAnswer, ArePrinted, no_trace, Ran}
use Rattle.hg_line.specs.Outputs.{Printed}
use Rattle.hg_line.specs.Printing.{answer_line, answer_lines, agree_line, Prints, PrintsLine}
use Rattle.hg_line.specs.Printing.{ShowsLine, WritesLine, no_notes}
use Rattle.hg_line.proofs.NoteLemmas.{same_explained, same_traced}
use Rattle.hg_line.specs.Reports.{IsReport}
use Rattle.hg_line.specs.Lines.{places, node_named, Does, DoesLine}
use Rattle.hg_line.specs.Outcomes.{IsAnswered, IsAskedOf, IsDone, Shows, outcome_answers}
use Rattle.hg_line.specs.Words.{words_of}

-- ---- one event

-- the event alone, what it was answered, and what it brought
abbrev pub one : PeerEvent → PeerAnswer → Option PartValue → Trace
one event answer part = record { events = event ∷ []; answers = answer ∷ []; parts = part ∷ [] }

-- an event, and then what came after it without an event
pub ran_after : (old mid new : Snapshot KeptValue) (event : PeerEvent) (answer : PeerAnswer)
    → (part : Option PartValue) × Happens peer_state peer_words old event answer part mid → new ≡ mid
    → (t : Trace) × Ran old t new
ran_after old mid new event answer (part, h) same = (one event answer part, (mid, h, same))

-- a pull, by its answers
pub pulls : (old : Fleet) (scope : Scope) (to from : Word) (giver taker : ℕ) (answers : List PeerAnswer) (new : Fleet)
    → places old from.now ≡ Some giver → places old to.now ≡ Some taker
    → Pulls old.world taker giver scope answers new.world → ArePrinted answers
    → new.nodes ≡ old.nodes → new.labels ≡ old.labels → new.messages ≡ old.messages
    → (t : Trace) × (answers ≡ t.answers) × Does old (Pull scope to from) t new
pulls old scope to from giver taker answers new at_from at_to p printed nodes labels messages = (
  record {
    events = event.Offer giver (asking scope p.common) ∷ taken taker answers;
    answers = answers;
    parts = p.parts;
  },
  refl,
  record {
    asked = (giver, taker, p.common, at_from, at_to, p.left_out, refl);
    ran = p.ran;
    printed = printed;
    named = (nodes, labels, messages);
  },
)

-- the same, where it ends the script
pub pulls_ran : (old : Snapshot KeptValue) (taker giver : ℕ) (scope : Scope) (answers : List PeerAnswer)
    (new : Snapshot KeptValue) → Pulls old taker giver scope answers new → (t : Trace) × Ran old t new
pulls_ran old taker giver scope answers new p = (
  record {
    events = event.Offer giver (asking scope p.common) ∷ taken taker answers;
    answers = answers;
    parts = p.parts;
  },
  p.ran,
)

-- ---- what a command shows

-- the line of an answer alone
pub one_line : {T E : Type 0} (line : LineName) (answer : PeerAnswer) (held holds : Option Text) (r : Result T E)
    → OnOk r (Printed held (answer_line line answer) holds)
    → OnOk r (Printed held (answer_lines line (answer ∷ [])) holds)
one_line line answer held holds r h =
    on_ok_weaker r (subst (λ (u : Text). Printed held u holds) (sym (append-nil (answer_line line answer)))) h

-- and after another
pub next_line : {T E : Type 0} (line : LineName) (first answer : PeerAnswer) (held between holds : Option Text)
    (r : Result T E) → Printed held (answer_line line first) between
    → OnOk r (Printed between (answer_line line answer) holds)
    → OnOk r (Printed held (answer_lines line (first ∷ answer ∷ [])) holds)
next_line line first answer held between holds r grew h =
    on_ok_weaker r
    (λ (more : Printed between (answer_lines line (answer ∷ [])) holds).
    Appends-trans held between holds (answer_line line first) (answer_lines line (answer ∷ [])) grew more)
    (one_line line answer between holds r h)

-- what was shown, where nothing was answered
alone : (line : LineName) (t : Trace) (text : Text) → t.answers ≡ [] → text ++ answer_lines line t.answers ≡ text
alone line t text none = ap (λ (answers : List PeerAnswer). text ++ answer_lines line answers) none ∙ append-nil text

-- a command that shows nothing
pub quiet : {E : Type 0} (old : Fleet) (command : Command) (new : Fleet) (held : Option Text) (r : Result LineOutcome E)
    → ((t : Trace) → Shows old command t []) → IfOk r (λ outcome. IsAskedOf old command outcome new)
    → IfOk r (λ outcome. IsAnswered old command outcome new held held)
quiet old command new held (Ok outcome) shows (t, is, does) = (t, [], is, does, shows t, Appends-nil held)
quiet old command new held (Err e) shows h = tt

-- what a command shows, and then the refusals of its events, are what it prints
prints_shown : (line : ℕ) (f : Fleet) (command : Command) (t : Trace) (text : Text) → Shows f command t text
    → Prints line f command t (text ++ answer_lines (Number line) t.answers)
prints_shown line f (node at) t text e = ap (λ (u : Text). u ++ answer_lines (Number line) t.answers) e
prints_shown line f (operation at op) t text e = ap (λ (u : Text). u ++ answer_lines (Number line) t.answers) e
prints_shown line f (Mark at marking) t text e = ap (λ (u : Text). u ++ answer_lines (Number line) t.answers) e
prints_shown line f (Offer scope at message labels) t text e =
    ap (λ (u : Text). u ++ answer_lines (Number line) t.answers) e
prints_shown line f (Take at message) t text e = ap (λ (u : Text). u ++ answer_lines (Number line) t.answers) e
prints_shown line f (Pull scope to from) t text e = ap (λ (u : Text). u ++ answer_lines (Number line) t.answers) e
prints_shown line f (Report at) t text (none, (state, there, report)) =
    (state, there, subst (IsReport at.now state) (sym (alone (Number line) t text none)) report)
prints_shown line f (Agree one other) t text (none, (first, second, answer, there, too, same, is)) =
    (first, second, answer, there, too, same, alone (Number line) t text none ∙ is)

pub done : (line : ℕ) (old : Fleet) (command : Command) (outcome : LineOutcome) (new : Fleet)
    (held between holds : Option Text)
    → IsAnswered old command outcome new held between
    → Printed between (answer_lines (Number line) (outcome_answers outcome)) holds
    → IsDone line old command outcome new held holds
done line old command outcome new held between holds (t, text, is, does, shows, grew) more = (
  t,
  text ++ answer_lines (Number line) t.answers,
  is,
  does,
  prints_shown line old command t text shows,
  Appends-trans held between holds text (answer_lines (Number line) t.answers) grew
      (subst (λ (answers : List PeerAnswer). Printed between (answer_lines (Number line) answers) holds) is more),
)

pub reported : (f : Fleet) (at : Word) (state : KeptValue) (held holds : Option Text)
    → node_named f at.now ≡ Some state → (text : Text) × IsReport at.now state text × Printed held text holds
    → IsAnswered f (Report at) Nothing f held holds
reported f at state held holds there (text, report, grew) = (
  no_trace,
  text,
  refl,
  record { asked = (ap is_some there, refl); ran = refl; printed = tt; named = (refl, refl, refl) },
  (refl, (state, there, report)),
  grew,
)

pub agreed : (f : Fleet) (one other : Word) (first second : KeptValue) (answer : Bool)
    (held holds : Option Text) → node_named f one.now ≡ Some first → node_named f other.now ≡ Some second
    → IsTrue answer ↔ IsSameState first.replica second.replica
    → Printed held (agree_line one.now other.now answer) holds
    → IsAnswered f (Agree one other) Nothing f held holds
agreed f one other first second answer held holds there too same grew = (
  no_trace,
  agree_line one.now other.now answer,
  refl,
  record {
    asked = (ap is_some there, ap is_some too, refl);
    ran = refl;
    printed = tt;
    named = (refl, refl, refl);
  },
  (refl, (first, second, answer, there, too, same, refl)),
  grew,
)

-- ---- what lines print

-- a line without notes is written as it is printed
pub bare_line : (number : ℕ) (old : Fleet) (line : Text) (t : Trace) (new : Fleet) (text : Text)
    → DoesLine old line t new
    → PrintsLine number old line t text → WritesLine no_notes number old line t new text
bare_line number old line t new text does prints = (does, (text, prints, (text, refl, refl)))

-- a line of no words shows nothing
none_shown : (alone : Bool) (number : ℕ) (old : Fleet) (line : Text) → words_of line ≡ []
    → ShowsLine alone number old line no_trace []
none_shown false number old line none = inl (none, refl)
none_shown true number old line none = refl

-- a line of no words is written as nothing
pub wordless_line : (notes : Notes) (number : ℕ) (old : Fleet) (line : Text) (words : List Word)
    → length line ≤ line_limit → map (λ (w : Word). w.now) words ≡ words_of line → words ≡ []
    → WritesLine notes number old line no_trace old []
wordless_line notes number old line words short mapped none = (
  (short, (words, mapped, inl (none, refl, refl))),
  (
    [],
    none_shown notes.refusals_alone number old line (sym mapped ∙ ap (map (λ (w : Word). w.now)) none),
    ([], same_explained notes.explains [], same_traced notes.traces []),
  ),
)
