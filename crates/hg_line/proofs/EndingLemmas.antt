-- What ends a script at a line: the faults of names, and of lines.
use Rattle.std.proofs.Common.{◌≡◌, ◌⊎◌, inl, inr, ℕ, ◌+◌, ◌≤◌, ◌<◌, List, [], ◌∷◌, length, get_or, slice_get}
use Rattle.std.proofs.Common.{Bool, true, false, IsTrue, Option, Some, None, IsSome, is_some, IfSome}
use Rattle.std.proofs.Common.{Result, Ok, Err, IfErr, refl, sym, ap, subst, ◌∙◌, arith, zero, suc}
use Rattle.std.proofs.Common.{true≢false, count_by, cond, map, ◌≢◌, ◌==◌, OnErr}
use Rattle.std.specs.List.{AllByRecursion}
use Rattle.std.specs.Option.{option_and_then, option_copied}
use Rattle.std.proofs.lemmas.List.{append-nil, length-map}
use Rattle.std.proofs.lemmas.List.Sums.{sum_by-append}
use Rattle.std.proofs.lemmas.Bool.{cases_lt}
use Rattle.std.proofs.lemmas.Option.{same_Some}
use mathlib.Core.Logic.{⊎_elim}
use denote.Bor.{Bor}
use Rattle.hg_changeset.specs.declared.node.Node.{Node}
use Rattle.hg_graph.specs.Graph.{nodes}
use Rattle.hg_replica.specs.Least.{PartValue}
use Rattle.hg_view.specs.Kept.{KeptValue}
use Rattle.hg_rewrite.specs.declared.op.Op.{Op}
use Rattle.hg_world.specs.Runs.{Snapshot, Happens}
use Rattle.hg_world.specs.declared.event.Event.TheVariants as event
use Rattle.hg_message.specs.declared.scope.Scope.{Scope}
use Rattle.hg_peer.specs.declared.ask.Ask.{Ask}
use Rattle.hg_world.specs.declared.event.Answer.TheVariants.{Accepted, Offered, Marked, Refused}
use Rattle.hg_peer.specs.declared.mark.Mark.{Mark as PeerMark}
use Rattle.hg_fleet.specs.Pulls.{IsNowhere, IsOneAbsent, TellsAbsence}
use Rattle.hg_fleet.proofs.PullLemmas.{nowhere}
use Rattle.hg_peer.specs.Peers.{Decides}
use Rattle.hg_peer.specs.Words.{peer_words, peer_state}
use Rattle.hg_line.specs.declared.command.Command.{Command}
use Rattle.hg_line.specs.declared.command.Command.TheVariants.{Node as node, Operation as operation, Mark, Offer}
use Rattle.hg_line.specs.declared.command.Command.TheVariants.{Take, Pull, Report, Agree}
use Rattle.hg_line.specs.declared.operation.Operation.{Operation}
use Rattle.hg_line.specs.declared.command_fault.CommandFault.{CommandFault}
use Rattle.hg_line.specs.declared.command_fault.CommandFault.TheVariants as ends
use Rattle.hg_line.specs.declared.command_fault.CommandFault.TheVariants.{Name}
use Rattle.hg_line.specs.declared.fault.LineFault.{LineFault}
use Rattle.hg_line.specs.declared.fault.LineFault.TheVariants.{TooLong, UnknownCommand, WordCount, BadName, BadPhase}
use Rattle.hg_line.specs.declared.fault.LineFault.TheVariants.{UnknownName, NameTaken}
use Rattle.hg_line.specs.declared.fault.RunFault.{RunFault}
use Rattle.hg_line.specs.declared.fault.RunFault.TheVariants.{Line, ScriptTooLong, Read, Write, NoMemory}
use Rattle.hg_line.specs.declared.fleet.Fleet.{Fleet}
use Rattle.hg_line.specs.declared.telling.Notes.{Notes}
use Rattle.hg_line.specs.Commands.{Text, Word, texts, CommandAnswer, LineAnswer}
use Rattle.hg_line.specs.Endings.{UsesUnknown, AreLabelsFree, IsTakenFault, IsNodeFault, IsNameFault, PrintsSome}
use Rattle.hg_line.specs.Endings.{IsCommandFault, IsFaultOf, IsLeftBy, HasWords, Says, IsLineFault, IsOfLine, EndsAt}
use Rattle.hg_line.specs.Endings.{AreWanting, StaysAtLine, StaysAtName, WantsMemory}
use Rattle.hg_line.specs.Events.{Trace, PeerAnswer, PeerEvent, Ran, no_trace, Meaning, HasUnknown, IsUnknownWhere}
use Rattle.hg_line.specs.Events.{IsOperation, TellAbsence, brought, is_refusal, new_labels, refusals}
use Rattle.hg_line.specs.Faults.{at_line, in_text_fault}
use Rattle.hg_names.specs.Names.{AreDistinct}
use Rattle.hg_line.specs.Printing.{no_notes}
use Rattle.hg_line.specs.Lines.{places, ids, numbers, node_named, message_named, may_be_bound}
use Rattle.hg_line.specs.Lines.{Does, DoesLine}
use Rattle.hg_line.specs.Stops.{StopsAt}
use Rattle.hg_line.specs.Outcomes.{IsEndedBy}
use Rattle.hg_line.specs.Words.{words_of}
use Rattle.hg_line.proofs.LineLemmas.{ran_after}
use Rattle.hg_line.proofs.LabelLemmas.{twice_taken, nothing_free, new_apart, made_for}

-- ---- names that stand for nothing

pub node_from_place : (f : Fleet) (name : Text) (place : ℕ) (found : Option KeptValue) → places f name ≡ Some place
    → slice_get f.world.nodes place ≡ found → node_named f name ≡ found
node_from_place f name place found at is = ap (option_and_then (slice_get f.world.nodes)) at ∙ is

pub no_place : (f : Fleet) (name : Text) → places f name ≡ None → node_named f name ≡ None
no_place f name none = ap (option_and_then (slice_get f.world.nodes)) none

pub no_message : (f : Fleet) (name : Text) → numbers f name ≡ None → message_named f name ≡ None
no_message f name none = ap (option_and_then (slice_get f.world.messages)) none

pub unknown_fault : (f : Fleet) (command : Command) (fault : CommandFault) → fault ≡ Name UnknownName
    → UsesUnknown f command → IsFaultOf f command fault
unknown_fault f command fault is uses = subst (IsFaultOf f command) (sym is) uses

-- a name that stands for no node, told of its place
pub node_fault : (f : Fleet) (command : Command) (name : Text) (place : ℕ) (fault : CommandFault)
    → places f name ≡ Some place → (node_named f name ≡ None → UsesUnknown f command)
    → IsNodeFault f.world place fault → IsFaultOf f command fault
node_fault f command name place fault at leads (is, none) =
    unknown_fault f command fault is (leads (node_from_place f name place None at none))

-- where this is so, the command uses a name that stands for nothing
pub fault_of_command : (P : Type 0) (f : Fleet) (command : Command) (fault : CommandFault)
    → (P → UsesUnknown f command) → WantsMemory f command → IsUnknownWhere P fault → IsFaultOf f command fault
fault_of_command P f command (Name fault) leads wants (is, h) = subst (IsNameFault f command) (sym is) (leads h)
fault_of_command P f command ends.Write leads wants h = absurd h
fault_of_command P f command ends.NoMemory leads wants h = wants

pub unknown_where : (P Q : Type 0) (fault : CommandFault) → (P → Q) → IsUnknownWhere P fault → IsUnknownWhere Q fault
unknown_where P Q (Name fault) leads (is, h) = (is, leads h)
unknown_where P Q ends.Write leads h = h
unknown_where P Q ends.NoMemory leads h = tt

-- a fault of a command that asks for no event
pub left_unchanged : {T : Type 0} (f : Fleet) (command : Command) (r : Result T CommandFault)
    → IfErr r (IsFaultOf f command) → IfErr r (λ fault. IsEndedBy f command fault f)
left_unchanged f command (Ok x) h = tt
left_unchanged f command (Err fault) h = (h, (no_trace, refl))

-- ---- what is printed, and what wants memory

somewhere : {V W : Type 0} (g : V → Option W) (o : Option V) → IsSome (option_and_then g o) → IsSome o
somewhere g None h = h
somewhere g (Some v) h = refl

-- a node that is there has its name
pub placed : (f : Fleet) (name : Text) → IsSome (node_named f name) → IsSome (places f name)
placed f name h = somewhere (slice_get f.world.nodes) (places f name) h

-- a node that is there is one for which its command wants memory
pub kept_wanting : (f : Fleet) (words : List Word) (command : Command) (name : Text) (r : Option (Bor KeptValue))
    → CommandAnswer words (Ok (Some command)) → (IsSome (places f name) → WantsMemory f command)
    → option_copied r ≡ node_named f name → IfSome r (λ k. AreWanting f words)
kept_wanting f words command name None answer leads is = tt
kept_wanting f words command name (Some k) answer leads is =
    (command, answer, leads (placed f name (ap is_some (sym is))))

-- a command that is done had what it needs
pub done_wants : (f : Fleet) (command : Command) (t : Trace) (new : Fleet) → Does f command t new
    → WantsMemory f command
done_wants f (node at) t new does = does.named.0
done_wants f (operation at op) t new does = ap is_some does.asked.2
done_wants f (Mark at marking) t new does = ap is_some does.asked.2
done_wants f (Offer scope at message labels) t new does = ap is_some does.asked.2
done_wants f (Take at message) t new does = ap is_some does.asked.2
done_wants f (Pull scope to from) t new does = ap is_some does.asked.4
done_wants f (Report at) t new does = placed f at.now does.asked.0
done_wants f (Agree one other) t new does = (placed f one.now does.asked.0, placed f other.now does.asked.1)

-- one of whose events is refused prints that
pub refused_prints : (f : Fleet) (command : Command) (t : Trace) (new : Fleet) → Does f command t new
    → 1 ≤ refusals t → PrintsSome f command
refused_prints f (node at) t new does some = (t, new, does, some)
refused_prints f (operation at op) t new does some = (t, new, does, some)
refused_prints f (Mark at marking) t new does some = (t, new, does, some)
refused_prints f (Offer scope at message labels) t new does some = (t, new, does, some)
refused_prints f (Take at message) t new does some = (t, new, does, some)
refused_prints f (Pull scope to from) t new does some = (t, new, does, some)
refused_prints f (Report at) t new does some = does.asked.0
refused_prints f (Agree one other) t new does some = (does.asked.0, does.asked.1)

-- what prints wants memory
pub prints_wants : (f : Fleet) (command : Command) → PrintsSome f command → WantsMemory f command
prints_wants f (node at) (t, new, does, some) = done_wants f (node at) t new does
prints_wants f (operation at op) (t, new, does, some) = done_wants f (operation at op) t new does
prints_wants f (Mark at marking) (t, new, does, some) = done_wants f (Mark at marking) t new does
prints_wants f (Offer scope at message labels) (t, new, does, some) =
    done_wants f (Offer scope at message labels) t new does
prints_wants f (Take at message) (t, new, does, some) = done_wants f (Take at message) t new does
prints_wants f (Pull scope to from) (t, new, does, some) = done_wants f (Pull scope to from) t new does
prints_wants f (Report at) some = placed f at.now some
prints_wants f (Agree one other) (here, there) = (placed f one.now here, placed f other.now there)

-- what prints can end the script by a write fault, or for want of memory
pub print_fault : (f : Fleet) (command : Command) (fault : CommandFault) → PrintsSome f command
    → (fault ≡ ends.Write) ⊎ (fault ≡ ends.NoMemory) → IsFaultOf f command fault
print_fault f command fault prints (inl e) = subst (IsFaultOf f command) (sym e) prints
print_fault f command fault prints (inr e) = subst (IsFaultOf f command) (sym e) (prints_wants f command prints)

-- refusals are counted
pub refused_here : (answer : PeerAnswer) (answers : List PeerAnswer) → is_refusal answer ≡ true
    → 1 ≤ count_by is_refusal (answer ∷ answers)
refused_here answer answers h =
    let one : count_by is_refusal (answer ∷ []) ≡ 1 = ap (λ (b : Bool). 0 + cond b 1 0) h in
    let all = sum_by-append (λ (a : PeerAnswer). cond (is_refusal a) 1 0) (answer ∷ []) answers in
    omega (arith, one, all)

pub refused_later : (answer : PeerAnswer) (answers : List PeerAnswer) → 1 ≤ count_by is_refusal answers
    → 1 ≤ count_by is_refusal (answer ∷ answers)
refused_later answer answers h =
    let all = sum_by-append (λ (a : PeerAnswer). cond (is_refusal a) 1 0) (answer ∷ []) answers in
    omega (arith, h, all)

pub on_err_always : {T E P : Type 0} (r : Result T E) → P → OnErr r P
on_err_always (Ok x) h = tt
on_err_always (Err e) h = h

-- a command that ended so is one whose line did
pub left_by : (number : ℕ) (old : Fleet) (command : Command) (fault : CommandFault) (new : Fleet)
    → IsEndedBy old command fault new → IsLeftBy number old command (at_line number fault) new
left_by number old command (Name fault) new (is, ran) = ((refl, is), ran)
left_by number old command ends.Write new (is, ran) = (is, ran)
left_by number old command ends.NoMemory new (is, ran) = (is, ran)

-- one label among several
pub unknown_at : (names : Meaning Node) (labels : List Word) (i : ℕ) (d : Word) → i < length labels
    → HasUnknown names ((get_or labels i d).now ∷ []) → HasUnknown names (texts labels)
unknown_at names [] i d l h = absurd (omega arith)
unknown_at names (w ∷ labels) zero d l (inl none) = inl none
unknown_at names (w ∷ labels) zero d l (inr h) = absurd h
unknown_at names (w ∷ labels) (suc i) d l h = inr (unknown_at names labels i d (omega arith) h)

-- ---- events

-- what an offer or a taking lacks is what its names stand for
pub offer_nowhere : (f : Fleet) (at : Word) (place : ℕ) (ask : Ask) → places f at.now ≡ Some place
    → IsNowhere f.world (event.Offer place ask) → node_named f at.now ≡ None
offer_nowhere f at place ask is (inl none) = node_from_place f at.now place None is none
offer_nowhere f at place ask is (inr h) = absurd h

pub take_nowhere : (f : Fleet) (at message : Word) (place number : ℕ) → places f at.now ≡ Some place
    → numbers f message.now ≡ Some number → IsNowhere f.world (event.Take place number)
    → (node_named f at.now ≡ None) ⊎ (message_named f message.now ≡ None)
take_nowhere f at message place number is told (inl none) = inl (node_from_place f at.now place None is none)
take_nowhere f at message place number is told (inr none) =
    inr (ap (option_and_then (slice_get f.world.messages)) told ∙ none)

pub local_nowhere : (f : Fleet) (at : Word) (place : ℕ) (op : Op) → places f at.now ≡ Some place
    → IsNowhere f.world (event.Local place op) → node_named f at.now ≡ None
local_nowhere f at place op is (inl none) = node_from_place f at.now place None is none
local_nowhere f at place op is (inr h) = absurd h

pub mark_nowhere : (f : Fleet) (at : Word) (place : ℕ) (mark : PeerMark) → places f at.now ≡ Some place
    → IsNowhere f.world (event.Mark place mark) → node_named f at.now ≡ None
mark_nowhere f at place mark is (inl none) = node_from_place f at.now place None is none
mark_nowhere f at place mark is (inr h) = absurd h

-- an event that a script doesn't go on from: its command is at fault so, and what happened is a run
pub ended_at_event : (f : Fleet) (command : Command) (asked : PeerEvent) (answer : PeerAnswer)
    (new : Snapshot KeptValue) (fault : CommandFault)
    → (part : Option PartValue) × Happens peer_state peer_words f.world asked answer part new
    → (IsNowhere f.world asked → UsesUnknown f command) → WantsMemory f command
    → IsUnknownWhere (TellsAbsence answer) fault
    → IsFaultOf f command fault × ((t : Trace) × Ran f.world t new)
ended_at_event f command asked answer new fault happens leads wants is = (
  fault_of_command (TellsAbsence answer) f command fault
      (λ absent. leads (nowhere f.world asked answer happens.0 new happens.1 absent)) wants is,
  ran_after f.world new new asked answer happens refl,
)

-- one of the two of a pull
pub pull_absent : (f : Fleet) (scope : Scope) (to from : Word) (taker giver : ℕ) → places f from.now ≡ Some giver
    → places f to.now ≡ Some taker → IsOneAbsent f.world taker giver → UsesUnknown f (Pull scope to from)
pull_absent f scope to from taker giver gives takes (inl none) = inl (node_from_place f to.now taker None takes none)
pull_absent f scope to from taker giver gives takes (inr none) = inr (node_from_place f from.now giver None gives none)

-- answers none of which tells of an absence tell of none
pub none_told : (answers : List PeerAnswer) → AllByRecursion (λ a. ¬ (TellsAbsence a)) answers
    → ¬ (TellAbsence answers)
none_told (answer ∷ answers) all (inl here) = all.0 here
none_told (answer ∷ answers) all (inr later) = none_told answers all.1 later
none_told [] all none = none

-- ---- new labels

-- labels that are free to name whatever the operation makes are free to name what it brought
pub free_brought : (names : Meaning Node) (labels : List Text) (state : KeptValue) (old : Snapshot KeptValue)
    (place : ℕ) (op : Op) (answer : PeerAnswer) (part : Option PartValue) (new : Snapshot KeptValue)
    → slice_get old.nodes place ≡ Some state → AreLabelsFree names labels state op
    → Happens peer_state peer_words old (event.Local place op) answer part new
    → IsTrue (may_be_bound names labels (brought (part ∷ [])))
free_brought names labels state old place op answer None new at free h = nothing_free names labels
free_brought names labels state old place op (Accepted change) (Some part) new at free h =
    let same : h.0 ≡ state = same_Some h.0 state (sym h.2 ∙ at) in
    subst (λ (ns : List Node). IsTrue (may_be_bound names labels ns)) (sym (append-nil (nodes part.history.changesets)))
    (free part (subst (λ (s : KeptValue). Decides s op part) same h.3))
free_brought names labels state old place op (Offered number) (Some part) new at free h = absurd h
free_brought names labels state old place op Marked (Some part) new at free h = absurd h
free_brought names labels state old place op (Refused refusal) (Some part) new at free h = absurd h

-- an operation that isn't refused makes a changeset for each label, each with an id of its own
pub taken_fault : (f : Fleet) (at : Word) (op : Operation) (asked : Op) (state : KeptValue)
    (labels : List Word) (fault : CommandFault) → texts labels ≡ new_labels op
    → IsOperation (ids f) op asked → node_named f at.now ≡ Some state
    → IsTakenFault (ids f) labels state asked fault → IsFaultOf f (operation at op) fault
taken_fault f at op asked state labels (Name fault) same meant held (is, (part, decided, how)) =
    let made = nodes part.history.changesets in
    let long : length labels ≤ length made =
    omega (
      arith,
      length-map labels (λ (w : Word). w.now),
      ap length same,
      made_for (ids f) op state asked part meant decided,
    ) in
    let taken : may_be_bound (ids f) (texts labels) made ≡ false =
    ⊎_elim (λ (t : may_be_bound (ids f) (texts labels) made ≡ false). t)
    (λ (twice : ¬ (AreDistinct labels)). twice_taken (ids f) labels made (new_apart state asked part decided)
    long twice) how in
    subst (IsNameFault f (operation at op)) (sym is) (record {
      asked = asked;
      meant = meant;
      state = state;
      held = held;
      part = part;
      decided = decided;
      taken = subst (λ (ls : List Text). may_be_bound (ids f) ls made ≡ false) same taken;
    })
taken_fault f at op asked state labels ends.Write same meant held h = absurd h
taken_fault f at op asked state labels ends.NoMemory same meant held h = placed f at.now (ap is_some held)

-- ---- lines

-- no form of a command shows such a fault, and what is no command is an unknown one
not_too_long : (word : Text) (rest : List Word) → LineAnswer word rest (Err TooLong) → ⊥
not_too_long word rest (a, b, c, d, e, f, g, h, i, j, other) =
    let (k, l, m, n, o, p, q, none) = other (a, b, c, d, e, f, g, h, i, j) in
    let is = none (k, l, m, n, o, p, q) in
    cc

not_unknown_name : (word : Text) (rest : List Word) → LineAnswer word rest (Err UnknownName) → ⊥
not_unknown_name word rest (a, b, c, d, e, f, g, h, i, j, other) =
    let (k, l, m, n, o, p, q, none) = other (a, b, c, d, e, f, g, h, i, j) in
    let is = none (k, l, m, n, o, p, q) in
    cc

not_taken : (word : Text) (rest : List Word) → LineAnswer word rest (Err NameTaken) → ⊥
not_taken word rest (a, b, c, d, e, f, g, h, i, j, other) =
    let (k, l, m, n, o, p, q, none) = other (a, b, c, d, e, f, g, h, i, j) in
    let is = none (k, l, m, n, o, p, q) in
    cc

-- the faults that the words of a line show
pub words_fault : (f : Fleet) (line : Text) (words : List Word) (fault : LineFault) → HasWords line words
    → CommandAnswer words (Err fault) → IsLineFault f line fault
words_fault f line words UnknownCommand has answer = (words, has, answer)
words_fault f line words WordCount has answer = (words, has, answer)
words_fault f line words BadName has answer = (words, has, answer)
words_fault f line words BadPhase has answer = (words, has, answer)
words_fault f line words TooLong has (word, rest, e, answer) = absurd (not_too_long word.now rest answer)
words_fault f line words UnknownName has (word, rest, e, answer) = absurd (not_unknown_name word.now rest answer)
words_fault f line words NameTaken has (word, rest, e, answer) = absurd (not_taken word.now rest answer)

name_fault : (f : Fleet) (line : Text) (command : Command) (fault : LineFault) → Says line command
    → IsNameFault f command fault → IsLineFault f line fault
name_fault f line command TooLong says h = absurd h
name_fault f line command UnknownCommand says h = absurd h
name_fault f line command WordCount says h = absurd h
name_fault f line command BadName says h = absurd h
name_fault f line command BadPhase says h = absurd h
name_fault f line command UnknownName says h = (command, says, h)
name_fault f line command NameTaken says h = (command, says, h)

-- what ends the script at its command ends it at the line
pub command_ends : (number : ℕ) (f : Fleet) (line : Text) (command : Command) (fault : RunFault) → Says line command
    → IsCommandFault number f command fault → EndsAt number f line fault
command_ends number f line command (Line told fault) says (n, h) = (n, name_fault f line command fault says h)
command_ends number f line command ScriptTooLong says h = h
command_ends number f line command Read says h = h
command_ends number f line command Write says h = (command, says, h)
command_ends number f line command NoMemory (words, has, answer) h = (has.0, inr (command, (words, has, answer), h))

-- words that are a command which wants memory
pub wanting_ends : (number : ℕ) (f : Fleet) (line : Text) (words : List Word) → HasWords line words
    → AreWanting f words → EndsAt number f line NoMemory
wanting_ends number f line words has (command, answer, wants) =
    (has.0, inr (command, (words, has, answer), wants))

-- a line that is done and has words
pub done_ends : (number : ℕ) (f : Fleet) (line : Text) (t : Trace) (new : Fleet) → words_of line ≢ []
    → DoesLine f line t new → EndsAt number f line NoMemory
done_ends number f line t new some (short, (words, mapped, inl (none, same, stays))) =
    absurd (some (sym mapped ∙ ap (map (λ (w : Word). w.now)) none))
done_ends number f line t new some (short, (words, mapped, inr (command, answer, does))) =
    (short, inr (command, (words, (short, mapped), answer), done_wants f command t new does))

-- a line that is done and refused says a command that prints
pub refused_says : (f : Fleet) (line : Text) (t : Trace) (new : Fleet) → DoesLine f line t new → 1 ≤ refusals t
    → (command : Command) × Says line command × PrintsSome f command
refused_says f line t new (short, (words, mapped, inl (none, same, stays))) some =
    let zeros : refusals t ≡ 0 = ap (λ (u : Trace). refusals u) same in
    absurd (omega (arith, zeros, some))
refused_says f line t new (short, (words, mapped, inr (command, answer, does))) some =
    (command, (words, (short, mapped), answer), refused_prints f command t new does some)

-- what prints wants memory
pub write_ends : (number : ℕ) (f : Fleet) (line : Text) → EndsAt number f line Write → EndsAt number f line NoMemory
write_ends number f line (command, (words, has, answer), prints) =
    (has.0, inr (command, (words, has, answer), prints_wants f command prints))

-- a line whose refusals can't be told
pub untold_ends : (number : ℕ) (f : Fleet) (line : Text) (t : Trace) (new : Fleet) (fault : CommandFault)
    → DoesLine f line t new → 1 ≤ refusals t → (fault ≡ ends.Write) ⊎ (fault ≡ ends.NoMemory)
    → EndsAt number f line (at_line number fault)
untold_ends number f line t new fault does some (inl e) =
    subst (λ (c : CommandFault). EndsAt number f line (at_line number c)) (sym e) (refused_says f line t new does some)
untold_ends number f line t new fault does some (inr e) =
    subst (λ (c : CommandFault). EndsAt number f line (at_line number c)) (sym e)
    (write_ends number f line (refused_says f line t new does some))

pub untold_not_own : (number : ℕ) (fault : CommandFault) → (fault ≡ ends.Write) ⊎ (fault ≡ ends.NoMemory)
    → IsOfLine (at_line number fault) → ⊥
untold_not_own number fault (inl e) own = subst (λ (c : CommandFault). IsOfLine (at_line number c)) e own
untold_not_own number fault (inr e) own = subst (λ (c : CommandFault). IsOfLine (at_line number c)) e own

-- what ended a line that prints into a text ends it so
pub text_ends : (number : ℕ) (f : Fleet) (line : Text) (fault : RunFault) → EndsAt number f line fault
    → EndsAt number f line (in_text_fault fault)
text_ends number f line (Line told fault) h = h
text_ends number f line ScriptTooLong h = h
text_ends number f line Read h = h
text_ends number f line Write h = write_ends number f line h
text_ends number f line NoMemory h = h

-- and ends the script, whichever its notes are
pub text_stops : (notes : Notes) (number : ℕ) (f : Fleet) (line : Text) (fault : RunFault) → EndsAt number f line fault
    → StopsAt notes number f line (in_text_fault fault)
text_stops notes number f line (Line told fault) h = h
text_stops notes number f line ScriptTooLong h = h
text_stops notes number f line Read h = h
text_stops notes number f line Write h = write_ends number f line h
text_stops notes number f line NoMemory h = h

-- what ends a line ends the script that is run without notes
pub bare_stops : (number : ℕ) (f : Fleet) (line : Text) (fault : RunFault) → EndsAt number f line fault
    → StopsAt no_notes number f line fault
bare_stops number f line (Line told fault) h = h
bare_stops number f line ScriptTooLong h = h
bare_stops number f line Read h = h
bare_stops number f line Write h = inl (refl, h)
bare_stops number f line NoMemory h = h

-- and is a line's own fault only where that was
pub text_own : (fault : RunFault) → IsOfLine (in_text_fault fault) → IsOfLine fault
text_own (Line number fault) own = own
text_own ScriptTooLong own = own
text_own Read own = own
text_own Write own = absurd own
text_own NoMemory own = own

-- a line has the words that it is divided into
pub some_words : (line : Text) (words : List Word) → HasWords line words → words ≢ [] → words_of line ≢ []
some_words line [] has some none = some refl
some_words line (w ∷ words) has some none =
    let empty : map (λ (v : Word). v.now) (w ∷ words) ≡ [] = has.1 ∙ none in
    cc

-- a text that isn't empty
pub not_nil : {A : Type 0} (xs : List A) → (length xs == 0) ≡ false → xs ≢ []
not_nil {A = A} xs h e = true≢false (sym (ap (λ (ys : List A). length ys == 0) e) ∙ h)

pub over_limit : (b : Bool) (n m : ℕ) → (n ≤ m → b ≡ true) → b ≡ false → m < n
over_limit b n m within over_it =
    ⊎_elim (λ (over : m < n). over) (λ (fits : n ≤ m). absurd (true≢false (sym (within fits) ∙ over_it))) (cases_lt m n)

-- ---- faults of lines

-- where the fault is a line's own, what the writer holds stays
pub stays_own : {T : Type 0} (fault : RunFault) (held holds : Option Text)
    → StaysAtLine {T = T} (Err fault) held holds → IsOfLine fault → holds ≡ held
stays_own (Line number fault) held holds stays own = stays number fault refl
stays_own ScriptTooLong held holds stays own = absurd own
stays_own Read held holds stays own = absurd own
stays_own Write held holds stays own = absurd own
stays_own NoMemory held holds stays own = absurd own

-- what fails to print is no name's fault
pub stays_printed : {T : Type 0} (fault : CommandFault) (held holds : Option Text)
    → (fault ≡ ends.Write) ⊎ (fault ≡ ends.NoMemory) → StaysAtName {T = T} (Err fault) held holds
stays_printed fault held holds (inl e) name is = absurd (cc)
stays_printed fault held holds (inr e) name is = absurd (cc)

-- the same, where the line's number is told
pub stays_told : {T U : Type 0} (number : ℕ) (fault : CommandFault) (held holds : Option Text)
    → StaysAtName {T = T} (Err fault) held holds → StaysAtLine {T = U} (Err (at_line number fault)) held holds
stays_told number (Name fault) held holds stays told name is = stays fault refl
stays_told number ends.Write held holds stays told name is = absurd (cc)
stays_told number ends.NoMemory held holds stays told name is = absurd (cc)
