-- What the commands of a script ask of its world.
use Rattle.std.specs.Prelude.{ℕ, ◌≡◌, ◌⊎◌, List, [], ◌∷◌, ◌++◌, map, slice_get, count_by, Option, Some, None, IsSome}
use Rattle.std.specs.Prelude.{Bool, true, false}
use Rattle.std.specs.declared.vec.Vec.{Vec}
use Rattle.std.specs.declared.alloc.Global.{Global}
use Rattle.std.specs.List.{AllByRecursion}
use Rattle.std.specs.Option.{option_and_then}
use Rattle.hg_changeset.specs.declared.node.Node.{Node}
use Rattle.hg_changeset.specs.EntryValue.{EntryValue}
use Rattle.hg_changeset.specs.Node.{null_node}
use Rattle.hg_graph.specs.Graph.{nodes}
use Rattle.hg_history.specs.declared.fault.Fault.{Fault}
use Rattle.hg_history.specs.Fault.{number as fault_number}
use Rattle.hg_replica.specs.Least.{PartValue}
use Rattle.hg_view.specs.Kept.{KeptValue}
use Rattle.hg_rewrite.specs.declared.op.Op.{Op}
use Rattle.hg_rewrite.specs.declared.op.Op.TheVariants as asks
use Rattle.hg_world.specs.Runs.{Snapshot}
use Rattle.hg_world.specs.Runs as worlds
use Rattle.hg_world.specs.declared.event.Event.TheVariants as event
use Rattle.hg_world.specs.declared.event.EventRefusal.{EventRefusal}
use Rattle.hg_world.specs.declared.event.EventRefusal.TheVariants.{NoNode, NoMessage, ByActor, ByState}
use Rattle.hg_world.specs.declared.event.Answer.TheVariants.{Accepted, Offered, Marked, Refused}
use Rattle.hg_peer.specs.declared.mark.Mark.{Mark as PeerMark}
use Rattle.hg_peer.specs.declared.mark.Mark.TheVariants as marks
use Rattle.hg_peer.specs.declared.refusal.PeerRefusal.{PeerRefusal}
use Rattle.hg_peer.specs.Refusals.{peer_refusal_number}
use Rattle.hg_peer.specs.Words as peers
use Rattle.hg_fleet.specs.Pulls.{AreLeftOutAt, TellsAbsence, asking, taken}
use Rattle.hg_line.specs.declared.fault.LineFault.TheVariants.{UnknownName}
use Rattle.hg_line.specs.declared.command_fault.CommandFault.{CommandFault}
use Rattle.hg_line.specs.declared.command_fault.CommandFault.TheVariants.{Name, Write, NoMemory}
use Rattle.hg_line.specs.declared.command.Command.{Command}
use Rattle.hg_line.specs.declared.command.Command.TheVariants.{Node as node, Operation as operation, Mark, Offer}
use Rattle.hg_line.specs.declared.command.Command.TheVariants.{Take, Pull, Report, Agree}
use Rattle.hg_line.specs.declared.marking.Marking.{Marking}
use Rattle.hg_line.specs.declared.marking.Marking.TheVariants.{Pin, Unpin}
use Rattle.hg_line.specs.declared.operation.Operation.{Operation}
use Rattle.hg_line.specs.declared.operation.Operation.TheVariants.{Commit, Amend, Split, Fold, Prune, Relocate}
use Rattle.hg_line.specs.declared.operation.Operation.TheVariants.{Advance}
use Rattle.hg_line.specs.declared.operation.Names.{Names}
use Rattle.hg_line.specs.declared.operation.Parents.{Parents}
use Rattle.hg_line.specs.declared.operation.Parents.TheVariants.{NoParent, One, Two}
use Rattle.hg_line.specs.Commands.{Text, Word, parent_words, texts}
use Rattle.hg_line.specs.Entries.{entry_of, IsPruneOf}
use Rattle.hg_names.specs.Labels.{labelled}

abbrev pub PeerEvent : Type 0
PeerEvent = peers.PeerEvent

abbrev pub PeerAnswer : Type 0
PeerAnswer = peers.PeerAnswer

-- ---- runs of a world of peers

-- events of the world, what each was answered, and the part that each brought, if it brought one
abbrev pub Trace : Type 0
Trace = peers.PeerTrace

abbrev pub no_trace : Trace
no_trace = worlds.no_trace

abbrev pub joined : Trace → Trace → Trace
joined t u = worlds.joined t u

-- the world's events were answered so, with these parts
abbrev pub Ran : Snapshot KeptValue → Trace → Snapshot KeptValue → Type 0
Ran old t new = peers.PeersRan old t new

-- the refusal has a number, which is printed. Want of memory has none, and what a script names is there
abbrev pub HasNumber : EventRefusal PeerRefusal Fault → Type 0
HasNumber NoNode = ⊥
HasNumber NoMessage = ⊥
HasNumber (ByActor refusal) = IsSome (peer_refusal_number refusal)
HasNumber (ByState fault) = IsSome (fault_number fault)

-- the event was done, or refused for a reason that is printed
abbrev pub IsPrinted : PeerAnswer → Type 0
IsPrinted (Accepted change) = Unit {0}
IsPrinted (Offered number) = Unit {0}
IsPrinted Marked = Unit {0}
IsPrinted (Refused refusal) = HasNumber refusal

abbrev pub ArePrinted : List PeerAnswer → Type 0
ArePrinted answers = AllByRecursion IsPrinted answers

abbrev pub is_refusal : PeerAnswer → Bool
is_refusal (Accepted change) = false
is_refusal (Offered number) = false
is_refusal Marked = false
is_refusal (Refused refusal) = true

-- how many events were refused. Of the events of a line that is the last alone, since the refusal of an offer ends a
-- pull, so it is how many lines were
abbrev pub refusals : Trace → ℕ
refusals t = count_by is_refusal t.answers

-- the ids of the changesets that the accepted parts bring, in order
abbrev pub brought : List (Option PartValue) → List Node
brought [] = []
brought (None ∷ parts) = brought parts
brought (Some part ∷ parts) = nodes part.history.changesets ++ brought parts

-- ---- what can end a script at an event

-- one of the answers tells of an absence
abbrev pub TellAbsence : List PeerAnswer → Type 0
TellAbsence [] = ⊥
TellAbsence (answer ∷ answers) = TellsAbsence answer ⊎ TellAbsence answers

-- an unknown name, where this is so; or want of memory
abbrev pub IsUnknownWhere : Type 0 → CommandFault → Type 0
IsUnknownWhere P (Name fault) = (fault ≡ UnknownName) × P
IsUnknownWhere P Write = ⊥
IsUnknownWhere P NoMemory = Unit {0}

-- ---- operations

-- what names stand for
abbrev pub Meaning : Type 0 → Type 0
Meaning V = Text → Option V

-- the state of the node that a name stands for, if there is one
abbrev pub node_at : Snapshot KeptValue → Meaning ℕ → Text → Option KeptValue
node_at world places name = option_and_then (slice_get world.nodes) (places name)

-- the bytes of the message that a name stands for
abbrev pub message_at : Snapshot KeptValue → Meaning ℕ → Text → Option (List ℕ)
message_at world numbers name = option_and_then (slice_get world.messages) (numbers name)

-- one of the labels stands for nothing
abbrev pub HasUnknown : Meaning Node → List Text → Type 0
HasUnknown ids [] = ⊥
HasUnknown ids (label ∷ labels) = (ids label ≡ None) ⊎ HasUnknown ids labels

-- each of the labels names the id at its place
abbrev pub AreIds : Meaning Node → List Word → List Node → Type 0
AreIds ids labels nodes = map (λ w. ids w.now) labels ≡ map Some nodes

-- the ids of the parents, and the null id for each that is absent
abbrev pub AreParentIds : Meaning Node → Parents → Node → Node → Type 0
AreParentIds ids NoParent p q = (p ≡ null_node) × (q ≡ null_node)
AreParentIds ids (One first) p q = (ids first.now ≡ Some p) × (q ≡ null_node)
AreParentIds ids (Two first second) p q = (ids first.now ≡ Some p) × (ids second.now ≡ Some q)

-- what the operation asks of a replica, where labels stand for these ids
abbrev pub IsOperation : Meaning Node → Operation → Op → Type 0
IsOperation ids (Commit new is_secret parents) op =
    (p : Node) × (q : Node) × AreParentIds ids parents p q × (op ≡ asks.Commit p q (entry_of new.now) is_secret)
IsOperation ids (Amend old new) op = (n : Node) × (ids old.now ≡ Some n) × (op ≡ asks.Amend n (entry_of new.now))
IsOperation ids (Split old new) op =
    (n : Node) × (entries : Vec EntryValue Global) × (ids old.now ≡ Some n)
    × (entries.items ≡ map (λ w. entry_of w.now) new.now) × (op ≡ asks.Split n entries)
IsOperation ids (Fold new old) op = (ns : Vec Node Global) × AreIds ids old.now ns.items
    × (op ≡ asks.Fold ns (entry_of new.now))
IsOperation ids (Prune old) op = (n : Node) × (ids old.now ≡ Some n) × IsPruneOf n op
IsOperation ids (Relocate old new parents) op =
    (n : Node) × (p : Node) × (q : Node) × (ids old.now ≡ Some n) × AreParentIds ids parents p q
    × (op ≡ asks.Relocate n p q (entry_of new.now))
IsOperation ids (Advance label phase) op = (n : Node) × (ids label.now ≡ Some n) × (op ≡ asks.Advance n phase)

-- the labels of what is to be there already
abbrev pub old_labels : Operation → List Text
old_labels (Commit new is_secret parents) = parent_words parents
old_labels (Amend old new) = old.now ∷ []
old_labels (Split old new) = old.now ∷ []
old_labels (Fold new old) = texts old.now
old_labels (Prune old) = old.now ∷ []
old_labels (Relocate old new parents) = old.now ∷ parent_words parents
old_labels (Advance label phase) = label.now ∷ []

-- one of the labels stands for nothing: so they can end the script
abbrev pub IsUnresolved : Names → List Text → CommandFault → Type 0
IsUnresolved names labels = IsUnknownWhere (HasUnknown (labelled names.labels.now) labels)

-- the new labels, in the order in which the operation makes their changesets
abbrev pub new_labels : Operation → List Text
new_labels (Commit new is_secret parents) = new.now ∷ []
new_labels (Amend old new) = new.now ∷ []
new_labels (Split old new) = texts new.now
new_labels (Fold new old) = new.now ∷ []
new_labels (Prune old) = []
new_labels (Relocate old new parents) = new.now ∷ []
new_labels (Advance label phase) = []

-- ---- marks

-- what the mark asks of a node, where labels stand for these ids
abbrev pub IsMark : Meaning Node → Marking → PeerMark → Type 0
IsMark ids (Pin label) mark = (n : Node) × (ids label.now ≡ Some n) × (mark ≡ marks.Pin n)
IsMark ids (Unpin label) mark = (n : Node) × (ids label.now ≡ Some n) × (mark ≡ marks.Unpin n)

-- the label of what is to be there already
abbrev pub marked_label : Marking → Text
marked_label (Pin label) = label.now
marked_label (Unpin label) = label.now

-- ---- commands

-- the events of a command in a world, where names stand for these places, ids and numbers: a pull asks for what is
-- offered above what it leaves out, and what it takes hangs on the answer
abbrev pub AreEventsOf : Snapshot KeptValue → Meaning ℕ → Meaning Node → Meaning ℕ → Command → List PeerAnswer
    → List PeerEvent → Type 0
AreEventsOf world places ids numbers (node at) answers events = events ≡ []
AreEventsOf world places ids numbers (operation at op) answers events =
    (place : ℕ) × (asked : Op) × (places at.now ≡ Some place) × IsOperation ids op asked
    × (events ≡ event.Local place asked ∷ [])
AreEventsOf world places ids numbers (Mark at marking) answers events =
    (place : ℕ) × (asked : PeerMark) × (places at.now ≡ Some place) × IsMark ids marking asked
    × (events ≡ event.Mark place asked ∷ [])
AreEventsOf world places ids numbers (Offer scope at message labels) answers events =
    (place : ℕ) × (common : Vec Node Global) × (places at.now ≡ Some place) × AreIds ids labels.now common.items
    × (events ≡ event.Offer place (asking scope common) ∷ [])
AreEventsOf world places ids numbers (Take at message) answers events =
    (place : ℕ) × (number : ℕ) × (places at.now ≡ Some place) × (numbers message.now ≡ Some number)
    × (events ≡ event.Take place number ∷ [])
AreEventsOf world places ids numbers (Pull scope to from) answers events =
    (giver : ℕ) × (taker : ℕ) × (common : Vec Node Global) × (places from.now ≡ Some giver)
    × (places to.now ≡ Some taker)
    × AreLeftOutAt scope world taker giver common.items
    × (events ≡ event.Offer giver (asking scope common) ∷ taken taker answers)
AreEventsOf world places ids numbers (Report at) answers events = IsSome (node_at world places at.now) × (events ≡ [])
AreEventsOf world places ids numbers (Agree one other) answers events =
    IsSome (node_at world places one.now) × IsSome (node_at world places other.now) × (events ≡ [])
