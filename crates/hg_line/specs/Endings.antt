-- What ends a script at a line, and by which fault.
use Rattle.std.specs.Prelude.{ℕ, ◌≡◌, ◌⊎◌, ◌≤◌, ◌<◌, List, [], ◌∷◌, length, map, slice_get, false}
use Rattle.std.specs.Prelude.{IsTrue, Option, Some, None, IsSome, Result, Ok, Err, IsErrOf}
use Rattle.hg_changeset.specs.declared.node.Node.{Node}
use Rattle.hg_graph.specs.Graph.{nodes}
use Rattle.hg_view.specs.Kept.{KeptValue}
use Rattle.hg_replica.specs.Least.{PartValue}
use Rattle.hg_rewrite.specs.declared.op.Op.{Op}
use Rattle.hg_world.specs.Runs.{Snapshot}
use Rattle.hg_peer.specs.Peers.{Decides}
use Rattle.hg_line.specs.declared.command.Command.{Command}
use Rattle.hg_line.specs.declared.command.Command.TheVariants.{Node as node, Operation as operation, Mark, Offer}
use Rattle.hg_line.specs.declared.command.Command.TheVariants.{Take, Pull, Report, Agree}
use Rattle.hg_line.specs.declared.operation.Operation.{Operation}
use Rattle.hg_line.specs.declared.command_fault.CommandFault.{CommandFault}
use Rattle.hg_line.specs.declared.command_fault.CommandFault.TheVariants as ends
use Rattle.hg_line.specs.declared.command_fault.CommandFault.TheVariants.{Name}
use Rattle.hg_line.specs.declared.fault.LineFault.{LineFault}
use Rattle.hg_line.specs.declared.fault.LineFault.TheVariants.{TooLong}
use Rattle.hg_line.specs.declared.fault.LineFault.TheVariants.{UnknownName, NameTaken}
use Rattle.hg_line.specs.declared.fault.RunFault.{RunFault}
use Rattle.hg_line.specs.declared.fault.RunFault.TheVariants.{Line, ScriptTooLong, Read, Write, NoMemory}
use Rattle.hg_line.specs.declared.fleet.Fleet.{Fleet}
use Rattle.hg_line.specs.Commands.{Text, Word, texts, CommandAnswer}
use Rattle.hg_line.specs.Events.{Trace, Ran, Meaning, HasUnknown, AreIds, IsOperation, old_labels, new_labels}
use Rattle.hg_line.specs.Events.{marked_label, refusals}
use Rattle.hg_line.specs.Limits.{line_limit}
use Rattle.hg_names.specs.Names.{AreDistinct}
use Rattle.hg_line.specs.Lines.{places, ids, numbers, node_named, message_named, may_be_bound, Does}
use Rattle.hg_line.specs.Words.{words_in_place, words_of}

-- ---- faults of names

-- a name that the command uses stands for nothing: that of a node, an old label, or that of a message which it takes
abbrev pub UsesUnknown : Fleet → Command → Type 0
UsesUnknown f (node at) = ⊥
UsesUnknown f (operation at op) = (node_named f at.now ≡ None) ⊎ HasUnknown (ids f) (old_labels op)
UsesUnknown f (Mark at marking) = (node_named f at.now ≡ None) ⊎ HasUnknown (ids f) (marked_label marking ∷ [])
UsesUnknown f (Offer scope at message labels) = (node_named f at.now ≡ None) ⊎ HasUnknown (ids f) (texts labels.now)
UsesUnknown f (Take at message) = (node_named f at.now ≡ None) ⊎ (message_named f message.now ≡ None)
UsesUnknown f (Pull scope to from) = (node_named f to.now ≡ None) ⊎ (node_named f from.now ≡ None)
UsesUnknown f (Report at) = node_named f at.now ≡ None
UsesUnknown f (Agree one other) = (node_named f one.now ≡ None) ⊎ (node_named f other.now ≡ None)

-- the node decides the operation and doesn't refuse it, and a new label isn't free to name what it is to make there
pub record MakesUnderTaken (f : Fleet) (at : Text) (op : Operation) : Type 0 where
  pub asked : Op
  pub meant : IsOperation (ids f) op asked
  pub state : KeptValue
  pub held : node_named f at ≡ Some state
  pub part : PartValue
  pub decided : Decides state asked part
  pub taken : may_be_bound (ids f) (new_labels op) (nodes part.history.changesets) ≡ false

-- what the command uses is there, and a name that it gives is taken: that of a node or a message is bound, or a new
-- label of an operation that isn't refused names another id, or would name two
abbrev pub GivesTaken : Fleet → Command → Type 0
GivesTaken f (node at) = IsSome (places f at.now)
GivesTaken f (operation at op) = MakesUnderTaken f at.now op
GivesTaken f (Offer scope at message labels) =
    IsSome (places f at.now) × ((common : List Node) × AreIds (ids f) labels.now common)
    × IsSome (numbers f message.now)
GivesTaken f _ = ⊥

-- what was decided of the operation in this state: its part, or that it is refused
abbrev pub IsDecided : KeptValue → Op → Option PartValue → Type 0
IsDecided state op None = (part : PartValue) → ¬ (Decides state op part)
IsDecided state op (Some part) = Decides state op part

-- no label would name another id than the one that the operation makes in this state, where it isn't refused
abbrev pub AreLabelsFree : Meaning Node → List Text → KeptValue → Op → Type 0
AreLabelsFree names labels state op =
    (part : PartValue) → Decides state op part → IsTrue (may_be_bound names labels (nodes part.history.changesets))

-- the operation isn't refused, and the labels aren't free to name what it makes, or one of them comes twice; or want of
-- memory
abbrev pub IsTakenFault : Meaning Node → List Word → KeptValue → Op → CommandFault → Type 0
IsTakenFault names labels state op (Name fault) =
    (fault ≡ NameTaken)
    × ((part : PartValue) × Decides state op part
    × ((may_be_bound names (texts labels) (nodes part.history.changesets) ≡ false) ⊎ ¬ (AreDistinct labels)))
IsTakenFault names labels state op ends.Write = ⊥
IsTakenFault names labels state op ends.NoMemory = Unit {0}

-- there is no node at the place
abbrev pub IsNodeFault : Snapshot KeptValue → ℕ → CommandFault → Type 0
IsNodeFault world place fault = (fault ≡ Name UnknownName) × (slice_get world.nodes place ≡ None)

-- ---- what is printed, and what wants memory

-- the command prints something: the nodes that it tells of are there, or it is done and an event of it is refused
abbrev pub PrintsSome : Fleet → Command → Type 0
PrintsSome f (Report at) = IsSome (node_named f at.now)
PrintsSome f (Agree one other) = IsSome (node_named f one.now) × IsSome (node_named f other.now)
PrintsSome f command = (t : Trace) × (new : Fleet) × Does f command t new × (1 ≤ refusals t)

-- the node that the command changes or tells of has its name, or a node that it adds is the first of its name: where
-- that isn't so, the command ends before it wants memory
abbrev pub WantsMemory : Fleet → Command → Type 0
WantsMemory f (node at) = places f at.now ≡ None
WantsMemory f (operation at op) = IsSome (places f at.now)
WantsMemory f (Mark at marking) = IsSome (places f at.now)
WantsMemory f (Offer scope at message labels) = IsSome (places f at.now)
WantsMemory f (Take at message) = IsSome (places f at.now)
WantsMemory f (Pull scope to from) = IsSome (places f to.now)
WantsMemory f (Report at) = IsSome (places f at.now)
WantsMemory f (Agree one other) = IsSome (places f one.now) × IsSome (places f other.now)

-- ---- faults of commands

-- which fault the names of a command show
abbrev pub IsNameFault : Fleet → Command → LineFault → Type 0
IsNameFault f command UnknownName = UsesUnknown f command
IsNameFault f command NameTaken = GivesTaken f command
IsNameFault f command _ = ⊥

-- how a command can end the script: by a name of it, by a write fault where it prints something, or for want of memory
-- where it wants some
abbrev pub IsFaultOf : Fleet → Command → CommandFault → Type 0
IsFaultOf f command (Name fault) = IsNameFault f command fault
IsFaultOf f command ends.Write = PrintsSome f command
IsFaultOf f command ends.NoMemory = WantsMemory f command

-- the same of the command of the line with this number
abbrev pub IsCommandFault : ℕ → Fleet → Command → RunFault → Type 0
IsCommandFault number f command (Line told fault) = (told ≡ number) × IsNameFault f command fault
IsCommandFault number f command ScriptTooLong = ⊥
IsCommandFault number f command Read = ⊥
IsCommandFault number f command Write = PrintsSome f command
IsCommandFault number f command NoMemory = WantsMemory f command

-- the command ended the script so, and what the world did until then is a run
abbrev pub IsLeftBy : ℕ → Fleet → Command → RunFault → Fleet → Type 0
IsLeftBy number old command fault new =
    IsCommandFault number old command fault × ((t : Trace) × Ran old.world t new.world)

-- where a name of the command ended the script, what the writer holds stays
abbrev pub StaysAtName : {T : Type 0} → Result T CommandFault → Option Text → Option Text → Type 0
StaysAtName r held holds = (fault : LineFault) → IsErrOf r (Name fault) → holds ≡ held

-- ---- faults of lines

-- the line isn't too long, and its words are these
abbrev pub HasWords : Text → List Word → Type 0
HasWords line words = (length line ≤ line_limit) × (map (λ w. w.now) words ≡ words_of line)

-- the words of the line are this command
abbrev pub Says : Text → Command → Type 0
Says line command = (words : List Word) × HasWords line words × CommandAnswer words (Ok (Some command))

-- what is wrong with the line: its length, its words, or the names of its command
abbrev pub IsLineFault : Fleet → Text → LineFault → Type 0
IsLineFault f line TooLong = line_limit < length line
IsLineFault f line UnknownName = (command : Command) × Says line command × UsesUnknown f command
IsLineFault f line NameTaken = (command : Command) × Says line command × GivesTaken f command
IsLineFault f line fault = (words : List Word) × HasWords line words × CommandAnswer words (Err fault)

-- the fault is a line's own
abbrev pub IsOfLine : RunFault → Type 0
IsOfLine (Line number fault) = Unit {0}
IsOfLine _ = ⊥

-- where a line's own fault ended the script, what the writer holds stays
abbrev pub StaysAtLine : {T : Type 0} → Result T RunFault → Option Text → Option Text → Type 0
StaysAtLine r held holds = (number : ℕ) (fault : LineFault) → IsErrOf r (Line number fault) → holds ≡ held

-- the words are a command that wants memory
abbrev pub AreWanting : Fleet → List Word → Type 0
AreWanting f words = (command : Command) × CommandAnswer words (Ok (Some command)) × WantsMemory f command

-- how the line with this number can end the script: by a fault of its own, by a write fault where its command prints
-- something, or for want of memory, for its command or for more words than stand in place
abbrev pub EndsAt : ℕ → Fleet → Text → RunFault → Type 0
EndsAt number f line (Line told fault) = (told ≡ number) × IsLineFault f line fault
EndsAt number f line ScriptTooLong = ⊥
EndsAt number f line Read = ⊥
EndsAt number f line Write = (command : Command) × Says line command × PrintsSome f command
EndsAt number f line NoMemory =
    (length line ≤ line_limit)
    × ((words_in_place < length (words_of line))
    ⊎ ((command : Command) × Says line command × WantsMemory f command))
