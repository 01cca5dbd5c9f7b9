-- What the program does, and why it ends early.
use Rattle.std.specs.Prelude.{◌≡◌, ◌⊎◌, ◌≤◌, ◌<◌, ◌==◌, ◌++◌, ◌∷◌, [], ℕ, Bool, true, false, List, Option, None, Some}
use Rattle.std.specs.Prelude.{All, Err, IfSome, IsSome, MatchOption, String, codes, if◌then◌else◌, length, string_bytes}
use Rattle.std.specs.Prelude.{take}
use Rattle.std.specs.declared.alloc.Global.{Global}
use Rattle.std.specs.Io.KnownBytes.{Appends}
use Rattle.std.specs.List.{Contains}
use Rattle.std.specs.Option.{option_map_or}
use Rattle.std.specs.Str.Lines.{lines}
use Rattle.hg_changeset.specs.declared.node.Node.{Node}
use Rattle.hg_log.specs.Drawings.{ArePieces, Text}
use Rattle.hg_log.specs.Graphs.{IsGraphOf}
use Rattle.hg_log.specs.Objects.{IsArray, NodeState}
use Rattle.hg_obsstore.specs.Spelling.{store_spelling}
use Rattle.hg_phases.specs.Roots.{AreRoots}
use Rattle.hg_phaseroots.specs.Reading.{Root}
use Rattle.hg_phaseroots.specs.Writing.{IsWritten}
use Rattle.hg_race.specs.Lines.{race_lines}
use Rattle.hg_race.specs.Pairs.{IsOfPairs}
use Rattle.hg_line.specs.declared.fault.RunFault.{RunFault}
use Rattle.hg_replica.specs.Content.{content_of}
use Rattle.hg_line.specs.declared.fault.RunFault.TheVariants.{Read, NoMemory, ScriptTooLong}
use Rattle.hg_line.specs.declared.fault.RunFault.TheVariants as run
use Rattle.hg_line.specs.declared.fleet.Fleet.{Fleet}
use Rattle.hg_line.specs.declared.telling.Notes.{Notes}
use Rattle.hg_line.specs.Faults.{status_of as run_status}
use Rattle.hg_script.specs.Inputs.{IsInputFault}
use Rattle.hg_script.specs.Limits.{script_limit}
use Rattle.hg_line.specs.Printing.{no_notes}
use Rattle.hg_script.specs.Printing.{WritesCounted, WritesScript}
use Rattle.hg_line.specs.Lines.{ids, message_named, node_named, node_names}
use Rattle.hg_script.specs.Scripts.{IsLeftFleet, IsScriptOf}
use Rattle.hg_script.specs.Stops.{IsStop}
use Rattle.hg_show.specs.declared.form.Form.{Form}
use Rattle.hg_show.specs.declared.form.Form.TheVariants.{Store, Roots, Message}
use Rattle.hg_show.specs.declared.fault.ShowFault.TheVariants as shown
use Rattle.hg_show.specs.Answers.{EndsInput, IsInput, ShowAnswer, fault_in}
use Rattle.hg_show.specs.Faults.{status_of as show_status}
use Rattle.hg_show.specs.Printing.{AreBytesShown}
use Rattle.hg_view.specs.Kept.{KeptValue}
use Rattle.hg_why.specs.declared.remedy.Remedy.TheVariants.{ScriptLine}
use Rattle.hg_why.specs.FateLines.{IsFateLine, IsKnown}
use Rattle.hg_world.specs.Runs.{Snapshot}
use Rattle.hgfleet.specs.declared.arguments.Picture.{Picture}
use Rattle.hgfleet.specs.declared.arguments.Picture.TheVariants as pictures
use Rattle.hgfleet.specs.declared.arguments.Wanted.{Wanted}
use Rattle.hgfleet.specs.declared.arguments.Wanted.TheVariants as wanted
use Rattle.hgfleet.specs.declared.arguments.Wanted.TheVariants.{Run, RunWithNotes, Race, Show, Write, Why, Fate}
use Rattle.hgfleet.specs.declared.arguments.Wanted.TheVariants.{Check, Compare, Help, Try, Version}
use Rattle.hgfleet.specs.Trying.{EndsComparison, EndsTrial, IsComparison, IsTakenTrial}
use Rattle.hgfleet.specs.declared.commands.Overview.{Overview}
use Rattle.hgfleet.specs.declared.commands.Overview.TheVariants.{Each, Graph, Array}
use Rattle.hgfleet.specs.declared.drawing.Drawing.{Drawing}
use Rattle.hgfleet.specs.declared.drawing.Drawing.TheVariants as drawn
use Rattle.hgfleet.specs.declared.drawing.Drawing.TheVariants.{Log}
use Rattle.hgfleet.specs.declared.failure.Failure.{Failure}
use Rattle.hgfleet.specs.declared.failure.Failure.TheVariants as failed
use Rattle.hgfleet.specs.declared.failure.Failure.TheVariants.{Noted, Refused, UnknownName, UnknownNode, OutputClosed}
use Rattle.hgfleet.specs.declared.failure.Failure.TheVariants.{Differ, File, FewLines, NotTaken, Unmet}
use Rattle.hgfleet.specs.Arguments.{texts_of}
use Rattle.hgfleet.specs.Checking.{EndsCheck, IsCheck}
use Rattle.hgfleet.specs.Drawings.{IsDrawing, gap_behind}

-- ---- why a command ends early

-- the exit status: 3 for want of memory, otherwise 1
abbrev pub failure_status : Failure → ℕ
failure_status (failed.Run fault) = run_status fault
failure_status (Noted noted) = run_status noted.fault
failure_status (Refused count) = 1
failure_status (failed.Show fault) = show_status fault
failure_status (UnknownName name) = 1
failure_status (UnknownNode name nodes) = 1
failure_status (FewLines count) = 1
failure_status (File name fault) = 1
failure_status (NotTaken told) = 1
failure_status Differ = 1
failure_status (Unmet count) = 1
failure_status OutputClosed = 1

-- a write failed, or memory was wanting
abbrev pub IsOutputFailure : Failure → Type 0
IsOutputFailure failure = (failure ≡ failed.Run run.Write) ⊎ (failure ≡ failed.Run NoMemory)

-- a text couldn't be written
abbrev pub IsWriteFailure : Failure → Type 0
IsWriteFailure (failed.Run fault) = fault ≡ run.Write
IsWriteFailure (Noted noted) = noted.fault ≡ run.Write
IsWriteFailure (failed.Show fault) = fault ≡ shown.Write
IsWriteFailure _ = ⊥

-- ---- what is drawn

-- what is shown for a picture: a drawing of each node, one graph, or one array; only a drawing has colours
abbrev pub overview_of : Bool → Bool → Picture → Overview
overview_of shows_hidden is_coloured pictures.Text =
    Each (Log (record { shows_hidden = shows_hidden; is_coloured = is_coloured }))
overview_of shows_hidden is_coloured pictures.Graph = Graph shows_hidden
overview_of shows_hidden is_coloured pictures.Json = Array shows_hidden

-- the drawing of the node of this name, none where there is no such node
abbrev pub IsDrawn : Fleet → Drawing → Text → Text → Type 0
IsDrawn fleet drawing name text =
    MatchOption (node_named fleet name) (text ≡ [])
    (λ kept. IsDrawing drawing name kept text)

-- the drawings of the nodes of these names, in their order, behind another one, with what stands between them
abbrev pub AreDrawnBehind : Fleet → Drawing → Text → List Text → Text → Type 0
AreDrawnBehind fleet drawing before [] text = text ≡ []
AreDrawnBehind fleet drawing before (name ∷ names) text =
    (first : Text) × (others : Text) × IsDrawn fleet drawing name first
    × AreDrawnBehind fleet drawing first names others × (text ≡ gap_behind drawing before ++ (first ++ others))

abbrev pub AreDrawn : Fleet → Drawing → List Text → Text → Type 0
AreDrawn fleet drawing names text = AreDrawnBehind fleet drawing [] names text

-- the node of this name with what it holds, if there is one
abbrev pub node_state_of : Fleet → Text → List NodeState
node_state_of fleet name = option_map_or (λ kept. (name, kept) ∷ []) (node_named fleet name) []

-- the nodes of these names that there are, in their order
abbrev pub node_states_of : Fleet → List Text → List NodeState
node_states_of fleet [] = []
node_states_of fleet (name ∷ names) = node_state_of fleet name ++ node_states_of fleet names

-- the drawings of the nodes of these names, or the graph or the array of all of them
abbrev pub AreShown : Fleet → Overview → List Text → Text → Type 0
AreShown fleet (Each drawing) names text = AreDrawn fleet drawing names text
AreShown fleet (Graph shows_hidden) names text = IsGraphOf shows_hidden (node_states_of fleet names) text
AreShown fleet (Array shows_hidden) names text = IsArray shows_hidden (node_states_of fleet names) text

-- the names that are given, or those of all nodes where none is
abbrev pub drawn_names : Fleet → List Text → List Text
drawn_names fleet [] = node_names fleet
drawn_names fleet (name ∷ names) = name ∷ names

-- the name is given, and no node has it
abbrev pub IsUnknownAmong : List (String Global) → Fleet → Text → Type 0
IsUnknownAmong given fleet name =
    (s : String Global) × Contains given s × (name ≡ string_bytes s) × (node_named fleet name ≡ None)

-- ---- what is told of fates

-- the line of the node that holds this, where that knows of the changeset, and else nothing
abbrev pub IsFateIn : Text → Node → Text → KeptValue → Text → Type 0
IsFateIn label node name kept text =
    (IsKnown (content_of kept.replica) node × IsFateLine (content_of kept.replica) label name node text)
    ⊎ (¬ (IsKnown (content_of kept.replica) node) × (text ≡ []))

-- the same of the node of this name, if there is one
abbrev pub IsFateAt : Fleet → Text → Node → Text → Text → Type 0
IsFateAt fleet label node name text =
    MatchOption (node_named fleet name) (text ≡ []) (λ kept. IsFateIn label node name kept text)

-- the lines of the nodes of these names, in their order, if a changeset has the label
abbrev pub AreFatesAt : Fleet → List Text → Text → Text → Type 0
AreFatesAt fleet names label text =
    MatchOption (ids fleet label) (text ≡ []) (λ node. ArePieces (IsFateAt fleet label node) names text)

-- the lines of all nodes, for each of these labels, in their order
abbrev pub AreFates : Fleet → List Text → Text → Type 0
AreFates fleet labels text = ArePieces (AreFatesAt fleet (node_names fleet)) labels text

-- the label is given, and no changeset has it
abbrev pub IsUnlabelledAmong : List (String Global) → Fleet → Text → Type 0
IsUnlabelledAmong given fleet label =
    (s : String Global) × Contains given s × (label ≡ string_bytes s) × (ids fleet label ≡ None)

-- ---- what is written

-- the text is the store, or the roots, of the node of this name; or the message of this name
abbrev pub IsFormOf : Fleet → Form → Text → Text → Type 0
IsFormOf fleet Store name text =
    (kept : KeptValue) × (node_named fleet name ≡ Some kept) × (text ≡ store_spelling kept.replica.markers)
IsFormOf fleet Roots name text =
    (kept : KeptValue) × (node_named fleet name ≡ Some kept)
    × ((roots : List Root) × AreRoots kept.replica.history roots × IsWritten roots text)
IsFormOf fleet Message name text = message_named fleet name ≡ Some text

-- there is no node of this name, or no message
abbrev pub HasNone : Form → Fleet → Text → Type 0
HasNone Store fleet name = node_named fleet name ≡ None
HasNone Roots fleet name = node_named fleet name ≡ None
HasNone Message fleet name = message_named fleet name ≡ None

-- this is the name that is given, and there is no node, or no message, that has it
abbrev pub IsUnknownOf : Form → Text → Fleet → Text → Type 0
IsUnknownOf form given fleet name = (name ≡ given) × HasNone form fleet name

-- ---- what is told of refused lines

-- nothing is told of a script but why its lines were refused
abbrev pub refusals_told : Notes
refusals_told = record { explains = true; traces = false; refusals_alone = true }

-- what is told behind the refusals of so many lines
abbrev pub closing : ℕ → Text
closing refused =
    if refused == 0 then [] else codes "hgfleet: what is shown is without the lines that were refused\n"

-- what is told grew by why lines of the script were refused that leaves this fleet, and by what is told behind that
abbrev pub TellsRefused : Option Text → Fleet → Text → Text → Type 0
TellsRefused known fleet before after =
    (refused : ℕ) × (told : Text) × WritesCounted refusals_told known fleet.world refused (Some before) (Some told)
    × (after ≡ told ++ closing refused)

-- ---- what is done

abbrev pub notes_of : Bool → Bool → Notes
notes_of explains traces = record { explains = explains; traces = traces; refusals_alone = false }

-- the script was run with these notes, and so many of its lines were refused
abbrev pub RunsWithNotes : Notes → ℕ → Option Text → Option Text → Option Text → Type 0
RunsWithNotes notes refused known held holds =
    (fleet : Fleet) × IsLeftFleet known fleet × WritesCounted notes known fleet.world refused held holds

-- the same, where none was if that is strict
abbrev pub IsDoneWithNotes : Bool → Notes → Option Text → Option Text → Option Text → Type 0
IsDoneWithNotes is_strict notes known held holds =
    (refused : ℕ) × RunsWithNotes notes refused known held holds × (is_strict ≡ true → refused ≡ 0)

-- of what the script leaves, which has nodes of these names, those are shown, or all where none is named
abbrev pub DrawsNodes : List (String Global) → Overview → Option Text → Option Text → Option Text → Text → Text
    → Type 0
DrawsNodes nodes overview known held holds before after =
    (fleet : Fleet) × (text : Text) × IsLeftFleet known fleet × TellsRefused known fleet before after
    × All (λ name. IsSome (node_named fleet (string_bytes name))) nodes
    × AreShown fleet overview (drawn_names fleet (texts_of nodes)) text × Appends held holds text

-- the front of the text that has so many lines
abbrev pub IsFrontOf : ℕ → Text → Text → Type 0
IsFrontOf count text front = (count ≤ length (lines text)) × (lines front ≡ take count (lines text))

-- the same of the front of the script that ends with this line
abbrev pub DrawsFront : ℕ → List (String Global) → Overview → Option Text → Option Text → Option Text → Text → Text
    → Type 0
DrawsFront line nodes overview known held holds before after =
    (text : Text) × (front : Text) × IsScriptOf known text × IsFrontOf line text front
    × DrawsNodes nodes overview (Some front) held holds before after

-- the same where a line is given, and else of the script
abbrev pub DrawsUpTo : Option ℕ → List (String Global) → Overview → Option Text → Option Text → Option Text → Text
    → Text → Type 0
DrawsUpTo None nodes overview known held holds before after =
    DrawsNodes nodes overview known held holds before after
DrawsUpTo (Some line) nodes overview known held holds before after =
    DrawsFront line nodes overview known held holds before after

-- of what the script leaves, where changesets have these labels, their fates are told
abbrev pub TellsFates : List (String Global) → Option Text → Option Text → Option Text → Text → Text → Type 0
TellsFates labels known held holds before after =
    (fleet : Fleet) × (text : Text) × IsLeftFleet known fleet × TellsRefused known fleet before after
    × All (λ label. IsSome (ids fleet (string_bytes label))) labels × AreFates fleet (texts_of labels) text
    × Appends held holds text

-- of what the script leaves, this form of what has this name is written
abbrev pub WritesForm : Form → Text → Option Text → Option Text → Option Text → Text → Text → Type 0
WritesForm form name known held holds before after =
    (fleet : Fleet) × (text : Text) × IsLeftFleet known fleet × TellsRefused known fleet before after
    × IsFormOf fleet form name text × Appends held holds text

-- a script was checked; where it is to be explained, what is told grew by why its lines were refused
abbrev pub DoesCheck : Bool → Bool → Option Text → Option Text → Option Text → Text → Text → Type 0
DoesCheck false fills known held holds before after = IsCheck fills known held holds
DoesCheck true fills known held holds before after =
    (text : Text) × (world : Snapshot KeptValue) × (refused : ℕ) × IsScriptOf known text
    × WritesCounted refusals_told (Some text) world refused (Some before) (Some after)
    × IsCheck fills (Some text) held holds

-- what is wanted is done, with colours or without: the script, or the bytes, is what was to be read, where that is
-- known, and what was held by the writer, where that is known, grew by what came of it; and what is told of refused
-- lines grew from one text to the other
abbrev pub DoesWanted : Wanted → Bool → Option Text → Option Text → Option Text → Text → Text → Type 0
DoesWanted Run is_coloured known held holds before after =
    (world : Snapshot KeptValue) × WritesScript no_notes known world held holds
DoesWanted (RunWithNotes explains traces is_strict) is_coloured known held holds before after =
    IsDoneWithNotes is_strict (notes_of explains traces) known held holds
DoesWanted (Race nodes rounds) is_coloured known held holds before after =
    (written : ℕ) × (read_back : ℕ) × (agreeing : ℕ) × IsOfPairs nodes agreeing
    × Appends held holds (race_lines nodes rounds written read_back agreeing)
DoesWanted (wanted.Log nodes shows_hidden picture line) is_coloured known held holds before after =
    DrawsUpTo line nodes.items (overview_of shows_hidden is_coloured picture) known held holds before after
DoesWanted (Why nodes) is_coloured known held holds before after =
    DrawsNodes nodes.items (Each (drawn.Why ScriptLine)) known held holds before after
DoesWanted (Fate labels) is_coloured known held holds before after =
    TellsFates labels.items known held holds before after
DoesWanted (Show form) is_coloured known held holds before after =
    (bytes : Text) × (text : Text) × IsInput known bytes × AreBytesShown form bytes text × Appends held holds text
DoesWanted (Write form name) is_coloured known held holds before after =
    WritesForm form (string_bytes name) known held holds before after
DoesWanted (Try trial) is_coloured known held holds before after = IsTakenTrial trial held holds
DoesWanted (Compare first second) is_coloured known held holds before after = IsComparison (Some true) held holds
DoesWanted (Check fills explains) is_coloured known held holds before after =
    DoesCheck explains fills known held holds before after
DoesWanted (Help text) is_coloured known held holds before after = Appends held holds (string_bytes text)
DoesWanted (Version text) is_coloured known held holds before after = Appends held holds (string_bytes text)

-- only of a script whose own lines aren't printed is told why lines were refused, of one that is checked where that is
-- asked for
abbrev pub LeavesRefusals : Wanted → Text → Text → Type 0
LeavesRefusals (wanted.Log nodes shows_hidden picture line) before after = Unit {0}
LeavesRefusals (Why nodes) before after = Unit {0}
LeavesRefusals (Fate labels) before after = Unit {0}
LeavesRefusals (Write form name) before after = Unit {0}
LeavesRefusals (Check fills explains) before after = explains ≡ false → after ≡ before
LeavesRefusals _ before after = after ≡ before

-- ---- why it ends early

-- a read or a write failed, or memory was wanting
abbrev pub IsStreamFault : RunFault → Type 0
IsStreamFault fault = (fault ≡ Read) ⊎ (fault ≡ run.Write) ⊎ (fault ≡ NoMemory)

-- a run with these notes ends so: there are no keys for it; the script was stopped; or it was done, is strict, and so
-- many of its lines were refused
abbrev pub EndsWithNotes : Bool → Notes → Option Text → Option Text → Option Text → Failure → Type 0
EndsWithNotes is_strict notes known held holds (failed.Run fault) = (fault ≡ Read) × (holds ≡ held)
EndsWithNotes is_strict notes known held holds (Noted noted) = IsStop notes known noted.fault held holds
EndsWithNotes is_strict notes known held holds (Refused count) =
    (is_strict ≡ true) × (1 ≤ count) × RunsWithNotes notes count known held holds
EndsWithNotes is_strict notes known held holds _ = ⊥

-- the script whose refusals are told in a text was stopped so; or there was no memory for the text
abbrev pub IsToldStop : Option Text → RunFault → Text → Text → Type 0
IsToldStop known fault before after = IsStop refusals_told known fault (Some before) (Some after) ⊎ (fault ≡ NoMemory)

-- a command over what a script leaves ends so: the script was stopped, and until then it was told why lines were
-- refused; or there are no keys, a write failed or memory was wanting; or the script leaves nothing of a name. Only
-- where a write failed, or memory was wanting, may something be written
abbrev pub EndsAfterScript : Option Text → (Fleet → Text → Type 0) → Option Text → Option Text → Text → Text → Failure
    → Type 0
EndsAfterScript known IsUnknown held holds before after (failed.Run fault) =
    ((fault ≡ Read) × (holds ≡ held) × (after ≡ before)) ⊎ ((fault ≡ run.Write) ⊎ (fault ≡ NoMemory))
EndsAfterScript known IsUnknown held holds before after (Noted noted) =
    IsToldStop known noted.fault before after × (holds ≡ held)
EndsAfterScript known IsUnknown held holds before after (UnknownName name) =
    ((fleet : Fleet) × IsLeftFleet known fleet × TellsRefused known fleet before after × IsUnknown fleet name.now)
    × (holds ≡ held)
EndsAfterScript known IsUnknown held holds before after (UnknownNode name nodes) =
    ((fleet : Fleet) × IsLeftFleet known fleet × TellsRefused known fleet before after × IsUnknown fleet name.now)
    × (holds ≡ held)
EndsAfterScript known IsUnknown held holds before after _ = ⊥

-- the script wasn't read: it is too long, a read failed, or memory was wanting
abbrev pub IsUnreadScript : Option Text → Failure → Type 0
IsUnreadScript known (failed.Run fault) =
    IsInputFault fault × (fault ≡ ScriptTooLong → IfSome known (λ bytes. script_limit < length bytes))
IsUnreadScript known _ = ⊥

-- the script has so many lines, fewer than this one
abbrev pub HasFewer : ℕ → Option Text → Failure → Type 0
HasFewer line known (FewLines count) =
    (text : Text) × IsScriptOf known text × (count ≡ length (lines text)) × (count < line)
HasFewer line known _ = ⊥

-- a log of the front of the script that ends with this line ends so: the script wasn't read, or has fewer lines, and
-- nothing is written or told; or as one of this front
abbrev pub EndsFront : ℕ → List (String Global) → Option Text → Option Text → Option Text → Text → Text → Failure
    → Type 0
EndsFront line nodes known held holds before after failure =
    ((IsUnreadScript known failure ⊎ HasFewer line known failure) × ((holds ≡ held) × (after ≡ before)))
    ⊎ ((text : Text) × (front : Text) × IsScriptOf known text × IsFrontOf line text front
    × EndsAfterScript (Some front) (IsUnknownAmong nodes) held holds before after failure)

-- the same where a line is given, and else as a log of the script
abbrev pub EndsUpTo : Option ℕ → List (String Global) → Option Text → Option Text → Option Text → Text → Text → Failure
    → Type 0
EndsUpTo None nodes known held holds before after failure =
    EndsAfterScript known (IsUnknownAmong nodes) held holds before after failure
EndsUpTo (Some line) nodes known held holds before after failure =
    EndsFront line nodes known held holds before after failure

-- the script was stopped, and until then it was told why lines were refused
abbrev pub IsNotedStop : Option Text → Text → Text → Failure → Type 0
IsNotedStop known before after (Noted noted) = IsToldStop known noted.fault before after
IsNotedStop known before after _ = ⊥

-- a check ends so; where it is to be explained, the script wasn't read, and nothing is told; or it was stopped, and
-- nothing is written; or it ends as a check of the text that was read
abbrev pub EndsDoneCheck : Bool → Bool → Option Text → Option Text → Option Text → Text → Text → Failure → Type 0
EndsDoneCheck false fills known held holds before after failure = EndsCheck fills known held holds failure
EndsDoneCheck true fills known held holds before after failure =
    (IsUnreadScript known failure × ((holds ≡ held) × (after ≡ before)))
    ⊎ ((text : Text) × IsScriptOf known text
    × ((IsNotedStop (Some text) before after failure × (holds ≡ held))
    ⊎ EndsCheck fills (Some text) held holds failure))

-- why what is wanted can end early, with so much left to be read, and what the writer holds then: the script was
-- stopped, or there are no keys for it; lines of a strict run were refused; a race was done, and its lines not written,
-- or it wasn't done; reading the bytes that are to be shown ended early, or what is told is so of them; or a write
-- failed
abbrev pub IsFailure : Wanted → Option Text → Option Text → Option Text → Option Text → Text → Text → Failure → Type 0
IsFailure Run known left held holds before after (failed.Run fault) = IsStop no_notes known fault held holds
IsFailure (RunWithNotes explains traces is_strict) known left held holds before after failure =
    EndsWithNotes is_strict (notes_of explains traces) known held holds failure
IsFailure (Race nodes rounds) known left held holds before after (failed.Run fault) =
    IsStreamFault fault × ((fault ≡ run.Write) ⊎ (holds ≡ held))
IsFailure (wanted.Log nodes shows_hidden picture line) known left held holds before after failure =
    EndsUpTo line nodes.items known held holds before after failure
IsFailure (Why nodes) known left held holds before after failure =
    EndsAfterScript known (IsUnknownAmong nodes.items) held holds before after failure
IsFailure (Fate labels) known left held holds before after failure =
    EndsAfterScript known (IsUnlabelledAmong labels.items) held holds before after failure
IsFailure (Show form) known left held holds before after (failed.Show fault) =
    EndsInput {A = Unit {0}} known left (Err fault)
    ⊎ ((bytes : Text) × IsInput known bytes × ShowAnswer {A = Unit {0}} (fault_in form bytes) (Err fault))
IsFailure (Write form name) known left held holds before after failure =
    EndsAfterScript known (IsUnknownOf form (string_bytes name)) held holds before after failure
IsFailure (Try trial) known left held holds before after failure = EndsTrial trial held holds failure
IsFailure (Compare first second) known left held holds before after failure =
    EndsComparison (string_bytes first) (string_bytes second) held holds failure
IsFailure (Check fills explains) known left held holds before after failure =
    EndsDoneCheck explains fills known held holds before after failure
IsFailure (Help text) known left held holds before after failure = failure ≡ failed.Run run.Write
IsFailure (Version text) known left held holds before after failure = failure ≡ failed.Run run.Write
IsFailure _ known left held holds before after failure = ⊥
