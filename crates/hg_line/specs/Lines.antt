-- What the lines of a script do to a fleet: to its world, and to the names.
use Rattle.std.specs.Prelude.{ℕ, ◌≡◌, ◌⊎◌, ◌≤◌, List, [], ◌∷◌, length, map, Bool, true, ◌&&◌, IsTrue, Option}
use Rattle.std.specs.Prelude.{Some, None, Ok}
use Rattle.std.specs.declared.vec.Vec.{Vec}
use Rattle.std.specs.declared.alloc.Global.{Global}
use Rattle.std.specs.BTreeMap.{BTreeMap, btree_map_len, keys}
use Rattle.std.specs.Map.{update}
use Rattle.std.specs.Option.{option_map_or}
use Rattle.std.specs.Str.{bytes_eq}
use Rattle.hg_changeset.specs.declared.node.Node.{Node}
use Rattle.hg_changeset.specs.Node.{node_eq}
use Rattle.hg_view.specs.Kept.{KeptValue}
use Rattle.hg_world.specs.Runs.{Snapshot, AllEmpty, AllUnmarked}
use Rattle.hg_world.specs.declared.event.Answer.TheVariants.{Accepted, Offered, Marked, Refused}
use Rattle.hg_peer.specs.Words.{peer_state, peer_words}
use Rattle.hg_line.specs.declared.command.Command.{Command}
use Rattle.hg_line.specs.declared.command.Command.TheVariants.{Node as node, Operation as operation, Mark, Offer}
use Rattle.hg_line.specs.declared.command.Command.TheVariants.{Take, Pull, Report, Agree}
use Rattle.hg_line.specs.declared.fleet.Fleet.{Fleet}
use Rattle.hg_line.specs.Commands.{Text, Word, CommandAnswer}
use Rattle.hg_line.specs.Events.{Trace, no_trace, Ran, ArePrinted, PeerAnswer, Meaning, brought, node_at}
use Rattle.hg_line.specs.Events.{message_at, new_labels, AreEventsOf}
use Rattle.hg_line.specs.Limits.{line_limit}
use Rattle.hg_names.specs.declared.labels.Labels.{Labels}
use Rattle.hg_names.specs.Labels.{labelled}
use Rattle.hg_names.specs.Names.{value_of, Binds}
use Rattle.hg_line.specs.Words.{words_of}

-- ---- a fleet's world, and its names

abbrev pub world_of : Fleet → Snapshot KeptValue
world_of f = f.world

abbrev pub places : Fleet → Meaning ℕ
places f = value_of f.nodes

abbrev pub ids : Fleet → Meaning Node
ids f = labelled f.labels

abbrev pub numbers : Fleet → Meaning ℕ
numbers f = value_of f.messages

-- the names of the nodes, in byte order
abbrev pub node_names : Fleet → List Text
node_names f = map (λ k. k.items) (keys f.nodes)

-- the state of the node with this name, if there is one
abbrev pub node_named : Fleet → Text → Option KeptValue
node_named f name = node_at f.world (places f) name

-- the bytes of the message with this name
abbrev pub message_named : Fleet → Text → Option (List ℕ)
message_named f name = message_at f.world (numbers f) name

-- ---- new labels

-- the label names nothing yet, or this id
abbrev pub may_name : Meaning Node → Text → Node → Bool
may_name names label n = option_map_or (λ m. node_eq m n) (names label) true

-- each label in turn may name the id at its place, also after those before it do: no label that is bound names another
-- id, and none that is given twice names two
abbrev pub may_be_bound : Meaning Node → List Text → List Node → Bool
may_be_bound names [] nodes = true
may_be_bound names (label ∷ labels) [] = true
may_be_bound names (label ∷ labels) (n ∷ nodes) =
    may_name names label n && may_be_bound (update bytes_eq names label (Some n)) labels nodes

-- each label may name the id at its place
abbrev pub each_may_name : Meaning Node → List Text → List Node → Bool
each_may_name names [] nodes = true
each_may_name names (label ∷ labels) [] = true
each_may_name names (label ∷ labels) (n ∷ nodes) = may_name names label n && each_may_name names labels nodes

-- each label names the id at its place
abbrev pub bound_to : Meaning Node → List Text → List Node → Meaning Node
bound_to names [] nodes = names
bound_to names (label ∷ labels) [] = names
bound_to names (label ∷ labels) (n ∷ nodes) = bound_to (update bytes_eq names label (Some n)) labels nodes

-- the labels name what the operation added, in order, if it was accepted
abbrev pub AreLabelled : Labels → List Text → List PeerAnswer → Labels → Type 0
AreLabelled old labels [] new = new ≡ old
AreLabelled old labels (Accepted change ∷ answers) new = (name : Text)
    → labelled new name ≡ bound_to (labelled old) labels change.added name
AreLabelled old labels (Offered number ∷ answers) new = new ≡ old
AreLabelled old labels (Marked ∷ answers) new = new ≡ old
AreLabelled old labels (Refused refusal ∷ answers) new = new ≡ old

-- the name stands for the message that was offered, if one was
abbrev pub IsMessageNamed : BTreeMap (Vec ℕ Global) ℕ → Text → List PeerAnswer → BTreeMap (Vec ℕ Global) ℕ → Type 0
IsMessageNamed old name [] new = new ≡ old
IsMessageNamed old name (Accepted change ∷ answers) new = new ≡ old
IsMessageNamed old name (Offered number ∷ answers) new = Binds old name number new
IsMessageNamed old name (Marked ∷ answers) new = new ≡ old
IsMessageNamed old name (Refused refusal ∷ answers) new = new ≡ old

-- the names after a command: a node has the next place, the new labels of an operation name what it added, and a
-- message that was offered has its number. The names of nodes and messages are new, and the labels were free to name
-- what the operation brought
abbrev pub AreNamed : Fleet → Command → Trace → Fleet → Type 0
AreNamed old (node at) t new =
    (places old at.now ≡ None) × Binds old.nodes at.now (btree_map_len old.nodes) new.nodes × (new.labels ≡ old.labels)
    × (new.messages ≡ old.messages)
AreNamed old (operation at op) t new =
    (new.nodes ≡ old.nodes) × IsTrue (may_be_bound (ids old) (new_labels op) (brought t.parts))
    × AreLabelled old.labels (new_labels op) t.answers new.labels × (new.messages ≡ old.messages)
AreNamed old (Mark at marking) t new = (new.nodes ≡ old.nodes) × (new.labels ≡ old.labels)
    × (new.messages ≡ old.messages)
AreNamed old (Offer scope at message labels) t new =
    (new.nodes ≡ old.nodes) × (new.labels ≡ old.labels) × (numbers old message.now ≡ None)
    × IsMessageNamed old.messages message.now t.answers new.messages
AreNamed old (Take at message) t new = (new.nodes ≡ old.nodes) × (new.labels ≡ old.labels)
    × (new.messages ≡ old.messages)
AreNamed old (Pull scope to from) t new = (new.nodes ≡ old.nodes) × (new.labels ≡ old.labels)
    × (new.messages ≡ old.messages)
AreNamed old (Report at) t new = (new.nodes ≡ old.nodes) × (new.labels ≡ old.labels) × (new.messages ≡ old.messages)
AreNamed old (Agree one other) t new = (new.nodes ≡ old.nodes) × (new.labels ≡ old.labels)
    × (new.messages ≡ old.messages)

-- ---- what a command, a line and a script do

-- the world ran the events of the command, each was done or refused by a printed number, and the names are as they are
-- then
pub record Does (old : Fleet) (command : Command) (t : Trace) (new : Fleet) : Type 0 where
  pub asked : AreEventsOf old.world (places old) (ids old) (numbers old) command t.answers t.events
  pub ran : Ran old.world t new.world
  pub printed : ArePrinted t.answers
  pub named : AreNamed old command t new

-- a line of no words does nothing, and any other its command
abbrev pub DoesWords : Fleet → List Word → Trace → Fleet → Type 0
DoesWords old words t new =
    ((words ≡ []) × (t ≡ no_trace) × (new ≡ old))
    ⊎ ((command : Command) × CommandAnswer words (Ok (Some command)) × Does old command t new)

-- the line isn't too long, and what its words say is done
abbrev pub DoesLine : Fleet → Text → Trace → Fleet → Type 0
DoesLine old line t new =
    (length line ≤ line_limit)
    × ((words : List Word) × (map (λ w. w.now) words ≡ words_of line) × DoesWords old words t new)

-- ---- a new fleet

-- a world of so many peers, all empty and without pins, and no message; nothing has a name
pub record IsNewFleet (count : ℕ) (f : Fleet) : Type 0 where
  pub nodes : length f.world.nodes ≡ count
  pub empty : AllEmpty peer_state f.world
  pub unmarked : AllUnmarked peer_state peer_words f.world
  pub messages : f.world.messages ≡ []
  pub no_place : (name : Text) → places f name ≡ None
  pub no_label : (name : Text) → ids f name ≡ None
  pub no_number : (name : Text) → numbers f name ≡ None
