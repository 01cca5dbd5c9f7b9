-- Accepted calls of a node as steps of a world of one peer.
use Rattle.std.specs.Prelude.{ℕ, List, [], ◌∷◌, Some, None}
use Rattle.hg_replica.specs.Change.{ChangeValue}
use Rattle.hg_view.specs.Kept.{KeptValue}
use Rattle.hg_world.specs.declared.event.Answer.TheVariants.{Accepted, Marked}
use Rattle.hg_world.specs.Runs.{Happens}
use Rattle.hg_peer.specs.Words.{peer_state, peer_words, PeerEvent, PeerWorld}
use Rattle.hg_live.specs.declared.entry.Entry.{Entry}
use Rattle.hg_live.specs.declared.entry.Entry.TheVariants.{Part, Mark}

-- the world of one peer in this state, with these messages
abbrev pub alone : KeptValue → List (List ℕ) → PeerWorld
alone s messages = record { nodes = s ∷ []; messages = messages }

-- from s the event leads to t there: the part of the entry is accepted, or the entry is the mark that is made
abbrev pub IsStep : List (List ℕ) → KeptValue → PeerEvent → Entry → KeptValue → Type 0
IsStep messages s event (Part k) t =
    (change : ChangeValue)
    × Happens peer_state peer_words (alone s messages) event (Accepted change) (Some k) (alone t messages)
IsStep messages s event (Mark m) t =
    Happens peer_state peer_words (alone s messages) event Marked None (alone t messages)
