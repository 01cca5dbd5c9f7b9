-- What is a peer's own, and how marks change it.
use Rattle.std.specs.Prelude.{◌≡◌, ◌≢◌, ◌⊎◌, ◌↔◌, List, Bool, Ok, Contains}
use Rattle.std.specs.List.{list_any}
use Rattle.hg_changeset.specs.declared.node.Node.{Node}
use Rattle.hg_changeset.specs.Node.{node_eq}
use Rattle.hg_history.specs.Content.{IsHeld}
use Rattle.hg_replica.specs.Least.{PartValue}
use Rattle.hg_replica.specs.Change.{ChangeValue}
use Rattle.hg_replica.specs.Answer.{IsAbsorbed}
use Rattle.hg_replica.specs.Content.{content_of}
use Rattle.hg_view.specs.Kept.{KeptValue}
use Rattle.hg_view.specs.Pins.{PinAnswer, UnpinAnswer}
use Rattle.hg_view.specs.declared.refusal.PinRefusal.TheVariants.{Unknown, NotPinned}
use Rattle.hg_peer.specs.declared.mark.Mark.{Mark}
use Rattle.hg_peer.specs.declared.mark.Mark.TheVariants.{Pin, Unpin}
use Rattle.hg_peer.specs.declared.refusal.PeerRefusal.{PeerRefusal}
use Rattle.hg_peer.specs.declared.refusal.PeerRefusal.TheVariants.{View}

-- the node is one of the pins
abbrev pub is_pin : List Node → Node → Bool
is_pin pins n = list_any (node_eq n) pins

-- what is a peer's own: which changesets it pins
abbrev pub own : KeptValue → Node → Bool
own s = is_pin s.pins

-- the change says what the part made of the replica, and the pins are as they were
abbrev pub Tells : KeptValue → PartValue → ChangeValue → KeptValue → Type 0
Tells s part change t = IsAbsorbed s.replica part change t.replica × (t.pins ≡ s.pins)

-- the replica is as it was, and the pins are those before with the one that is held, or without the one that was there
abbrev pub Marks : KeptValue → Mark → KeptValue → Type 0
Marks s (Pin n) t = (t.replica ≡ s.replica) × PinAnswer (content_of s.replica) s.pins n (Ok tt) t.pins
Marks s (Unpin n) t = (t.replica ≡ s.replica) × UnpinAnswer s.pins n (Ok tt) t.pins

-- what is to be pinned isn't held, or what is to be unpinned isn't pinned
abbrev pub IsAgainstMark : KeptValue → Mark → PeerRefusal → Type 0
IsAgainstMark s (Pin n) refusal = (refusal ≡ View (Unknown n)) × ¬ (IsHeld (content_of s.replica).0 n)
IsAgainstMark s (Unpin n) refusal = (refusal ≡ View (NotPinned n)) × ¬ (Contains s.pins n)

-- the mark has something to change: what is to be pinned is held and isn't pinned yet, or what is to be unpinned is
-- pinned
abbrev pub ChangesPins : KeptValue → Mark → Type 0
ChangesPins s (Pin n) = IsHeld (content_of s.replica).0 n × ¬ (Contains s.pins n)
ChangesPins s (Unpin n) = Contains s.pins n

-- the pins after a mark: those before with the one that it names, or without it
abbrev pub ArePinsAfter : Mark → List Node → List Node → Type 0
ArePinsAfter (Pin n) before after = (m : Node) → Contains after m ↔ (Contains before m ⊎ (n ≡ m))
ArePinsAfter (Unpin n) before after = (m : Node) → Contains after m ↔ (Contains before m × (m ≢ n))
