-- What a node has in view: on what it pins stands something of its own, so that counts as not obsolete there, and
-- nowhere else.
use Rattle.std.specs.Prelude.{◌≡◌, ◌≢◌, ◌⊎◌, ◌↔◌, List, Contains, Result, Ok, Err}
use Rattle.hg_changeset.specs.declared.node.Node.{Node}
use Rattle.hg_phases.specs.declared.phase.Phase.TheVariants.{Secret}
use Rattle.hg_history.specs.Content.{IsHeld, Leads}
use Rattle.hg_replica.specs.Content.{Content}
use Rattle.hg_replica.specs.Evolution.{HasPhase, IsObsolete}
use Rattle.hg_view.specs.declared.refusal.PinRefusal.{PinRefusal}
use Rattle.hg_view.specs.declared.refusal.PinRefusal.TheVariants.{Unknown, NotPinned, NoMemory}

-- ---- views under pins

-- obsolete, and not pinned
abbrev pub CountsAsObsolete : Content → List Node → Node → Type 0
CountsAsObsolete f pins n = IsObsolete f n × ¬ (Contains pins n)

-- held, and not obsolete or pinned: it stays in view, and keeps its ancestors there
abbrev pub IsDescendantShown : Content → List Node → Node → Type 0
IsDescendantShown f pins n = IsHeld f.0 n × ¬ (CountsAsObsolete f pins n)

-- it, or a descendant of it, is shown
abbrev pub IsVisibleUnder : Content → List Node → Node → Type 0
IsVisibleUnder f pins n = (d : Node) × IsDescendantShown f pins d × Leads f.0 n d

-- held, and not visible
abbrev pub IsHiddenUnder : Content → List Node → Node → Type 0
IsHiddenUnder f pins n = IsHeld f.0 n × ¬ (IsVisibleUnder f pins n)

-- visible, and not secret: what others are given
abbrev pub IsServedUnder : Content → List Node → Node → Type 0
IsServedUnder f pins n = IsVisibleUnder f pins n × ¬ (HasPhase f n Secret)

-- ---- how pins change

-- each of the one stands among the other
abbrev pub AreAmong : List Node → List Node → Type 0
AreAmong pins others = (n : Node) → Contains pins n → Contains others n

-- they have the same members
abbrev pub AreSamePins : List Node → List Node → Type 0
AreSamePins pins others = (n : Node) → Contains pins n ↔ Contains others n

-- the answer to `Pins::pin`, where they were the first and are the last then: what isn't held is refused, and nothing
-- else; a second pin changes nothing, and memory can be wanting only for a first
abbrev pub PinAnswer : Content → List Node → Node → Result (Unit {0}) PinRefusal → List Node → Type 0
PinAnswer f before node (Ok done) after =
    IsHeld f.0 node × ((n : Node) → Contains after n ↔ (Contains before n ⊎ (node ≡ n)))
    × (Contains before node → after ≡ before)
PinAnswer f before node (Err (Unknown n)) after = (n ≡ node) × ¬ (IsHeld f.0 node) × (after ≡ before)
PinAnswer f before node (Err (NotPinned n)) after = ⊥
PinAnswer f before node (Err NoMemory) after = IsHeld f.0 node × ¬ (Contains before node) × (after ≡ before)

-- the answer to `Pins::unpin`: what isn't pinned is refused, and nothing else
abbrev pub UnpinAnswer : List Node → Node → Result (Unit {0}) PinRefusal → List Node → Type 0
UnpinAnswer before node (Ok done) after =
    Contains before node × ((n : Node) → Contains after n ↔ (Contains before n × (n ≢ node)))
UnpinAnswer before node (Err (NotPinned n)) after = (n ≡ node) × ¬ (Contains before node) × (after ≡ before)
UnpinAnswer before node (Err (Unknown n)) after = ⊥
UnpinAnswer before node (Err NoMemory) after = ⊥
