-- In what two replicas differ, and what is written of that.
use Rattle.std.specs.Prelude.{◌≡◌, ◌⊎◌, ◌↔◌, ◌++◌, ℕ, zero, suc, [], Bool, if◌then◌else◌}
use Rattle.std.specs.Prelude.{IsTrue, Option, None, Some, codes, decimal, length}
use Rattle.std.specs.Io.KnownBytes.{Appends}
use Rattle.hg_changeset.specs.declared.node.Node.{Node}
use Rattle.hg_log.specs.Drawings.{Grows, IsLine, StandsAt, Text}
use Rattle.hg_phases.specs.State.{Holds, changesets}
use Rattle.hg_replica.specs.Content.{content_of}
use Rattle.hg_replica.specs.Change.{ChangeValue}
use Rattle.hg_replica.specs.State.{IsSameState, ReplicaState, nothing_held}
use Rattle.hg_trial.specs.declared.refusal.Refusal.{Refusal}
use Rattle.hg_trial.specs.Differences.{HasOtherPhase, markers_lacked}
use Rattle.hg_trial.specs.Trials.{IsFault, IsRefused, IsTaken}
use Rattle.hg_view.specs.Kept.{KeptValue}
use Rattle.hg_preview.specs.Lines.{IsLineOf}

-- ---- in what they differ

-- the changeset stands at this place of the one, and the other lacks it
abbrev pub IsLackedAt : KeptValue → KeptValue → ℕ → Node → Type 0
IsLackedAt lacking having place n = StandsAt having place n × ¬ (Holds lacking.replica.history n)

-- the changeset stands at this place of the first, and the second holds it in another phase
abbrev pub IsInOtherPhaseAt : KeptValue → KeptValue → ℕ → Node → Type 0
IsInOtherPhaseAt first second place n =
    StandsAt first place n × HasOtherPhase (content_of first.replica) (content_of second.replica) n

-- ---- what is written

-- a line with the short id of a changeset that is so, nothing where none is
abbrev pub IsLineWhere : (Node → Type 0) → Text → Type 0
IsLineWhere P text = ((n : Node) × P n × IsLineOf n text) ⊎ ((¬ ((n : Node) × P n)) × (text ≡ []))

-- such lines of so many places from the first on, one after the other
abbrev pub AreLinesWhere : (ℕ → Node → Type 0) → ℕ → Text → Type 0
AreLinesWhere P zero text = text ≡ []
AreLinesWhere P (suc place) text =
    (before : Text) × (here : Text) × AreLinesWhere P place before × IsLineWhere (P place) here
    × (text ≡ before ++ here)

-- a line that ends with how many markers there are, nothing where there is none
abbrev pub IsCountText : ℕ → Text → Type 0
IsCountText zero text = text ≡ []
IsCountText (suc more) text = (front : Text) × IsLine (front ++ (decimal (suc more) ++ codes " markers")) text

-- what the one lacks of the other: a line for each changeset, and one for the markers
abbrev pub IsLackText : KeptValue → KeptValue → Text → Type 0
IsLackText lacking having text =
    (nodes : Text) × (markers : Text)
    × AreLinesWhere (IsLackedAt lacking having) (length (changesets having.replica.history)) nodes
    × IsCountText (length (markers_lacked lacking.replica.markers having.replica.markers)) markers
    × (text ≡ nodes ++ markers)

-- whether they agree
abbrev pub agreement : Bool → Text
agreement answer = if answer then codes "agree: yes" else codes "agree: no"

-- what either lacks of the other, a line for each changeset that is in another phase, and a last one that says whether
-- they agree
pub record IsComparisonText (first second : KeptValue) (answer : Bool) (text : Text) : Type 0 where
  pub first_lacks : Text
  pub second_lacks : Text
  pub phases : Text
  pub last : Text
  pub of_first : IsLackText first second first_lacks
  pub of_second : IsLackText second first second_lacks
  pub of_phases : AreLinesWhere (IsInOtherPhaseAt first second) (length (changesets first.replica.history)) phases
  pub of_last : IsLine (agreement answer) last
  pub all : text ≡ first_lacks ++ (second_lacks ++ (phases ++ last))

-- ---- messages

-- what holds nothing takes the message, and holds this then
abbrev pub IsOpened : Text → ReplicaState → Type 0
IsOpened bytes s = (change : ChangeValue) × IsTaken nothing_held bytes change s

-- what holds nothing refuses the message, not for want of memory
abbrev pub IsUnfit : Text → Type 0
IsUnfit bytes = (refusal : Refusal) × IsFault refusal × IsRefused nothing_held bytes refusal

-- the message was opened, and nothing was written; or it is unfit, and something was written
abbrev pub OpensMessage : Text → Option Text → Option Text → Option ReplicaState → Type 0
OpensMessage bytes held holds (Some s) = IsOpened bytes s × Appends held holds []
OpensMessage bytes held holds None = IsUnfit bytes × Grows held holds

-- two states were compared with this answer, and that was written
abbrev pub ComparesStates : ReplicaState → ReplicaState → Option Text → Option Text → Bool → Type 0
ComparesStates s t held holds answer =
    (first : KeptValue) × (second : KeptValue) × (text : Text) × (first.replica ≡ s) × (second.replica ≡ t)
    × (IsTrue answer ↔ IsSameState s t) × IsComparisonText first second answer text × Appends held holds text

-- what the two messages open was compared, and that was written; or one of them is unfit, and something was written
abbrev pub ComparesMessages : Text → Text → Option Text → Option Text → Option Bool → Type 0
ComparesMessages first second held holds (Some answer) =
    (s : ReplicaState) × (t : ReplicaState) × IsOpened first s × IsOpened second t
    × ComparesStates s t held holds answer
ComparesMessages first second held holds None = (IsUnfit first ⊎ IsUnfit second) × Grows held holds
