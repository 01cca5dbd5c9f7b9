-- Whole discoveries: rounds, one after another.
use Rattle.std.specs.Prelude.{◌≡◌, ℕ, suc, Bool, true, List, [], ◌∷◌, length, slice_get, ◌↔◌, Some, Contains, IsTrue}
use Rattle.hg_changeset.specs.declared.node.Node.{Node}
use Rattle.hg_changeset.specs.Contents.{Contents}
use Rattle.hg_graph.specs.Graph.{Holds}
use Rattle.hg_replica.specs.Content.{Content}
use Rattle.hg_view.specs.Pins.{IsServedUnder}
use Rattle.hg_discovery.specs.declared.finding.Finding.{Finding}
use Rattle.hg_discovery.specs.declared.finding.Finding.TheVariants.{Undecided, Common, Missing}
use Rattle.hg_discovery.specs.declared.finding.PlacedNode.{PlacedNode}
use Rattle.hg_discovery.specs.Search.{Search, IsSo, nodes_of}
use Rattle.hg_discovery.specs.Answers.{IsRound}

-- a round: what the other side held when it answered, and its answers
pub record Round : Type 0 where
  pub theirs : List Contents
  pub answers : List Bool

-- each yes is for a node that is held
abbrev pub AreTrue : List Contents → List Node → List Bool → Type 0
AreTrue cs ns answers = (i : ℕ) (n : Node) → slice_get ns i ≡ Some n → slice_get answers i ≡ Some true → Holds cs n

-- these rounds lead from s to t, and each yes was true when it was given
abbrev pub AreTrueRounds : Search → List Round → Search → Type 0
AreTrueRounds s [] t = t ≡ s
AreTrueRounds s (r ∷ rs) t = (mid : Search) × IsRound s r.answers mid × AreTrue r.theirs (nodes_of s.asked) r.answers
    × AreTrueRounds mid rs t

-- one answer for each node, and yes exactly where P holds of it
abbrev pub AreAnswers : (Node → Type 0) → List Node → List Bool → Type 0
AreAnswers P ns answers = (length answers ≡ length ns) × ((i : ℕ) (n : Node) (answer : Bool) → slice_get ns i ≡ Some n
    → slice_get answers i ≡ Some answer → IsTrue answer ↔ P n)

-- the answers say which of the nodes are served under the pins
abbrev pub AreKnown : Content → List Node → List Node → List Bool → Type 0
AreKnown f pins ns answers = AreAnswers (IsServedUnder f pins) ns answers

-- these answers lead from s to t, and each says whether P holds
abbrev pub AreAnsweredRounds : (Node → Type 0) → Search → List (List Bool) → Search → Type 0
AreAnsweredRounds P s [] t = t ≡ s
AreAnsweredRounds P s (answers ∷ rest) t = (mid : Search) × IsRound s answers mid
    × AreAnswers P (nodes_of s.asked) answers × AreAnsweredRounds P mid rest t

-- these answers lead from s to t, and each says what is served under the pins, while the other side stands still
abbrev pub AreKnownRounds : Content → List Node → Search → List (List Bool) → Search → Type 0
AreKnownRounds f pins s rounds t = AreAnsweredRounds (IsServedUnder f pins) s rounds t

-- these answers lead from s to t
abbrev pub AreRounds : Search → List (List Bool) → Search → Type 0
AreRounds s [] t = t ≡ s
AreRounds s (answers ∷ rest) t = (mid : Search) × IsRound s answers mid × AreRounds mid rest t

-- the changeset with this id is common
abbrev pub IsCommon : Search → Node → Type 0
IsCommon t n = (x : PlacedNode) × IsSo t Common x × (x.node ≡ n)

-- each changeset of the first is among the second
abbrev pub AreWithin : List Contents → List Contents → Type 0
AreWithin cs ds = (c : Contents) → Contains cs c → Contains ds c

-- how many changesets are undecided
abbrev pub undecided : List Finding → ℕ
undecided [] = 0
undecided (Undecided ∷ ds) = suc (undecided ds)
undecided (Common ∷ ds) = undecided ds
undecided (Missing ∷ ds) = undecided ds
