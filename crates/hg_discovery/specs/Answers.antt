-- What the answers to a sample decide.
use Rattle.std.specs.Prelude.{◌≡◌, ◌≢◌, ℕ, Bool, true, false, List, [], ◌∷◌, length, ◌↔◌, ◌⊎◌, Result, Ok, Err}
use Rattle.hg_graph.specs.declared.graph.ParentPlaces.{ParentPlaces}
use Rattle.hg_discovery.specs.declared.finding.Finding.{Finding}
use Rattle.hg_discovery.specs.declared.finding.Finding.TheVariants.{Undecided, Common, Missing}
use Rattle.hg_discovery.specs.declared.finding.PlacedNode.{PlacedNode}
use Rattle.hg_discovery.specs.declared.error.DiscoveryError.{DiscoveryError}
use Rattle.hg_discovery.specs.declared.error.DiscoveryError.TheVariants.{WrongCount, NoMemory}
use Rattle.hg_discovery.specs.Under.{IsUnder}
use Rattle.hg_discovery.specs.Search.{Search, Is, IsSearch}

-- a yes for the changeset at k makes it and its undecided ancestors common, a no makes it and its undecided descendants
-- missing
pub record IsDecided (ps : List ParentPlaces) (k : ℕ) (said : Bool) (old new : List Finding) : Type 0 where
  pub len : length new ≡ length old
  pub common : (j : ℕ) → Is new Common j ↔ (Is old Common j ⊎ ((said ≡ true) × Is old Undecided j × IsUnder ps j k))
  pub missing : (j : ℕ) → Is new Missing j ↔ (Is old Missing j ⊎ ((said ≡ false) × Is old Undecided j × IsUnder ps k j))

-- one answer; what is decided already stays so
abbrev pub TakesAnswer : List ParentPlaces → ℕ → Bool → List Finding → List Finding → Type 0
TakesAnswer ps k said old new =
    (Is old Undecided k × IsDecided ps k said old new) ⊎ ((Is old Undecided k → ⊥) × (new ≡ old))

-- the answers count in the order of the sample
abbrev pub TakesAnswers : List ParentPlaces → List PlacedNode → List Bool → List Finding → List Finding → Type 0
TakesAnswers ps [] [] old new = new ≡ old
TakesAnswers ps (x ∷ xs) (said ∷ answers) old new = (mid : List Finding) × TakesAnswer ps x.place said old mid
    × TakesAnswers ps xs answers mid new
TakesAnswers ps [] (said ∷ answers) old new = ⊥
TakesAnswers ps (x ∷ xs) [] old new = ⊥

-- a round: the sample is answered, and another one is drawn
pub record IsRound (old : Search) (answers : List Bool) (new : Search) : Type 0 where
  pub parents : new.parents ≡ old.parents
  pub placed_nodes : new.placed_nodes ≡ old.placed_nodes
  pub told : TakesAnswers old.parents old.asked answers old.decided new.decided
  pub search : IsSearch new

-- what is answered to the answers to a sample, and the search after them
abbrev pub AnswerAnswer : Search → List Bool → Result Unit DiscoveryError → Search → Type 0
AnswerAnswer old answers (Ok _) new = (length answers ≡ length old.asked) × IsRound old answers new
AnswerAnswer old answers (Err WrongCount) new = (length answers ≢ length old.asked) × (new ≡ old)
AnswerAnswer old answers (Err NoMemory) new = (length answers ≡ length old.asked) × (new ≡ old)
