-- What comes to kept sets and goes from them.
use Rattle.std.specs.Prelude.{◌≡◌, ◌↔◌, ◌⊎◌, List, Contains, Bool, true, false}
use Rattle.std.specs.List.Sorted.{IsStrictlySortedBy}
use Rattle.hg_changeset.specs.declared.node.Node.{Node}
use Rattle.hg_changeset.specs.Node.{node_cmp}
use Rattle.hg_instab.specs.declared.turn.Turn.{Turn}
use Rattle.hg_instab.specs.declared.turns.Turns.{Turns}
use Rattle.hg_instab.specs.declared.turning.Turning.{Turning}
use Rattle.hg_instab.specs.declared.turning.Turning.TheVariants.{Nothing, NewlyExtinct, Each}
use Rattle.hg_replica.specs.Content.{Content}
use Rattle.hg_replica.specs.Evolution.{IsObsolete, IsOrphan, IsSuspended, IsExtinct, IsPhaseDivergent}
use Rattle.hg_instab.specs.Instabilities.{InstabilitySets, AreInstabilities, IsContentDivergent}
use Rattle.hg_instab.specs.Near.{IsAfterPublic, AreNearForks}

-- what comes wasn't in the set, and what goes was
pub record IsTurn (set : List Node) (turn : Turn) : Type 0 where
  pub come : (n : Node) → Contains turn.come.items n → ¬ (Contains set n)
  pub gone : (n : Node) → Contains turn.gone.items n → Contains set n

-- in the set that the turn leaves
abbrev pub IsThen : List Node → Turn → Node → Type 0
IsThen set turn n = Contains turn.come.items n ⊎ (Contains set n × ¬ (Contains turn.gone.items n))

-- what is so comes to the set, and nothing goes
abbrev pub IsGrowth : List Node → Turn → (Node → Type 0) → Type 0
IsGrowth set turn P = (n : Node) → IsThen set turn n ↔ (Contains set n ⊎ P n)

-- some of what comes has come; a list in order was in order before
pub record IsStage (come before now : List Node) : Type 0 where
  pub ordered : IsStrictlySortedBy node_cmp now → IsStrictlySortedBy node_cmp before
  pub kept : (n : Node) → Contains before n → Contains now n
  pub from : (n : Node) → Contains now n → Contains before n ⊎ Contains come n

-- all of it has come
abbrev pub HasCome : Turn → List Node → Type 0
HasCome turn now = (n : Node) → Contains turn.come.items n → Contains now n

-- the node was put into a list that was in order, and came to it or was there before
pub record HasPut (node : Node) (came : Bool) (before now : List Node) : Type 0 where
  pub ordered : IsStrictlySortedBy node_cmp before
  pub then : (n : Node) → Contains now n ↔ (Contains before n ⊎ (n ≡ node))
  pub new : came ≡ true → ¬ (Contains before node)
  pub old : came ≡ false → now ≡ before

-- ---- each set

pub record AreTurns (sets : InstabilitySets) (turns : Turns) : Type 0 where
  pub obsolete : IsTurn sets.obsolete turns.obsolete
  pub orphan : IsTurn sets.orphan turns.orphan
  pub suspended : IsTurn sets.suspended turns.suspended
  pub extinct : IsTurn sets.extinct turns.extinct
  pub phase_divergent : IsTurn sets.phase_divergent turns.phase_divergent
  pub content_divergent : IsTurn sets.content_divergent turns.content_divergent
  pub after_public : IsTurn sets.after_public turns.after_public
  pub near_forks : IsTurn sets.near_forks turns.near_forks

-- a turn of the content-divergent changesets, and one of the ids near forks
abbrev pub AreDivergenceTurns : InstabilitySets → Turn × Turn → Type 0
AreDivergenceTurns sets turns = IsTurn sets.content_divergent turns.0 × IsTurn sets.near_forks turns.1

pub record AreStages (turns : Turns) (before now : InstabilitySets) : Type 0 where
  pub obsolete : IsStage turns.obsolete.come.items before.obsolete now.obsolete
  pub orphan : IsStage turns.orphan.come.items before.orphan now.orphan
  pub suspended : IsStage turns.suspended.come.items before.suspended now.suspended
  pub extinct : IsStage turns.extinct.come.items before.extinct now.extinct
  pub phase_divergent : IsStage turns.phase_divergent.come.items before.phase_divergent now.phase_divergent
  pub content_divergent : IsStage turns.content_divergent.come.items before.content_divergent now.content_divergent
  pub after_public : IsStage turns.after_public.come.items before.after_public now.after_public
  pub near_forks : IsStage turns.near_forks.come.items before.near_forks now.near_forks

pub record HaveCome (turns : Turns) (now : InstabilitySets) : Type 0 where
  pub obsolete : HasCome turns.obsolete now.obsolete
  pub orphan : HasCome turns.orphan now.orphan
  pub suspended : HasCome turns.suspended now.suspended
  pub extinct : HasCome turns.extinct now.extinct
  pub phase_divergent : HasCome turns.phase_divergent now.phase_divergent
  pub content_divergent : HasCome turns.content_divergent now.content_divergent
  pub after_public : HasCome turns.after_public now.after_public
  pub near_forks : HasCome turns.near_forks now.near_forks

-- each set is what its turn leaves
pub record AreThen (before : InstabilitySets) (turns : Turns) (after : InstabilitySets) : Type 0 where
  pub obsolete : (n : Node) → Contains after.obsolete n ↔ IsThen before.obsolete turns.obsolete n
  pub orphan : (n : Node) → Contains after.orphan n ↔ IsThen before.orphan turns.orphan n
  pub suspended : (n : Node) → Contains after.suspended n ↔ IsThen before.suspended turns.suspended n
  pub extinct : (n : Node) → Contains after.extinct n ↔ IsThen before.extinct turns.extinct n
  pub phase_divergent : (n : Node) → Contains after.phase_divergent n
      ↔ IsThen before.phase_divergent turns.phase_divergent n
  pub content_divergent : (n : Node) → Contains after.content_divergent n
      ↔ IsThen before.content_divergent turns.content_divergent n
  pub after_public : (n : Node) → Contains after.after_public n ↔ IsThen before.after_public turns.after_public n
  pub near_forks : (n : Node) → Contains after.near_forks n ↔ IsThen before.near_forks turns.near_forks n

-- what the two turns leave of content-divergent changesets and of ids near forks is what those sets of g are to have
pub record IsDivergenceTold (g : Content) (sets : InstabilitySets) (turns : Turn × Turn) : Type 0 where
  pub content_divergent : (n : Node) → IsThen sets.content_divergent turns.0 n ↔ IsContentDivergent g n
  pub near_forks : AreNearForks g (IsThen sets.near_forks turns.1)

-- what each turn leaves is what the set of g is to have
pub record LeadTo (g : Content) (sets : InstabilitySets) (turns : Turns) : Type 0 where
  pub obsolete : (n : Node) → IsThen sets.obsolete turns.obsolete n ↔ IsObsolete g n
  pub orphan : (n : Node) → IsThen sets.orphan turns.orphan n ↔ IsOrphan g n
  pub suspended : (n : Node) → IsThen sets.suspended turns.suspended n ↔ IsSuspended g n
  pub extinct : (n : Node) → IsThen sets.extinct turns.extinct n ↔ IsExtinct g n
  pub phase_divergent : (n : Node) → IsThen sets.phase_divergent turns.phase_divergent n ↔ IsPhaseDivergent g n
  pub content_divergent : (n : Node) → IsThen sets.content_divergent turns.content_divergent n ↔ IsContentDivergent g n
  pub after_public : (n : Node) → IsThen sets.after_public turns.after_public n ↔ IsAfterPublic g n
  pub near_forks : AreNearForks g (IsThen sets.near_forks turns.near_forks)

-- ---- what a change turns

-- what is so has become obsolete and extinct, and nothing else has turned
pub record GainsExtinct (before : InstabilitySets) (P : Node → Type 0) (after : InstabilitySets) : Type 0 where
  pub obsolete : (n : Node) → Contains after.obsolete n ↔ (Contains before.obsolete n ⊎ P n)
  pub extinct : (n : Node) → Contains after.extinct n ↔ (Contains before.extinct n ⊎ P n)
  pub orphan : after.orphan ≡ before.orphan
  pub suspended : after.suspended ≡ before.suspended
  pub phase_divergent : after.phase_divergent ≡ before.phase_divergent
  pub content_divergent : after.content_divergent ≡ before.content_divergent
  pub after_public : after.after_public ≡ before.after_public
  pub near_forks : after.near_forks ≡ before.near_forks

-- what comes to each of the sets wasn't in it, and what goes was
abbrev pub IsTurningOf : InstabilitySets → Turning → Type 0
IsTurningOf sets Nothing = Unit {0}
IsTurningOf sets (NewlyExtinct node) = Unit {0}
IsTurningOf sets (Each turns) = AreTurns sets turns.value

-- what it leaves of the sets is what those of g are to have
abbrev pub TurnsTo : Content → InstabilitySets → Turning → Type 0
TurnsTo g sets Nothing = AreInstabilities g sets
TurnsTo g sets (NewlyExtinct node) = (after : InstabilitySets) → GainsExtinct sets (λ n. n ≡ node) after
    → AreInstabilities g after
TurnsTo g sets (Each turns) = LeadTo g sets turns.value
