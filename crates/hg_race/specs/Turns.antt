-- What the second thread of a node takes out of its mailbox, and hands to the node.
use Rattle.std.specs.Prelude.{◌≡◌, ◌≢◌, ◌⊎◌, ℕ, zero, suc, List, [], ◌∷◌, ◌++◌}
use Rattle.hg_view.specs.Kept.{KeptValue}
use Rattle.hg_live.specs.declared.answer.Accepted.{Accepted}
use Rattle.hg_live.specs.declared.answer.CallRefusal.{CallRefusal}
use Rattle.hg_live.specs.declared.answer.CallRefusal.TheVariants.{NoMemory}
use Rattle.hg_live.specs.Calls.{IsEntered, EntersBytes, IsRefusedAt, IsAgainstTake}
use Rattle.hg_live.specs.NodeViews.{PassView}

-- the node took the message in, or refused it, though not for want of memory, and the pass is as it was
abbrev pub IsHanded : KeptValue → List ℕ → PassView → PassView → Type 0
IsHanded o message old new =
    ((answer : Accepted) × IsEntered o (EntersBytes message) answer old new)
    ⊎ ((refusal : CallRefusal) × IsRefusedAt o (λ d. IsAgainstTake d message) refusal × (refusal ≢ NoMemory)
    × (new ≡ old))

-- the messages were handed to the node, one after the other
abbrev pub AreHanded : KeptValue → List (List ℕ) → PassView → PassView → Type 0
AreHanded o [] old new = new ≡ old
AreHanded o (message ∷ messages) old new =
    (next : PassView) × IsHanded o message old next × AreHanded o messages next new

-- one turn: messages were taken and each was handed to the node, and then the mailbox was found empty
pub record IsTurn {S : Type 0} (taken : S → List (List ℕ)) (FindsNone : S → S → Type 0) (o : KeptValue)
    (own : S) (pass : PassView) (own_after : S) (pass_after : PassView) : Type 0 where
  pub messages : List (List ℕ)
  pub last : S
  pub took : taken last ≡ taken own ++ messages
  pub handed : AreHanded o messages pass pass_after
  pub none : FindsNone last own_after

-- so many turns, one after the other
unfoldable pub AreTurns : {S : Type 0} → (S → List (List ℕ)) → (S → S → Type 0) → KeptValue → ℕ → S → PassView → S
    → PassView → Type 0
AreTurns taken FindsNone o zero own pass own_after pass_after = (own_after ≡ own) × (pass_after ≡ pass)
AreTurns {S} taken FindsNone o (suc n) own pass own_after pass_after =
    (between : S) × (told : PassView) × AreTurns taken FindsNone o n own pass between told
    × IsTurn taken FindsNone o between told own_after pass_after
