-- What the first thread of a node writes and puts into the mailbox of the next one.
use Rattle.std.specs.Prelude.{◌≡◌, ◌⊎◌, ℕ, zero, suc, pos, List, [], ◌∷◌, ◌++◌, Option, Some, None, MatchOption, codes}
use Rattle.std.specs.Prelude.{decimal}
use Rattle.std.specs.declared.vec.Vec.{Vec}
use Rattle.std.specs.declared.alloc.Global.{Global}
use Rattle.hg_changeset.specs.EntryValue.{EntryValue}
use Rattle.hg_message.specs.declared.scope.Scope.TheVariants.{Served}
use Rattle.hg_view.specs.Kept.{KeptValue}
use Rattle.hg_peer.specs.declared.refusal.PeerRefusal.{PeerRefusal}
use Rattle.hg_live.specs.Looks.{Looked, OffersAbove, IsAgainstOffering}
use Rattle.hg_live.specs.NodeViews.{PassView}

-- the description of what the node commits in the round
abbrev pub description : ℕ → ℕ → List ℕ
description node round = codes "race " ++ (decimal node ++ (codes " " ++ decimal round))

-- the description of what it amends that to
abbrev pub amended_description : ℕ → ℕ → List ℕ
amended_description node round = codes "race " ++ (decimal node ++ (codes " " ++ (decimal round ++ codes " amended")))

-- an entry of the user fleet at 0 0
abbrev pub entry_of_race : List ℕ → EntryValue
entry_of_race text = record { user = codes "fleet"; secs = pos 0; offset = pos 0; extra = []; desc = text }

-- what the published state offers of what it serves, above nothing; or it refuses that, or there was no look at it
abbrev pub IsServedOffer : KeptValue → PassView → PassView → Option (Vec ℕ Global) → Type 0
IsServedOffer o old new (Some bytes) = Looked o (λ s. OffersAbove s [] Served bytes.items) old new
IsServedOffer o old new None =
    (new ≡ old) ⊎ ((refusal : PeerRefusal) × Looked o (λ s. IsAgainstOffering s [] Served refusal) old new)

-- the mailbox was given what the published state offers, or had no room for it; where nothing is offered it is as it
-- was
abbrev pub PutsOffer : {S : Type 0} → (S → List (List ℕ)) → (S → S → Type 0) → KeptValue → PassView → PassView → S → S
    → Type 0
PutsOffer given FindsNoRoom o pass pass_after next next_after =
    (offer : Option (Vec ℕ Global)) × IsServedOffer o pass pass_after offer
    × MatchOption offer (next_after ≡ next)
    (λ bytes. (given next_after ≡ given next ++ bytes.items ∷ []) ⊎ FindsNoRoom next next_after)

-- in each of so many rounds the mailbox was given an offer, or had no room for it, or there was none
unfoldable pub AreRounds : {S : Type 0} → (S → List (List ℕ)) → (S → S → Type 0) → KeptValue → ℕ → S → S → Type 0
AreRounds given FindsNoRoom o zero next next_after = next_after ≡ next
AreRounds {S} given FindsNoRoom o (suc n) next next_after =
    (between : S) × (pass : PassView) × (told : PassView) × AreRounds given FindsNoRoom o n next between
    × PutsOffer given FindsNoRoom o pass told between next_after
