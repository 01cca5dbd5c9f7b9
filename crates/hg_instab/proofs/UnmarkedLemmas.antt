-- Where there is no marker, nothing is unstable.
use Rattle.std.proofs.Common.{◌≡◌, ◌↔◌, List, [], Contains, inl, subst}
use Rattle.hg_changeset.specs.declared.node.Node.{Node}
use Rattle.hg_changeset.proofs.ListLemmas.{Contains-none}
use Rattle.hg_marker.specs.Fields.{Fields}
use Rattle.hg_replica.specs.State.{ReplicaState, IsValid}
use Rattle.hg_replica.specs.Change.{ChangeValue}
use Rattle.hg_replica.specs.Content.{Content, content_of}
use Rattle.hg_replica.specs.Evolution.{IsMarker, IsObsolete, IsOrphan, IsSuspended, IsExtinct, IsPhaseDivergent}
use Rattle.hg_replica.specs.Evolution.{Precedes}
use Rattle.hg_replica.specs.Evolution.Precedes.{step, further}
use Rattle.hg_replica.proofs.MarkerLemmas.{in_from_holds}
use Rattle.hg_instab.specs.Changed.{IsChangedTo}
use Rattle.hg_instab.specs.Instabilities.{IsContentDivergent, InstabilitySets, AreInstabilities}
use Rattle.hg_instab.specs.Near.{IsAfterPublic, AreNearForks}
use Rattle.hg_instab.proofs.KeptLemmas.{changed-follows}

module _ (f : Content) (none : (m : Fields) → ¬ (IsMarker f m)) where
  never-obsolete : (n : Node) → ¬ (IsObsolete f n)
  never-obsolete n h = none h.1.0 h.1.1

  never-orphan : (n : Node) → ¬ (IsOrphan f n)
  never-orphan n h = never-obsolete h.1.0 h.1.2

  never-suspended : (n : Node) → ¬ (IsSuspended f n)
  never-suspended n h = never-obsolete n h.0

  never-extinct : (n : Node) → ¬ (IsExtinct f n)
  never-extinct n h = never-obsolete n h.0

  never-preceded : (Kind : Fields → Type 0) (p n : Node) → ¬ (Precedes f Kind p n)
  never-preceded Kind p n (step {m = m} held kind to from) = none m held
  never-preceded Kind p n (further {m = m} held kind to before) = none m held

  never-after_public : (n : Node) → ¬ (IsAfterPublic f n)
  never-after_public n h = never-preceded _ h.0 n h.2

  never-phase_divergent : (n : Node) → ¬ (IsPhaseDivergent f n)
  never-phase_divergent n h = never-preceded _ h.1.0 n h.1.2

  never-content_divergent : (n : Node) → ¬ (IsContentDivergent f n)
  never-content_divergent n h = never-preceded _ h.1.0 n h.1.2

  near-nothing : (P : Node → Type 0) → AreNearForks f P
  near-nothing P = record {
    forks = λ n h. absurd (none h.0 h.3);
    closed = λ m a b held named beside so. absurd (none m held);
  }

-- what neither is so
neither : {A B C : Type 0} → A ↔ B → ¬ B → ¬ C → A ↔ C
neither same not other = (λ a. absurd (not (same.0 a)), λ c. absurd (other c))

-- the sets of what has no marker are those of all else that has none
unmarked-alike : (f g : Content) (sets : InstabilitySets) → ((m : Fields) → ¬ (IsMarker f m))
    → ((m : Fields) → ¬ (IsMarker g m)) → AreInstabilities f sets → AreInstabilities g sets
unmarked-alike f g sets none none' are = record {
  obsolete = λ n. neither (are.obsolete n) (never-obsolete f none n) (never-obsolete g none' n);
  orphan = λ n. neither (are.orphan n) (never-orphan f none n) (never-orphan g none' n);
  suspended = λ n. neither (are.suspended n) (never-suspended f none n) (never-suspended g none' n);
  extinct = λ n. neither (are.extinct n) (never-extinct f none n) (never-extinct g none' n);
  phase_divergent =
      λ n. neither (are.phase_divergent n) (never-phase_divergent f none n) (never-phase_divergent g none' n);
  content_divergent =
      λ n. neither (are.content_divergent n) (never-content_divergent f none n) (never-content_divergent g none' n);
  after_public = λ n. neither (are.after_public n) (never-after_public f none n) (never-after_public g none' n);
  near_forks = near-nothing g none' (Contains sets.near_forks);
}

-- a change that leaves no marker turns nothing
pub unmarked-kept : (s t : ReplicaState) (change : ChangeValue) (sets : InstabilitySets) → IsValid t
    → t.markers ≡ [] → IsChangedTo s change t → AreInstabilities (content_of s) sets
    → AreInstabilities (content_of t) sets
unmarked-kept s t change sets v empty is are =
    let none : (m : Fields) → ¬ (IsMarker (content_of t) m) =
    λ m h. Contains-none m (subst (λ (ms : List Fields). Contains ms m) empty (in_from_holds t.markers m h)) in
    unmarked-alike (content_of s) (content_of t) sets
    (λ m h. none m (((changed-follows s t change v is).markers m).1 (inl h))) none are
