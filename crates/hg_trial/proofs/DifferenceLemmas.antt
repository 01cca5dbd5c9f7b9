-- Phases that differ, and markers that are lacking.
use Rattle.std.proofs.Common.{◌≡◌, ◌≢◌, ◌+◌, ◌<◌, ◌∙◌, ℕ, List, Option, Bool, not, Contains}
use Rattle.std.proofs.Common.{None, Some, MatchOption, cond, length, get_or, take, sym, subst, ap}
use Rattle.std.proofs.Common.{arith}
use Rattle.std.proofs.lemmas.List.Filters.{length-filter_more}
use Rattle.hg_changeset.specs.declared.node.Node.{Node}
use Rattle.hg_marker.specs.Fields.{Fields}
use Rattle.hg_obsstore.specs.Growth.{holds}
use Rattle.hg_obsstore.proofs.GrowthLemmas.{not_held}
use Rattle.hg_phases.specs.declared.phase.Phase.{Phase}
use Rattle.hg_phases.specs.State.{Holds, IsPhaseOf}
use Rattle.hg_replica.specs.Content.{Content, content_of}
use Rattle.hg_replica.specs.Evolution.{HasPhase}
use Rattle.hg_replica.proofs.MarkerLemmas.{holds-from}
use Rattle.hg_replica.specs.State.{IsValid, ReplicaState}
use Rattle.hg_instab.proofs.QueryLemmas.{one_phase, told_phase}
use Rattle.hg_trial.specs.Differences.{ArePhases, HasOtherPhase, markers_lacked}

-- ---- phases

pub no_phases : (f g : Content) (n : Node) (p q : Phase) → HasPhase f n p → HasPhase g n q → p ≡ q
    → ¬ (HasOtherPhase f g n)
no_phases f g n p q here there same other =
    other.1.2 (one_phase f n other.0.0 p other.1.0 here ∙ same ∙ one_phase g n q other.0.1 there other.1.1)

-- what is told of the phase of a changeset
abbrev pub IsPhaseIfHeld : ReplicaState → Node → Option Phase → Type 0
IsPhaseIfHeld s n phase = MatchOption phase (¬ (Holds s.history n)) (IsPhaseOf s.history n)

phases_told : (s t : ReplicaState) → IsValid s → IsValid t → (n : Node) (p q : Phase) (r : Option (Phase × Phase))
    → IsPhaseIfHeld s n (Some p) → IsPhaseIfHeld t n (Some q)
    → MatchOption r (p ≡ q) (λ phases. (phases ≡ (p, q)) × (p ≢ q))
    → MatchOption r (¬ (HasOtherPhase (content_of s) (content_of t) n)) (ArePhases (content_of s) (content_of t) n)
phases_told s t s_valid t_valid n p q None here there same =
    no_phases (content_of s) (content_of t) n p q (told_phase s s_valid n (Some p) here)
    (told_phase t t_valid n (Some q) there) same
phases_told s t s_valid t_valid n p q (Some phases) here there told =
    subst (ArePhases (content_of s) (content_of t) n) (sym told.0)
    (told_phase s s_valid n (Some p) here, told_phase t t_valid n (Some q) there, told.1)

-- both hold the changeset, in these phases
pub told_phases : (s t : ReplicaState) → IsValid s → IsValid t → (n : Node) (here there : Option Phase) (p q : Phase)
    (r : Option (Phase × Phase)) → IsPhaseIfHeld s n here → IsPhaseIfHeld t n there → here ≡ Some p → there ≡ Some q
    → MatchOption r (p ≡ q) (λ phases. (phases ≡ (p, q)) × (p ≢ q))
    → MatchOption r (¬ (HasOtherPhase (content_of s) (content_of t) n)) (ArePhases (content_of s) (content_of t) n)
told_phases s t s_valid t_valid n here there p q r of_s of_t is_p is_q told =
    phases_told s t s_valid t_valid n p q r (subst (IsPhaseIfHeld s n) is_p of_s)
    (subst (IsPhaseIfHeld t n) is_q of_t) told

-- where one doesn't hold the changeset, no phases differ
pub not_held_first : (s t : ReplicaState) → IsValid s → (n : Node) (here : Option Phase) → IsPhaseIfHeld s n here
    → here ≡ None → ¬ (HasOtherPhase (content_of s) (content_of t) n)
not_held_first s t valid n here told none other =
    told_phase s valid n None (subst (IsPhaseIfHeld s n) none told) (other.1.0.0, other.1.0.1)

pub not_held_second : (s t : ReplicaState) → IsValid t → (n : Node) (there : Option Phase) → IsPhaseIfHeld t n there
    → there ≡ None → ¬ (HasOtherPhase (content_of s) (content_of t) n)
not_held_second s t valid n there told none other =
    told_phase t valid n None (subst (IsPhaseIfHeld t n) none told) (other.1.1.0, other.1.1.1)

-- ---- markers

pub marker_held : (lacking having : List Fields) (i : ℕ) (d : Fields) (count : ℕ) → i < length having
    → Contains lacking (get_or having i d) → count ≡ length (markers_lacked lacking (take i having))
    → count ≡ length (markers_lacked lacking (take (i + 1) having))
marker_held lacking having i d count within held is =
    let test : Fields → Bool = λ m. not (holds lacking m) in
    let one : Bool → ℕ = λ b. cond (not b) 1 0 in
    let more = length-filter_more test having i d within in
    omega (arith, is, more, ap one (holds-from lacking (get_or having i d) held))

pub marker_lacked : (lacking having : List Fields) (i : ℕ) (d : Fields) (count : ℕ) → i < length having
    → ¬ (Contains lacking (get_or having i d)) → count ≡ length (markers_lacked lacking (take i having))
    → count + 1 ≡ length (markers_lacked lacking (take (i + 1) having))
marker_lacked lacking having i d count within lacks is =
    let test : Fields → Bool = λ m. not (holds lacking m) in
    let one : Bool → ℕ = λ b. cond (not b) 1 0 in
    let more = length-filter_more test having i d within in
    omega (arith, is, more, ap one (not_held lacking (get_or having i d) lacks))
