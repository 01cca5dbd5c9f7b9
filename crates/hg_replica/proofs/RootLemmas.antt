-- What a replica's roots say, through their text and back.
use Rattle.std.proofs.Common.{◌≡◌, ◌≢◌, ℕ, List, Ok, Err, Contains, refl, sym, ap, subst, ◌∙◌}
use Rattle.hg_changeset.specs.Node.{IsNode}
use Rattle.hg_phases.specs.declared.phase.Phase.TheVariants.{Public}
use Rattle.hg_phases.specs.State.{State, changesets, IsValid as IsValidHistory}
use Rattle.hg_phases.specs.Roots.{AreRoots, AreSameRoots}
use Rattle.hg_phases.proofs.LeastLemmas.{changeset_from}
use Rattle.hg_phases.proofs.RootLemmas.{roots_are}
use Rattle.hg_phaseroots.specs.declared.error.RootsError.{RootsError}
use Rattle.hg_phaseroots.specs.declared.error.RootsError.TheVariants.{BadLine, BadPhase, NoMemory}
use Rattle.hg_phaseroots.specs.Reading.{Root, IsReading, roots_of}
use Rattle.hg_phaseroots.specs.Writing.{IsWritten}
use Rattle.hg_phaseroots.proofs.WriteLemmas.{order_same, order_again}
use Rattle.hg_history.proofs.OpenLemmas.{own-same}
use Rattle.hg_replica.specs.State.{ReplicaState, IsValid}
use Rattle.hg_replica.specs.Answer.{OpenAnswer}

module _ (s : State) (roots : List Root) (text : List ℕ) (valid : IsValidHistory s) (are : AreRoots s roots)
    (written : IsWritten roots text) where
  -- each root is a changeset's id, and not public
  its_node : (r : Root) → Contains roots r → IsNode r.1 × (r.0 ≢ Public)
  its_node r at =
      let h = (roots_are s roots are r).0 at in (
        subst (λ x. IsNode x.1) h.3 (valid.graph.each h.0.changeset (changeset_from s h.0 h.1)).node,
        subst (λ x. x.0 ≢ Public) h.3 h.2.not_public,
      )

  says : roots_of text ≡ Ok written.0
  says = ap roots_of written.2 ∙ order_again roots written.0 (λ r at. (its_node r at).0) written.1

  pub read_fault : (error : RootsError) → IsReading text (Err error) → error ≡ NoMemory
  read_fault (BadLine n) h = absurd (let e : Ok written.0 ≡ Err (BadLine n) = sym says ∙ h in let none : ⊥ = cc in none)
  read_fault (BadPhase n) h =
      absurd (let e : Ok written.0 ≡ Err (BadPhase n) = sym says ∙ h in let none : ⊥ = cc in none)
  read_fault NoMemory h = refl

  pub read_same : (read : List Root) → IsReading text (Ok read) → AreSameRoots read roots
  read_same read h r =
      let e : Ok written.0 ≡ Ok read = sym says ∙ h in
      let is : written.0 ≡ read = cc in
      let same = order_same roots written.0 written.1 r in (
        λ at. (same.0 (subst (λ rs. Contains rs r) (sym is) at)).0,
        λ at. subst (λ rs. Contains rs r) is (same.1 (at, (its_node r at).1)),
      )

pub own-same-replica : (s t : ReplicaState) (roots read : List Root) (text : List ℕ) → IsValid s →
    AreRoots s.history roots → IsWritten roots text → IsReading text (Ok read)
    → OpenAnswer (changesets s.history) read s.markers (Ok t) → t ≡ s
unfolding OpenAnswer
own-same-replica s t roots read text valid are written h opened =
    let history =
    own-same s.history t.history roots read valid are (read_same s.history roots text valid are written read h)
    opened.0 in
    λ i. record { history = history i; markers = opened.1 i }
