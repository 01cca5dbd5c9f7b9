use Rattle.hg_replica.specs.Content.{content_of}
use Rattle.hg_replica.specs.Evolution.{IsOrphan, IsPhaseDivergent}
use Rattle.hg_instab.specs.Instabilities.{IsContentDivergent}
use Rattle.hg_line.proofs.UnstableLemmas.{same-kind, moved-as}
use Rattle.hg_line.proofs.unstable.Unstable.change_to.Goals as goal

pub returns : goal.returns
returns c = λ f before.
    let g = content_of c.args.kept.now.replica in
    let sets = c.instabilities-sets.ensures in
    record {
      orphan = moved-as _ _ (IsOrphan f) (IsOrphan g) _ before.orphan
          (same-kind (IsOrphan g) _ _ c.orphan.ensures sets.orphan) c.in_ok-between.ensures;
      phase_divergent = moved-as _ _ (IsPhaseDivergent f) (IsPhaseDivergent g) _ before.phase_divergent
          (same-kind (IsPhaseDivergent g) _ _ c.phase_divergent.ensures sets.phase_divergent)
          c.in_ok-between-2.ensures;
      content_divergent = moved-as _ _ (IsContentDivergent f) (IsContentDivergent g) _ before.content_divergent
          (same-kind (IsContentDivergent g) _ _ c.content_divergent.ensures sets.content_divergent)
          c.in_ok-between-3.ensures;
    }
