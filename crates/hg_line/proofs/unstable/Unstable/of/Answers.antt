use Rattle.std.specs.List.{each_same}
use Rattle.std.proofs.Common.{◌∙◌}
use Rattle.hg_replica.specs.Content.{content_of}
use Rattle.hg_replica.specs.Evolution.{IsOrphan, IsPhaseDivergent}
use Rattle.hg_instab.specs.Instabilities.{IsContentDivergent}
use Rattle.hg_line.proofs.UnstableLemmas.{same-kind}
use Rattle.hg_line.proofs.unstable.Unstable.of.Goals as goal

pub returns : goal.returns
returns c =
    let f = content_of c.args.kept.now.replica in
    let sets = c.instabilities-sets.ensures in
    record {
      orphan = same-kind (IsOrphan f) _ _ (each_same _ _ c.in_ok-clone.ensures.cases ∙ c.orphan.ensures) sets.orphan;
      phase_divergent = same-kind (IsPhaseDivergent f) _ _
          (each_same _ _ c.in_ok-clone-2.ensures.cases ∙ c.phase_divergent.ensures) sets.phase_divergent;
      content_divergent = same-kind (IsContentDivergent f) _ _
          (each_same _ _ c.in_ok-clone-3.ensures.cases ∙ c.content_divergent.ensures) sets.content_divergent;
    }
