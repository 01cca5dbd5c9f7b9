use Rattle.std.proofs.Common.{length, sym, ap, subst, ◌∙◌}
use Rattle.hg_phases.specs.State.{IsValid, state_of}
use Rattle.hg_phases.specs.RootPlaces.{AreRootPlaces}
use Rattle.hg_history.proofs.history.History.copy.Goals as goal

pub invariant_of-result : goal.invariant_of-result
invariant_of-result c =
    let graph = c.in_ok-copy.field-0 in
    let new = c.in_ok-copy-2.field-0 in
    let same_graph = c.in_ok-copy.ensures in
    let same = c.in_ok-copy-2.ensures in
    let kept = c.self.invariant.0 in
    let rooted =
    subst (λ ps. AreRootPlaces c.self.inside.graph c.self.inside.kept.phases ps) (sym same.1) kept.roots in (
      record {
        len = ap length same.0 ∙ kept.len ∙ sym (ap length same_graph);
        roots = subst (λ ds. AreRootPlaces ds new.phases new.roots) (sym same_graph)
            (subst (λ ls. AreRootPlaces c.self.inside.graph ls new.roots) (sym same.0) rooted);
      },
      subst (λ ds. IsValid (state_of ds new.phases)) (sym same_graph)
          (subst (λ ls. IsValid (state_of c.self.inside.graph ls)) (sym same.0) c.self.invariant.1),
    )
