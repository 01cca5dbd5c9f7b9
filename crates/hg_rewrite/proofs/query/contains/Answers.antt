use Rattle.std.proofs.Common.{sym, ◌∙◌}
use Rattle.hg_rewrite.proofs.ListLemmas.{Contains-any, any-Contains}
use Rattle.hg_rewrite.proofs.query.contains.Goals as goal

pub returns : goal.returns
returns c = (
  (λ h. Contains-any c.args.nodes.now c.args.node (sym c.contains.ensures.value ∙ h)),
  (λ h. c.contains.ensures.value ∙ any-Contains c.args.nodes.now c.args.node h),
)
