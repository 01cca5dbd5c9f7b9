use Rattle.std.proofs.Common.{◌∙◌, sym}
use Rattle.std.proofs.lemmas.Map.Views.{Contains-from_any, list_any-from_Contains}
use Rattle.hg_changeset.proofs.NodeLemmas.{same_node, node_eq_laws}
use Rattle.hg_instab.proofs.turns.has_met.Goals as goal

pub returns : goal.returns
returns c = (
  λ h. Contains-from_any same_node c.args.node c.args.met.now.keys (sym c.contains.ensures.contains ∙ h),
  λ h. c.contains.ensures.contains ∙ list_any-from_Contains node_eq_laws c.args.node c.args.met.now.keys h,
)
