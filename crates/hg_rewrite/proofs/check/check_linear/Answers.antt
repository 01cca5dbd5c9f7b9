use Rattle.std.proofs.Common.{subst}
use Rattle.hg_rewrite.specs.declared.op.Op.{Op}
use Rattle.hg_rewrite.specs.Refusals.{NoneApplies, unknown_nodes}
use Rattle.hg_rewrite.proofs.PartLemmas.{known_target}
use Rattle.hg_rewrite.proofs.check.check_linear.Goals as goal

pub leads_to_either-requires : goal.leads_to_either-requires
leads_to_either-requires c =
    let s = c.args.replica.now in
    let none = subst (λ (op : Op). NoneApplies (unknown_nodes s op)) c.in-Relocate.is c.requires.known in
    known_target s.history c.requires.valid c.in-Relocate.node none.0
