use Rattle.std.proofs.Common.{List, Contains, ◌↔◌, sym, subst}
use Rattle.std.proofs.lemmas.Result.{IfOk-weaker}
use Rattle.hg_changeset.specs.declared.node.Node.{Node}
use Rattle.hg_message.specs.Covered.{IsAtOneIn}
use Rattle.hg_message.proofs.heads.nodes_in.Goals as goal

pub returns-clause-exact : goal.returns-clause-exact
returns-clause-exact c = IfOk-weaker c.listed.result _ _
    (λ list items. subst (λ (ns : List Node). (n : Node) → Contains ns n
    ↔ IsAtOneIn c.args.replica.now.history c.args.places.now c.args.phase n) (sym items) c.in_ok-nodes.ensures)
    c.listed.ensures.all
