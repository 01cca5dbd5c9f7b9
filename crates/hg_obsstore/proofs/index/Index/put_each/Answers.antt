use Rattle.std.proofs.Common.{take, rules, ap, ◌∙◌, List, ℕ}
use Rattle.hg_changeset.specs.declared.node.Node.{Node}
use Rattle.hg_obsstore.specs.Index.{places_of}
use Rattle.hg_changeset.proofs.ListLemmas.{on_err_anyway}
use Rattle.hg_obsstore.proofs.IndexLemmas.{may_add, Contains-take, adds_all}
use Rattle.hg_obsstore.proofs.index.Index.put_each.Goals as goal

pub loop-node-preserved : goal.loop-node-preserved
loop-node-preserved c = (
  adds_all c.args.nodes.now c.loop-node.node-index _ c.args.place (places_of c.args.role c.args.self.now)
      (places_of c.args.role c.loop-node.self) (places_of c.args.role c.put.new.self) (search rules) (search rules)
      c.requires c.loop-node.invariant.0 c.in_ok-put.ensures.ok.here c.in_ok-put.ensures.ok.others,
  λ other apart. c.in_ok-put.ensures.ok.aside other apart ∙ c.loop-node.invariant.1 other apart,
)

pub returns-in_err-put-clause-err : goal.returns-in_err-put-clause-err
returns-in_err-put-clause-err c =
    on_err_anyway _ _ (may_add _ _ _ _ _ _ (Contains-take _ _) c.loop-node.invariant.0
    (λ n. ap (λ (f : Node → List ℕ). f n) (c.in_err-put.ensures.err c.args.role)))

pub returns-in_err-put-clause-others : goal.returns-in_err-put-clause-others
returns-in_err-put-clause-others c = λ other apart. c.in_err-put.ensures.err other ∙ c.loop-node.invariant.1 other apart
