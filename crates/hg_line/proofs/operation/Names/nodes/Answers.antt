use Rattle.std.proofs.lemmas.Result.{err_from_is_err_and}
use Rattle.hg_names.specs.Labels.{labelled}
use Rattle.hg_line.proofs.EndingLemmas.{unknown_at, unknown_where}
use Rattle.hg_line.proofs.NameLemmas.{ids_more}
use Rattle.hg_line.proofs.operation.Names.nodes.Goals as goal

pub loop-label-preserved : goal.loop-label-preserved
loop-label-preserved c =
    ids_more (labelled c.args.self.now.labels.now) c.args.labels.now c.loop-label.label-index _ _ _ _
    c.loop-label-test.true c.loop-label.invariant c.in_ok-node.ensures.ok c.in_ok-push.ensures.items

pub returns-in_err-node-clause-err : goal.returns-in_err-node-clause-err
returns-in_err-node-clause-err c =
    let p = err_from_is_err_and c.from_residual.result c.from_residual.ensures.1 in
    let names = labelled c.args.self.now.labels.now in
    rw (p.1, p.2)
    (unknown_where _ _ _ (unknown_at names c.args.labels.now c.loop-label.label-index _ c.loop-label-test.true)
    c.in_err-node.ensures.err)
