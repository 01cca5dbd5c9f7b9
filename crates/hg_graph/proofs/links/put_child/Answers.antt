use Rattle.std.proofs.Common.{length, ap}
use Rattle.hg_graph.specs.Links.{put_last}
use Rattle.hg_changeset.proofs.ListLemmas.{on_err_anyway}
use Rattle.hg_graph.proofs.LinkLemmas.{lists_set, lists_kept, within_index}
use Rattle.hg_graph.proofs.links.put_child.Goals as goal

pub returns-in_err-push-in-Some-clause-err : goal.returns-in_err-push-in-Some-clause-err
returns-in_err-push-in-Some-clause-err c =
    on_err_anyway c.from_residual.result
    _ (lists_kept c.args.children.now.items c.in-Some.parent c.push.new.self c.index_mut.result.now
    c.index_mut.ensures.value (ap (λ v. v.items) c.in_err-push-in-Some.ensures.err))

pub returns-in_ok-push-in-Some-clause-ok : goal.returns-in_ok-push-in-Some-clause-ok
returns-in_ok-push-in-Some-clause-ok c =
    let vectors = c.args.children.now.items in
    lists_set vectors c.args.parent c.in-Some.parent c.push.new.self c.index_mut.result.now (put_last c.args.child)
    c.in-Some.is (within_index c.args.parent c.in-Some.parent (length vectors) c.requires c.in-Some.is)
    c.index_mut.ensures.value c.in_ok-push-in-Some.ensures.ok
