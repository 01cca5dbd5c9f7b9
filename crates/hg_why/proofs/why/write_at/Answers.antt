use Rattle.std.proofs.Common.{sym, subst, ◌∙◌}
use Rattle.std.proofs.lemmas.Result.{on_ok_weaker}
use Rattle.hg_replica.specs.Content.{content_of}
use Rattle.hg_why.specs.Causes.{AreReasons}
use Rattle.hg_why.proofs.BlockLemmas.{stable-block, unstable-block}
use Rattle.hg_why.proofs.CauseLemmas.{no-reasons, reasons-unstable}
use Rattle.hg_why.proofs.why.write_at.Goals as goal

pub returns-then-is_empty : goal.returns-then-is_empty
returns-then-is_empty g c =
    let kept = c.args.telling.now.kept.now in
    let f = content_of kept.replica in
    let n = c.node_at-node.result in
    let are = subst (AreReasons f n) (sym c.as_slice-all.ensures.value) c.in_ok-found.ensures in
    stable-block kept c.args.place n (g.W.Write.contents c.args.writer.now) c.node_at-node.ensures
    (no-reasons f n c.as_slice-all.result.now are (sym c.is_empty.ensures ∙ c.if-is_empty.true))

pub returns : goal.returns
returns g c =
    let kept = c.args.telling.now.kept.now in
    let f = content_of kept.replica in
    let n = c.node_at-node.result in
    let are = subst (AreReasons f n) (sym c.as_slice-all.ensures.value) c.in_ok-found.ensures in
    on_ok_weaker c.write_block.result
    (unstable-block kept c.args.place n c.as_slice-all.result.now _ _ c.node_at-node.ensures
    (reasons-unstable f n c.as_slice-all.result.now are (sym c.is_empty.ensures ∙ c.if-is_empty.false)) are)
    c.write_block.ensures
