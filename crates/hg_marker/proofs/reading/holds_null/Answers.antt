use Rattle.std.proofs.Common.{false, ◌≡◌, sym, ◌∙◌}
use Rattle.std.proofs.lemmas.Bool.{false_from_ne_true, false≢true}
use Rattle.hg_changeset.specs.Node.{null_node, node_eq}
use Rattle.hg_changeset.proofs.NodeLemmas.{same_node, node_itself}
use Rattle.hg_marker.proofs.NodesLemmas.{null_found, null_goes_on, room_left}
use Rattle.hg_marker.proofs.reading.holds_null.Goals as goal

pub returns-then-is_null : goal.returns-then-is_null
returns-then-is_null c =
    null_found c.args.count c.loop.counter c.args.ids.now c.loop.rest.now c.split_id.result.1.now c.split_id.result.0
    c.loop-test.true c.split_id.ensures.id
    (node_itself null_node c.split_id.result.0 (sym (c.is_null.ensures.null.0 c.if-is_null.true))) c.loop.invariant.1

pub loop-preserved : goal.loop-preserved
loop-preserved c =
    let other : node_eq null_node c.split_id.result.0 ≡ false =
    false_from_ne_true (node_eq null_node c.split_id.result.0)
    (λ e. false≢true
    (sym c.if-is_null.false ∙ c.is_null.ensures.null.1 (sym (same_node null_node c.split_id.result.0 e)))) in (
      room_left c.args.count c.loop.counter c.loop.rest.now c.split_id.result.1.now c.loop-test.true
          c.split_id.ensures.rest c.loop.invariant.0,
      null_goes_on c.args.count c.loop.counter c.args.ids.now c.loop.rest.now c.split_id.result.1.now
          c.split_id.result.0 c.loop-test.true c.split_id.ensures.id c.split_id.ensures.rest other c.loop.invariant.1,
    )
