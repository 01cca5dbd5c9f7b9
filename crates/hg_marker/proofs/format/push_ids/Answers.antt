use Rattle.std.proofs.Common.{◌+◌, [], length, drop, get_or, ap, arith}
use Rattle.std.proofs.lemmas.List.{length-append}
use Rattle.hg_changeset.specs.declared.node.Node.{Node}
use Rattle.hg_marker.specs.Grammar.{ids}
use Rattle.hg_marker.proofs.WritingLemmas.{ids_drop}
use Rattle.hg_marker.proofs.format.push_ids.Goals as goal

pub unwrap-requires : goal.unwrap-requires
unwrap-requires c =
    let nodes = c.args.nodes.now in
    let i = c.loop-node.node-index in
    let first : Node = record { 0 = [] } in
    c.extend_from_slice.ensures.succeeds (omega (
      arith,
      c.requires.room,
      c.loop-node.out.ok.0,
      c.args.out.now.ok.0,
      c.loop-node.invariant.1,
      ap length c.loop-node.invariant.0,
      length-append c.args.out.now.items (ids nodes),
      length-append c.loop-node.out.items (ids (drop i nodes)),
      ap length (ids_drop nodes i first c.loop-node-test.true),
      length-append (get_or nodes i first).0 (ids (drop (i + 1) nodes)),
    ))
