use Rattle.std.proofs.Common.{[], ◌++◌}
use Rattle.std.proofs.KnownBytes.{Appends-trans, Appends-nil}
use Rattle.hg_preview.proofs.LineLemmas.{next_line, no_line}
use Rattle.hg_preview.proofs.lines.Scene.write_each.Goals as goal

pub loop-node-preserved : goal.loop-node-preserved
loop-node-preserved g c =
    let d = c.in_ok-write_one.ensures in
    λ rest holds later grew. c.loop-node.invariant (d.0 ++ rest) holds
    (next_line c.args.nodes.now c.loop-node.node-index _ d.0 rest c.loop-node-test.true d.1 later)
    (Appends-trans _ _ _ d.0 rest d.2 grew)

pub returns : goal.returns
returns g c =
    c.loop-node.invariant [] _ (no_line c.args.nodes.now c.loop-node.node-index c.loop-node-test.false) (Appends-nil _)
