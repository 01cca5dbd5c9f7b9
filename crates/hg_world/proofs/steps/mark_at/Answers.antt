use Rattle.std.proofs.Common.{get_or, None, inr, ap, List}
use Rattle.std.proofs.lemmas.Option.{slice_get-get_or}
use Rattle.hg_world.specs.Runs.{Snapshot}
use Rattle.hg_world.proofs.Places.{set_what_was}
use Rattle.hg_world.proofs.steps.mark_at.Goals as goal

pub returns-in-Err : goal.returns-in-Err
returns-in-Err g c =
    let node = get_or c.args.nodes.now c.args.at c.index-nodes-at.result in
    let there = slice_get-get_or c.args.nodes.now c.args.at c.index-nodes-at.result c.if-at-nodes.false in
    let same = set_what_was c.args.nodes.now c.args.at node c.mark.new.self there c.in-Err.ensures.unchanged in
    λ messages. (
      None,
      (
        inr (node, there, c.in-Err.ensures.err),
        ap (λ (ns : List g.row.S.Denot). let w : Snapshot g.row.S.Denot = record { nodes = ns; messages = messages } in
            w) same,
      ),
    )
