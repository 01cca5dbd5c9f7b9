use Rattle.std.proofs.Common.{get_or}
use Rattle.std.proofs.lemmas.Option.{slice_get-get_or}
use Rattle.hg_world.proofs.Places.{taken_there}
use Rattle.hg_world.proofs.steps.take_bytes_at.Goals as goal

pub returns : goal.returns
returns g c =
    let e = c.take.ensures in
    taken_there g.S.JoinState g.S.Actor c.args.nodes.now c.args.at
    (get_or c.args.nodes.now c.args.at c.index-nodes-at.result) c.take.new.self c.args.bytes.now c.take.result
    (slice_get-get_or c.args.nodes.now c.args.at c.index-nodes-at.result c.requires) e.taken e.err e.unchanged
