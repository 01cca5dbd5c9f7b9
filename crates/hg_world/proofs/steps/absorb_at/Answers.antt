use Rattle.std.proofs.Common.{get_or}
use Rattle.std.proofs.lemmas.Option.{slice_get-get_or}
use Rattle.hg_world.proofs.Places.{absorbed_there}
use Rattle.hg_world.proofs.steps.absorb_at.Goals as goal

pub returns : goal.returns
returns g c =
    let e = c.absorb_owned.ensures in
    absorbed_there g.S.JoinState c.args.nodes.now c.args.at (get_or c.args.nodes.now c.args.at c.index-nodes-at.result)
    c.absorb_owned.new.self c.args.part c.absorb_owned.result
    (slice_get-get_or c.args.nodes.now c.args.at c.index-nodes-at.result c.requires) e.after e.change e.fault e.err
