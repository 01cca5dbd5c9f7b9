use Rattle.hgfleet.proofs.arguments.race.Goals as goal

pub returns : goal.returns
returns c =
    let with_nodes = c.with_argument-race.ensures _ _ c.described-race.ensures c.race_nodes.ensures in
    c.with_argument.ensures _ _ with_nodes c.race_rounds.ensures
