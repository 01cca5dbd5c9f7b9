use Rattle.std.proofs.Common.{sym, ap}
use Rattle.hgfleet.specs.Commands.{overview_of}
use Rattle.hgfleet.proofs.commands.overview_of.Goals as goal

pub returns-in-Text : goal.returns-in-Text
returns-in-Text c = sym (ap (overview_of c.args.shows_hidden c.args.is_coloured) c.in-Text.is)

pub returns-in-Graph : goal.returns-in-Graph
returns-in-Graph c = sym (ap (overview_of c.args.shows_hidden c.args.is_coloured) c.in-Graph.is)

pub returns-in-Json : goal.returns-in-Json
returns-in-Json c = sym (ap (overview_of c.args.shows_hidden c.args.is_coloured) c.in-Json.is)
