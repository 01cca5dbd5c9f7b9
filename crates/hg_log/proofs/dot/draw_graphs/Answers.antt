use Rattle.std.proofs.lemmas.Result.{on_ok_weaker}
use Rattle.hg_log.specs.Objects.{names_and_states}
use Rattle.hg_log.proofs.GraphLemmas.{graph_written}
use Rattle.hg_log.proofs.dot.draw_graphs.Goals as goal

pub returns : goal.returns
returns g c =
    on_ok_weaker c.write_bytes-2.result
    (graph_written c.args.shows_hidden (names_and_states c.args.nodes.now) _ _ _ _ _ _ c.in_ok-write_bytes.ensures.ok
    c.in_ok-draw_clusters.ensures)
    c.write_bytes-2.ensures.ok
