use Rattle.std.proofs.Common.{◌≡◌, length, arith}
use Rattle.hg_graph.proofs.MarkLemmas.{written}
use Rattle.hg_graph.proofs.graph.Graph.ancestor_marks.Goals as goal

pub returns-clause-marked : goal.returns-clause-marked
returns-clause-marked c =
    let v = c.in_ok-marks.marks in
    let all : length c.mark_ancestors.new.marks ≡ v.len =
    omega (arith, c.mark_ancestors.ensures.len, c.in_ok-marks.ensures.len, c.len.ensures.len) in
    rw (written v.len c.mark_ancestors.new.marks v.items all) c.mark_ancestors.ensures.marked
