use Rattle.std.proofs.Common.{arith}
use Rattle.hg_marker.proofs.MarkerLemmas.{taken}
use Rattle.hg_marker.proofs.format.marker_and_used.Goals as goal

pub overflow_sub-result : goal.overflow_sub-result
overflow_sub-result c =
    (taken c.args.bytes.now c.in_ok-marker.marker c.in_ok-marker.rest.now (λ i. omega (arith, c.type_inv.bytes i))
    c.in_ok-marker.ensures).1
