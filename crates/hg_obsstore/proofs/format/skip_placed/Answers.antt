use Rattle.std.proofs.Common.{arith}
use Rattle.hg_marker.specs.Faults.{marker_at}
use Rattle.hg_obsstore.proofs.FormatLemmas.{shorter, left_ok}
use Rattle.hg_obsstore.proofs.format.skip_placed.Goals as goal

pub returns-in-Ok-clause-shorter : goal.returns-in-Ok-clause-shorter
returns-in-Ok-clause-shorter c =
    let read = left_ok (marker_at c.args.rest.now) c.in-Ok.after.now c.in-Ok.ensures in
    shorter c.args.rest.now read.0 c.in-Ok.after.now (λ i. omega (arith, c.type_inv.rest i)) read.1
