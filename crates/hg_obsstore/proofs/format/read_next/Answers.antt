use Rattle.std.proofs.Common.{arith}
use Rattle.hg_obsstore.proofs.FormatLemmas.{shorter}
use Rattle.hg_obsstore.proofs.format.read_next.Goals as goal

pub returns-in-Ok-clause-shorter : goal.returns-in-Ok-clause-shorter
returns-in-Ok-clause-shorter c =
    shorter c.args.rest.now c.in-Ok.marker c.in-Ok.after.now (λ i. omega (arith, c.type_inv.rest i)) c.in-Ok.ensures
