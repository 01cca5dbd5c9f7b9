use Rattle.std.proofs.Common.{inr, refl, rules}
use Rattle.hg_show.proofs.InputLemmas.{shown_is_left}
use Rattle.hg_show.proofs.input.expect_end.Goals as goal

pub returns-in-Ok-2-clause-fault : goal.returns-in-Ok-2-clause-fault
returns-in-Ok-2-clause-fault g c =
    inr (
      refl,
      shown_is_left (g.R.Read.remaining c.args.reader.now) (g.R.Read.remaining c.fill_buf.follows.lender-at-none)
          c.in-Ok.left.now c.fill_buf.follows.holds-at-none.0 c.in-Ok.ensures.front (search rules),
    )
