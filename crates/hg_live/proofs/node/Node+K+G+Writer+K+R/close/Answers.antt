use Rattle.std.proofs.Common.{ap, subst, Err}
use Rattle.hg_live.specs.Calls.{AreAllOf}
use Rattle.hg_live.proofs.node.Node+K+G+Writer+K+R.close.Goals as goal

pub returns-in-Ok-clause-ok : goal.returns-in-Ok-clause-ok
returns-in-Ok-clause-ok g c =
    let d = c.into_inner-desk.result in (
      d.journal,
      d.working,
      c.in-Ok.ensures.after,
      c.in-Ok.ensures.state,
      subst (AreAllOf d.journal) c.as_slice.ensures.value c.in-Ok.ensures.all,
    )

pub returns-in-Err-clause-out : goal.returns-in-Err-clause-out
returns-in-Err-clause-out g c out =
    let d = c.into_inner-desk.result in (
      d.journal,
      d.working,
      c.in-Err.ensures.after,
      subst (λ ps. ¬ (AreAllOf d.journal ps)) c.as_slice.ensures.value (c.in-Err.ensures.out (ap Err out)),
    )
