use Rattle.hg_live.proofs.CallLemmas.{mark_told}
use Rattle.hg_live.proofs.entry.put_mark.Goals as goal

pub returns-in-Err-clause-refused : goal.returns-in-Err-clause-refused
returns-in-Err-clause-refused c =
    rw (c.into.ensures) (mark_told c.args.peer.now c.args.mark.now c.in-Err.refusal c.in-Err.ensures.err
    (λ e. c.in-Err.ensures.memory (cc (e))))
