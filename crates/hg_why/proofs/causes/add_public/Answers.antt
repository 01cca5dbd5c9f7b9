use Rattle.std.proofs.lemmas.Result.{on_ok_weaker}
use Rattle.hg_replica.specs.Content.{content_of}
use Rattle.hg_instab.proofs.QueryLemmas.{not_true}
use Rattle.hg_log.proofs.KindLemmas.{is_so}
use Rattle.hg_why.specs.Causes.{IsByOne, IsCause}
use Rattle.hg_why.specs.Causes.Cause.{public_before}
use Rattle.hg_why.proofs.CauseLemmas.{adds-nothing, public-told}
use Rattle.hg_why.proofs.causes.add_public.Goals as goal

pub returns-then-not-status : goal.returns-then-not-status
returns-then-not-status c =
    let f = content_of c.args.kept.now.replica in
    adds-nothing f (IsByOne public_before (λ p. IsCause f c.args.node (public_before p))) c.args.reasons.now.items
    (λ cause h. not_true _ c.if-not-status.true (c.status.ensures.phase_divergent.1 (h.1.0, (h.0, h.1.1, h.1.2))))

pub returns : goal.returns
returns c = on_ok_weaker c.add_public_among.result
    (λ adds. public-told c.args.kept.now.replica c.replica-replica.result.now c.args.node _ c.in_ok-before.before.keys
    _ _ c.replica-replica.ensures.replica c.as_slice.ensures.keys
    (c.status.ensures.phase_divergent.0 (is_so _ c.if-not-status.false)) c.in_ok-before.ensures adds)
    c.add_public_among.ensures
