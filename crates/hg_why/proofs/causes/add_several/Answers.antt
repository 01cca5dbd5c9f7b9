use Rattle.std.proofs.lemmas.Result.{on_ok_weaker}
use Rattle.hg_replica.specs.Content.{content_of}
use Rattle.hg_instab.proofs.QueryLemmas.{not_true}
use Rattle.hg_log.proofs.KindLemmas.{is_so}
use Rattle.hg_why.specs.Causes.{IsByOne, IsCause}
use Rattle.hg_why.specs.Causes.Cause.{several_before}
use Rattle.hg_why.proofs.CauseLemmas.{adds-nothing, several-told}
use Rattle.hg_why.proofs.causes.add_several.Goals as goal

pub returns-then-not-status : goal.returns-then-not-status
returns-then-not-status c =
    let f = content_of c.args.kept.now.replica in
    adds-nothing f (IsByOne several_before (λ p. IsCause f c.args.node (several_before p))) c.args.reasons.now.items
    (λ cause h. not_true _ c.if-not-status.true (c.status.ensures.content_divergent.1 (h.1.0, (h.0, h.1.1, h.1.2))))

pub returns : goal.returns
returns c = on_ok_weaker c.add_sets.result
    (λ adds. several-told c.args.kept.now.replica c.replica-replica.result.now c.args.node _
    c.in_ok-before.before.keys _ c.in_ok-several.several.keys _ _ c.replica-replica.ensures.replica
    c.as_slice.ensures.keys c.as_slice-2.ensures.keys
    (c.status.ensures.content_divergent.0 (is_so _ c.if-not-status.false)) c.in_ok-before.ensures
    c.in_ok-several.ensures adds)
    c.add_sets.ensures
