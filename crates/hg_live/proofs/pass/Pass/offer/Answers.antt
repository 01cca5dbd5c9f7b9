use Rattle.std.proofs.Common.{refl}
use Rattle.hg_live.proofs.LookLemmas.{offer_answer}
use Rattle.hg_live.proofs.pass.Pass.offer.Goals as goal

pub returns : goal.returns
returns g c =
    let p = c.deref-published.result.now in
    let looks = c.in-Some-further.ensures in
    rw (← c.self.view_is)
    (offer_answer g.K.NodeName.opening _ _ p looks.1 looks.0 refl refl c.peer.ensures.after
    c.args.common.now c.args.scope c.offered_by-bytes.result (rw (← c.peer.ensures.state) c.offered_by-bytes.ensures))
