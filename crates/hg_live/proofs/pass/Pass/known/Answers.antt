use Rattle.std.proofs.Common.{refl}
use Rattle.hg_replica.specs.Content.{content_of}
use Rattle.hg_view.specs.Kept.{KeptValue}
use Rattle.hg_discovery.specs.Rounds.{AreKnown}
use Rattle.hg_live.proofs.LookLemmas.{look_answer}
use Rattle.hg_live.proofs.pass.Pass.known.Goals as goal

pub returns : goal.returns
returns g c =
    let p = c.deref-published.result.now in
    let looks = c.in-Some-further.ensures in
    rw (← c.self.view_is)
    (look_answer g.K.NodeName.opening _ _ p looks.1 looks.0 refl refl c.peer.ensures.after
    (λ (s : KeptValue) answers. AreKnown (content_of s.replica) s.pins c.args.nodes.now answers.items)
    c.known_by-answers.result (rw (← c.peer.ensures.state) c.known_by-answers.ensures.ok)
    c.known_by-answers.ensures.err)
