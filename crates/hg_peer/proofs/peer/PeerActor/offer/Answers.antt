use Rattle.std.proofs.Common.{All, ap, subst, ◌∙◌}
use Rattle.hg_marker.specs.Grammar.{IsMarker}
use Rattle.hg_replica.specs.State.{ReplicaState}
use Rattle.hg_peer.proofs.PeerLemmas.{offered, large-refused, answered-due, refused-offer, refused-wants, found-wants}
use Rattle.hg_peer.proofs.peer.PeerActor.offer.Goals as goal

pub returns-in-Ok-clause-ok : goal.returns-in-Ok-clause-ok
returns-in-Ok-clause-ok c =
    rw (← c.self.view_is) (offered c.self.inside.kept c.args.ask.now c.deref.result.now c.in-Ok.found
    c.written.result c.deref.ensures.value c.replica-replica.ensures.valid c.in-Ok.ensures c.written.ensures.ok)

pub returns-in-Ok-clause-err : goal.returns-in-Ok-clause-err
returns-in-Ok-clause-err c =
    rw (← c.self.view_is) (large-refused c.self.inside.kept c.args.ask.now c.deref.result.now c.in-Ok.found
    c.written.result c.deref.ensures.value c.in-Ok.ensures c.written.ensures.err)

pub returns-in-Ok-clause-due : goal.returns-in-Ok-clause-due
returns-in-Ok-clause-due c =
    rw (← c.self.view_is) (answered-due c.self.inside.kept c.args.ask.now c.deref.result.now c.above_kept.result
    c.deref.ensures.value c.replica-replica.ensures.valid
    (subst (All IsMarker) (c.store.ensures ∙ ap (λ (t : ReplicaState). t.markers) c.replica-replica.ensures.replica)
    c.is_valid.ensures) c.above_kept.ensures)

pub returns-in-Ok-clause-memory : goal.returns-in-Ok-clause-memory
returns-in-Ok-clause-memory c =
    rw (← c.self.view_is) (found-wants c.self.inside.kept c.args.ask.now c.deref.result.now c.in-Ok.found
    c.written.result c.deref.ensures.value c.in-Ok.ensures c.written.ensures.memory)

pub returns-in-Err-clause-err : goal.returns-in-Err-clause-err
returns-in-Err-clause-err c =
    rw (← c.self.view_is) (refused-offer c.self.inside.kept c.args.ask.now c.deref.result.now c.in-Err.refusal
    c.into.result c.deref.ensures.value c.into.ensures c.in-Err.ensures)

pub returns-in-Err-clause-due : goal.returns-in-Err-clause-due
returns-in-Err-clause-due c =
    rw (← c.self.view_is) (answered-due c.self.inside.kept c.args.ask.now c.deref.result.now c.above_kept.result
    c.deref.ensures.value c.replica-replica.ensures.valid
    (subst (All IsMarker) (c.store.ensures ∙ ap (λ (t : ReplicaState). t.markers) c.replica-replica.ensures.replica)
    c.is_valid.ensures) c.above_kept.ensures)

pub returns-in-Err-clause-memory : goal.returns-in-Err-clause-memory
returns-in-Err-clause-memory c =
    rw (← c.self.view_is) (refused-wants c.self.inside.kept c.args.ask.now c.deref.result.now c.in-Err.refusal
    c.into.result c.deref.ensures.value c.into.ensures c.in-Err.ensures)
