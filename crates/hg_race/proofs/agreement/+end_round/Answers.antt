use Rattle.std.proofs.lemmas.Result.{on_ok_weaker}
use Rattle.hg_race.proofs.RingLemmas.{ended, onward, runs_then}
use Rattle.hg_race.proofs.agreement.+end_round.Goals as goal

pub returns-then-taker-peers-clause-round : goal.returns-then-taker-peers-clause-round
returns-then-taker-peers-clause-round n c =
    on_ok_weaker c.share.result
    (ended c.args.taker c.args.fleet.now.nodes c.share.new.fleet.nodes (rw (← c.peers.ensures) c.if-taker-peers.true))
    c.share.ensures.shared

pub returns-in_ok-share-clause-run : goal.returns-in_ok-share-clause-run
returns-in_ok-share-clause-run n c =
    runs_then c.args.fleet.now c.share-else-taker-peers.new.fleet c.end_round.new.fleet
    c.share-else-taker-peers.ensures.run c.end_round.ensures.run

pub returns-in_ok-share-clause-round : goal.returns-in_ok-share-clause-round
returns-in_ok-share-clause-round n c =
    on_ok_weaker c.end_round.result
    (onward c.args.taker c.args.fleet.now.nodes c.share-else-taker-peers.new.fleet.nodes c.end_round.new.fleet.nodes
    (λ e. c.if-taker-peers.false (rw c.peers.ensures e)) c.in_ok-share.ensures.shared)
    c.end_round.ensures.round
