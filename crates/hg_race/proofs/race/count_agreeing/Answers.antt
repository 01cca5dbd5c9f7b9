use Rattle.std.proofs.Common.{length, ap, arith}
use Rattle.hg_peer.specs.Words.{PeerWorld}
use Rattle.hg_race.proofs.RingLemmas.{same_number}
use Rattle.hg_race.proofs.race.count_agreeing.Goals as goal

pub returns : goal.returns
returns c = (
  c.share_in_ring.new.fleet.nodes,
  omega (
    arith,
    same_number c.of-fleet.result c.share_in_ring.new.fleet c.share_in_ring.ensures.run,
    ap (λ (w : PeerWorld). length w.nodes) c.of-fleet.ensures,
    c.in_ok-peers_left.field-0.ok.0,
    c.in_ok-peers_left.ensures,
  ),
  c.in_ok-count.ensures.count,
)
