use Rattle.std.proofs.Common.{◌≡◌, ◌≤◌, All, vec_len, vec_capacity}
use Rattle.hg_peer.specs.New.{IsNew}
use Rattle.hg_peer.proofs.world.world_with_keys.Given as goal

abbrev pub invariant-loop : goal.invariant-loop
invariant-loop l = record {
  counted : vec_len l.peers ≡ l.counter;
  room : l.count ≤ vec_capacity l.peers;
  new : All IsNew l.peers.items;
}
