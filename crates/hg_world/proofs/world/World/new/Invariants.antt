use Rattle.std.proofs.Common.{◌≡◌, ◌≤◌, All, vec_len, vec_capacity}
use Rattle.hg_join.specs.Order.{IsLeastOfAll}
use Rattle.hg_world.proofs.world.World.new.Given as goal

abbrev pub invariant-loop : goal.invariant-loop
invariant-loop g l = let J = g.S.JoinState in record {
  counted : vec_len l.nodes ≡ l.counter;
  room : l.count ≤ vec_capacity l.nodes;
  empty : All (λ (node : g.row.S.Denot). IsLeastOfAll J.IsValid J.Below (J.content node)) l.nodes.items;
  unmarked : All (λ (node : g.row.S.Denot). g.S.Actor.owned node ≡ g.S.Actor.own_of_empty) l.nodes.items;
}
