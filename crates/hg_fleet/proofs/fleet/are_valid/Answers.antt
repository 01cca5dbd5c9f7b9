use Rattle.std.proofs.Common.{◌≡◌, ◌<◌, inl, inr, length, slice_get, Some, ℕ, subst, arith}
use Rattle.std.proofs.lemmas.Bool.{cases_lt}
use Rattle.std.proofs.lemmas.Option.{slice_get_within}
use Rattle.hg_replica.specs.State.{IsValid}
use Rattle.hg_replica.proofs.ContentLemmas.{content-valid}
use Rattle.hg_view.specs.Kept.{KeptValue}
use Rattle.hg_world.proofs.Places.{one_at, read_at}
use Rattle.hg_fleet.proofs.fleet.are_valid.Goals as goal

pub loop-peer-preserved : goal.loop-peer-preserved
loop-peer-preserved c place peer within at =
    let peers = c.args.peers.now in
    let i = c.loop-peer.peer-index in
    let item : KeptValue = c.peer-item.result in
    elim (cases_lt place i) [
      | inl before ↦ c.loop-peer.invariant place peer before at
      | inr from ↦
          let same : place ≡ i = omega arith in
          let there : slice_get peers i ≡ Some item = read_at peers i item c.loop-peer-test.true c.peer-item.is in
          let one : item ≡ peer = one_at peers i item peer there
          (subst (λ (k : ℕ). slice_get peers k ≡ Some peer) same at) in
          subst (λ (p : KeptValue). IsValid p.replica) one (rw (← c.replica.ensures) c.is_valid.ensures)
    ]

pub returns : goal.returns
returns c place node at =
    let there : place < length c.args.peers.now = slice_get_within c.args.peers.now place node at in
    content-valid node.replica (c.loop-peer.invariant place node (omega arith) at)
