use Rattle.std.proofs.Common.{rules, All, sym, subst}
use Rattle.std.proofs.lemmas.List.Elements.{All-push}
use Rattle.hg_world.specs.Runs.{AllEmpty, AllUnmarked}
use Rattle.hg_peer.specs.New.{IsNew}
use Rattle.hg_peer.specs.Words.{peer_state, peer_words}
use Rattle.hg_peer.proofs.WorldLemmas.{all_at}
use Rattle.hg_peer.proofs.world.world_with_keys.Goals as goal

pub loop-preserved : goal.loop-preserved
loop-preserved c =
    let pushed = rw c.unwrap.ensures at c.push.ensures.items in record {
      counted = search rules;
      room = search rules;
      new = subst (All IsNew) (sym pushed) (All-push IsNew c.loop.peers.items c.in_ok-with_keys.field-0
          c.loop.invariant.new c.in_ok-with_keys.ensures.new);
    }

pub of-requires : goal.of-requires
unfolding IsNew
of-requires c = λ place peer at. (all_at IsNew c.loop.peers.items c.loop.invariant.new place peer at).0.valid

pub returns-clause-empty : goal.returns-clause-empty
unfolding IsNew
returns-clause-empty c = subst (AllEmpty peer_state) (sym c.of.ensures)
    (λ place peer at. (all_at IsNew c.loop.peers.items c.loop.invariant.new place peer at).0)

pub returns-clause-unmarked : goal.returns-clause-unmarked
unfolding IsNew
returns-clause-unmarked c = subst (AllUnmarked peer_state peer_words) (sym c.of.ensures)
    (λ place peer at. (all_at IsNew c.loop.peers.items c.loop.invariant.new place peer at).1)
