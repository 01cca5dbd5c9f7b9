use Rattle.std.proofs.Common.{sym, subst}
use Rattle.hg_world.specs.Runs.{AllEmpty}
use Rattle.hg_peer.specs.Words.{peer_state}
use Rattle.hg_fleet.proofs.fleet.Fleet.new.Goals as goal

pub returns-clause-empty : goal.returns-clause-empty
returns-clause-empty c = subst (AllEmpty peer_state) (sym c.over.ensures) c.in_ok-world_with_keys.ensures.empty
