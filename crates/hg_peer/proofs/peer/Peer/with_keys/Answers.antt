use Rattle.std.proofs.Common.{ap, ◌∙◌}
use Rattle.hg_peer.proofs.PeerLemmas.{empty_is_least}
use Rattle.hg_peer.specs.Marks.{is_pin}
use Rattle.hg_peer.specs.New.{IsNew}
use Rattle.hg_peer.proofs.peer.Peer.with_keys.Goals as goal

pub returns-clause-new : goal.returns-clause-new
unfolding IsNew
returns-clause-new c = (
  empty_is_least c.in_ok-new.field-0.replica (c.in_ok-new.ensures.replica ∙ c.with_keys.ensures),
  ap is_pin c.in_ok-new.ensures.pins,
)
