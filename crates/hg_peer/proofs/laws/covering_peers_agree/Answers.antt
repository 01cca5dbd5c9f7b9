use Rattle.hg_replica.specs.Content.{content_of}
use Rattle.hg_replica.proofs.ContentLemmas.{same_from_content}
use Rattle.hg_peer.proofs.AgreeLemmas.{one_agrees, same_seen}
use Rattle.hg_peer.proofs.laws.covering_peers_agree.Goals as goal

pub returns-clause-sets : goal.returns-clause-sets
returns-clause-sets c old new t a b first second e h at_a at_b covers_b covers_a =
    one_agrees (content_of first.replica) (content_of second.replica)
    (c.covering_nodes_agree.ensures old new t a b first second e h at_a at_b covers_b covers_a)

pub returns-clause-visible : goal.returns-clause-visible
returns-clause-visible c old new t a b first second e h at_a at_b covers_b covers_a =
    same_seen first second
    (c.covering_nodes_agree.ensures old new t a b first second e h at_a at_b covers_b covers_a)

pub returns-clause-state : goal.returns-clause-state
returns-clause-state c old new t a b first second e h at_a at_b v w covers_b covers_a =
    same_from_content first.replica second.replica v w
    (c.covering_nodes_agree.ensures old new t a b first second e h at_a at_b covers_b covers_a)
