-- What a mark that is set changes.
use Rattle.std.proofs.Common.{◌≡◌, ℕ, Option, Some, None, List, slice_get, ap, ◌∙◌}
use Rattle.hg_replica.specs.Least.{PartValue}
use Rattle.hg_view.specs.Kept.{KeptValue}
use Rattle.hg_world.specs.declared.event.Event.TheVariants as event
use Rattle.hg_world.specs.declared.event.Answer.TheVariants.{Marked}
use Rattle.hg_world.specs.Runs.{Happens}
use Rattle.hg_world.proofs.Places.{get_set_same}
use Rattle.hg_peer.specs.declared.mark.Mark.{Mark}
use Rattle.hg_peer.specs.declared.mark.Mark.TheVariants.{Pin, Unpin}
use Rattle.hg_peer.specs.Marks.{Marks, ArePinsAfter}
use Rattle.hg_peer.specs.Laws.{IsMarkedAlone}
use Rattle.hg_peer.specs.Words.{peer_words, peer_state, PeerWorld}

pins_after : (s t : KeptValue) (mark : Mark) → Marks s mark t → ArePinsAfter mark s.pins t.pins
pins_after s t (Pin n) h = h.1.1
pins_after s t (Unpin n) h = h.1.1

replica_after : (s t : KeptValue) (mark : Mark) → Marks s mark t → t.replica ≡ s.replica
replica_after s t (Pin n) h = h.0
replica_after s t (Unpin n) h = h.0

pub marked_alone : (old new : PeerWorld) (at : ℕ) (mark : Mark) (part : Option PartValue) →
    Happens peer_state peer_words old (event.Mark at mark) Marked part new →
    ((place : ℕ) → (place ≡ at → ⊥) → slice_get new.nodes place ≡ slice_get old.nodes place) →
    new.messages ≡ old.messages → IsMarkedAlone old at mark new
marked_alone old new at mark (Some part) h others messages = absurd h
marked_alone old new at mark None h others messages = record {
  before = h.0;
  after = h.1;
  was = h.2;
  now = ap (λ (nodes : List KeptValue). slice_get nodes at) h.4 ∙ get_set_same old.nodes at h.0 h.1 h.2;
  replica = replica_after h.0 h.1 mark h.3;
  pins = pins_after h.0 h.1 mark h.3;
  others = others;
  messages = messages;
}
