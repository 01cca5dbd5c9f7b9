-- What one content says, it says of each replica that has it.
use Rattle.std.proofs.Common.{◌≡◌, ◌↔◌, subst}
use Rattle.hg_replica.specs.Content.{Content, content_of}
use Rattle.hg_view.specs.Kept.{KeptValue}
use Rattle.hg_view.specs.Pins.{IsVisibleUnder, IsServedUnder, AreSamePins}
use Rattle.hg_view.proofs.PinLemmas.{visible-members, rest-alike}
use Rattle.hg_peer.specs.Agreement.{Agree, SeeTheSame}

with_itself : (f : Content) → Agree f f
with_itself f = record {
  changesets = λ n c. (λ h. h, λ h. h);
  phases = λ n k. (λ h. h, λ h. h);
  markers = λ m. (λ h. h, λ h. h);
  obsolete = λ n. (λ h. h, λ h. h);
  orphan = λ n. (λ h. h, λ h. h);
  suspended = λ n. (λ h. h, λ h. h);
  extinct = λ n. (λ h. h, λ h. h);
  phase_divergent = λ n. (λ h. h, λ h. h);
  content_divergent = λ n. (λ h. h, λ h. h);
  visible = λ n. (λ h. h, λ h. h);
}

pub one_agrees : (f g : Content) → f ≡ g → Agree f g
one_agrees f g e = subst (Agree f) e (with_itself f)

-- and under the same pins, what is seen of each
pub same_seen : (s t : KeptValue) → content_of s.replica ≡ content_of t.replica → AreSamePins s.pins t.pins →
    SeeTheSame s t
same_seen s t e same = record {
  visible = λ n.
      subst (λ (g : Content). IsVisibleUnder (content_of s.replica) s.pins n ↔ IsVisibleUnder g t.pins n) e
      (visible-members (content_of s.replica) s.pins t.pins same n);
  served = λ n.
      subst (λ (g : Content). IsServedUnder (content_of s.replica) s.pins n ↔ IsServedUnder g t.pins n) e
      (rest-alike (visible-members (content_of s.replica) s.pins t.pins same n));
}
