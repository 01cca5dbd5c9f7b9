-- Views under pins, beside the views without.
use Rattle.std.proofs.Common.{List, [], Contains, ◌↔◌, ◌⊎◌, inl, inr}
use Rattle.hg_changeset.specs.declared.node.Node.{Node}
use Rattle.hg_changeset.proofs.ListLemmas.{Contains-none}
use Rattle.hg_history.specs.Content.{Leads}
use Rattle.hg_replica.specs.State.{ReplicaState, IsValid, IsSameState}
use Rattle.hg_replica.specs.Content.{Content, content_of, IsValidContent}
use Rattle.hg_replica.specs.Evolution.{IsExtinct, IsUnder, IsVisible, IsHidden, IsServed}
use Rattle.hg_replica.proofs.ContentLemmas.{content-alike}
use Rattle.hg_instab.proofs.SetLemmas.{along}
use Rattle.hg_instab.proofs.TurnedLemmas.{contains-or}
use Rattle.hg_view.specs.Pins.{IsVisibleUnder, IsHiddenUnder, IsServedUnder, AreAmong, AreSamePins}
use Rattle.hg_view.proofs.HiddenLemmas.{hidden-extinct}
use Rattle.hg_view.proofs.LawLemmas.{leads-along, not_secret-above}

module _ (f : Content) (pins : List Node) where
  -- what is visible without pins is visible under them
  pub visible-under : (n : Node) → IsVisible f n → IsVisibleUnder f pins n
  visible-under n v = (v.0, (v.1.0, λ out. v.1.1 out.0), v.2)

  -- pins show what they pin, and its ancestors, and nothing else
  pub visible-pinned : (n : Node) → IsVisibleUnder f pins n
      ↔ (IsVisible f n ⊎ ((d : Node) × Contains pins d × IsUnder f n d))
  visible-pinned n = (
    λ v. elim (contains-or pins v.0) [
      | inl pinned ↦ inr (v.0, pinned, (v.1.0, v.2))
      | inr none ↦ inl (v.0, (v.1.0, λ obsolete. v.1.1 (obsolete, none)), v.2)
    ],
    λ h. elim h [
      | inl v ↦ visible-under n v
      | inr d ↦ (d.0, (d.2.0, λ out. out.1 d.1), d.2.1)
    ],
  )

  pub visible_under-above : (a n : Node) → IsVisibleUnder f pins n → Leads f.0 a n → IsVisibleUnder f pins a
  visible_under-above a n v up = (v.0, v.1, leads-along f.0 a n v.0 up v.2)

  pub served_under-above : (a n : Node) → IsValidContent f → IsServedUnder f pins n → Leads f.0 a n
      → IsServedUnder f pins a
  served_under-above a n valid s up =
      (visible_under-above a n s.0 up, not_secret-above f a n s.0.0 valid s.0.1.0 s.0.2 s.1 up)

  -- more pins take nothing out of view
  pub visible-more : (more : List Node) → AreAmong pins more → (n : Node) → IsVisibleUnder f pins n
      → IsVisibleUnder f more n
  visible-more more among n v = (v.0, (v.1.0, λ out. v.1.1 (out.0, λ h. out.1 (among v.0 h))), v.2)

-- views that agree on what is visible agree on the rest
pub others-alike : {A B C : Type 0} → A ↔ B → (C × ¬ A) ↔ (C × ¬ B)
others-alike same = (λ h. (h.0, λ b. h.1 (same.1 b)), λ h. (h.0, λ a. h.1 (same.0 a)))

pub rest-alike : {A B C : Type 0} → A ↔ B → (A × C) ↔ (B × C)
rest-alike same = (λ h. (same.0 h.0, h.1), λ h. (same.1 h.0, h.1))

-- ---- no pins

pub visible-unpinned : (f : Content) (n : Node) → IsVisibleUnder f [] n ↔ IsVisible f n
visible-unpinned f n = (
  λ v. (v.0, (v.1.0, λ obsolete. v.1.1 (obsolete, Contains-none v.0)), v.2),
  visible-under f [] n,
)

pub hidden-unpinned : (f : Content) (n : Node) → IsHiddenUnder f [] n ↔ IsHidden f n
hidden-unpinned f n = others-alike (visible-unpinned f n)

pub served-unpinned : (f : Content) (n : Node) → IsServedUnder f [] n ↔ IsServed f n
served-unpinned f n = rest-alike (visible-unpinned f n)

-- ---- the same members

module _ (f : Content) (pins others : List Node) (same : AreSamePins pins others) (n : Node) where
  pub visible-members : IsVisibleUnder f pins n ↔ IsVisibleUnder f others n
  visible-members = (
    visible-more f pins others (λ m. (same m).0) n,
    visible-more f others pins (λ m. (same m).1) n,
  )

module _ (s t : ReplicaState) (pins others : List Node) (n : Node) (v : IsValid s) (w : IsValid t)
    (same : IsSameState s t) (members : AreSamePins pins others) where
  pub visible_under-alike : IsVisibleUnder (content_of s) pins n ↔ IsVisibleUnder (content_of t) others n
  visible_under-alike = along (content-alike (λ (f : Content). IsVisibleUnder f pins n) s t v w same)
      (visible-members (content_of t) pins others members n)

  pub hidden_under-alike : IsHiddenUnder (content_of s) pins n ↔ IsHiddenUnder (content_of t) others n
  hidden_under-alike = along (content-alike (λ (f : Content). IsHiddenUnder f pins n) s t v w same)
      (others-alike (visible-members (content_of t) pins others members n))

  pub served_under-alike : IsServedUnder (content_of s) pins n ↔ IsServedUnder (content_of t) others n
  served_under-alike = along (content-alike (λ (f : Content). IsServedUnder f pins n) s t v w same)
      (rest-alike (visible-members (content_of t) pins others members n))

-- what is hidden under pins is hidden without them, and so extinct
pub hidden_under-extinct : (s : ReplicaState) (pins : List Node) (n : Node) → IsValid s
    → IsHiddenUnder (content_of s) pins n → IsExtinct (content_of s) n
hidden_under-extinct s pins n v h =
    (hidden-extinct s v n).0 (h.0, λ seen. h.1 (visible-under (content_of s) pins n seen))
