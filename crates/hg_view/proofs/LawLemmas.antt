-- Ancestors of what is in view.
use Rattle.std.proofs.Common.{◌≡◌, ap, arith}
use Rattle.hg_changeset.specs.declared.node.Node.{Node}
use Rattle.hg_phases.specs.declared.phase.Phase.TheVariants.{Secret}
use Rattle.hg_phases.specs.State.{rank}
use Rattle.hg_phases.proofs.RankLemmas.{rank-apart, rank-top}
use Rattle.hg_history.specs.Content.{Content as HistoryContent, IsHeld, Leads, IsValidContent as IsValidHistory}
use Rattle.hg_history.specs.Content.Leads.{itself, below}
use Rattle.hg_history.specs.ContentLaws.{leads-low}
use Rattle.hg_replica.specs.Content.{Content, IsValidContent}
use Rattle.hg_replica.specs.Evolution.{HasPhase, IsVisible, IsServed}

pub leads-along : (f : HistoryContent) (a n d : Node) → Leads f a n → Leads f n d → Leads f a d
leads-along f a n d up itself = up
leads-along f a n d up (below {p = p} r e is) = below (leads-along f a n p up r) e is

-- what is led to from what is held is held
pub leads-held : (f : HistoryContent) → IsValidHistory f → (a n : Node) → Leads f a n → IsHeld f n → IsHeld f a
leads-held f v a n itself held = held
leads-held f v a n (below {p = p} {h = h} r e is) held = let parent = v.parents n h p e is in
    leads-held f v a p r (parent.0, parent.1)

pub visible-above : (f : Content) (a n : Node) → IsVisible f n → Leads f.0 a n → IsVisible f a
visible-above f a n v up = (v.0, v.1, leads-along f.0 a n v.0 up v.2)

-- what stands above what is held and not secret is not secret
pub not_secret-above : (f : Content) (a n d : Node) → IsValidContent f → IsHeld f.0 d → Leads f.0 n d
    → ¬ (HasPhase f n Secret) → Leads f.0 a n → ¬ (HasPhase f a Secret)
not_secret-above f a n d valid at down not up secret =
    let held = leads-held f.0 valid n d down at in
    let low = leads-low f.0 valid a n up secret.0 held.0 secret.1 held.1 in
    let top = rank-top held.0.phase in
    let two : rank secret.0.phase ≡ 2 = ap rank secret.2 in
    not (held.0, held.1, rank-apart held.0.phase Secret (omega (arith, low, top, two)))

pub served-above : (f : Content) (a n : Node) → IsValidContent f → IsServed f n → Leads f.0 a n → IsServed f a
served-above f a n valid s up =
    (visible-above f a n s.0 up, not_secret-above f a n s.0.0 valid s.0.1.0 s.0.2 s.1 up)
