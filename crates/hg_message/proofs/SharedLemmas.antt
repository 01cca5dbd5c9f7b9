-- Two whole offers, one each way, make two replicas share one history.
use Rattle.std.proofs.Common.{◌≡◌, ◌≢◌, ◌≤◌, ◌++◌, inl, inr, List, Some, Contains, refl, sym, ap, subst}
use Rattle.std.proofs.Common.{◌∙◌, arith}
use Rattle.std.proofs.lemmas.Bool.{or_cases}
use Rattle.std.proofs.lemmas.Option.{same_Some}
use Rattle.hg_changeset.specs.declared.node.Node.{Node}
use Rattle.hg_changeset.specs.Contents.{Contents}
use Rattle.hg_graph.specs.Graph.{IsParent}
use Rattle.hg_phases.specs.declared.phase.Phase.{Phase}
use Rattle.hg_phases.specs.declared.phase.Phase.TheVariants.{Public, Secret}
use Rattle.hg_phases.specs.State.{Held, rank}
use Rattle.hg_phases.proofs.RankLemmas.{rank-apart}
use Rattle.hg_marker.specs.Fields.{Fields}
use Rattle.hg_history.specs.Content.{IsBelowAt, Leads}
use Rattle.hg_history.specs.Content.Leads.{itself, below}
use Rattle.hg_history.specs.ContentLaws.{leads-low}
use Rattle.hg_replica.specs.Content.{Content, IsValidContent, ContentBelow, ContentAfter}
use Rattle.hg_replica.specs.Evolution.{IsMarker, IsMutable, IsPredecessor, IsObsolete, IsCurrent, IsOrphan, Precedes}
use Rattle.hg_replica.specs.Evolution.{IsBumpedFix, IsPhaseDivergent, HasPhase}
use Rattle.hg_replica.specs.Evolution.Precedes.{step, further}
use Rattle.hg_replica.proofs.MarkerLemmas.{in_from_holds}
use Rattle.hg_view.specs.Share.{IsShared}
use Rattle.hg_view.proofs.LawLemmas.{leads-held}
use Rattle.hg_view.proofs.ShareLemmas.{shared-above}
use Rattle.hg_message.specs.declared.scope.Scope.TheVariants.{Whole}
use Rattle.hg_message.specs.Value.{MessageValue}
use Rattle.hg_message.specs.Part.{draft_bounds, part_of}
use Rattle.hg_message.specs.Offer.{IsNamed, IsNamedMarker, SaysOffer}
use Rattle.hg_message.specs.Taken.{HoldsNamed}
use Rattle.hg_message.specs.Shared.{IsSharedAs, ShareTheSame, AgreeOnShared, HasNoSecret}
use Rattle.hg_message.proofs.OfferLawLemmas.{not_secret, bounds-named}

-- what is held so isn't secret where its phase isn't
shared_by : (f : Content) (n : Node) (h : Held) → IsSharedAs f n h → IsShared f n
shared_by f n h so = (
  (h, so.0),
  λ secret. so.1 (ap (λ (x : Held). x.phase) (same_Some h secret.0 (sym so.0 ∙ secret.1)) ∙ secret.2),
)

shared_as : (f : Content) (n : Node) (h : Held) → f.0 n ≡ Some h → IsShared f n → IsSharedAs f n h
shared_as f n h e so = (e, λ secret. so.1 (h, e, secret))

-- a phase that is no higher than one that isn't secret isn't secret
low_phase : (j k : Phase) → rank j ≤ rank k → k ≢ Secret → j ≢ Secret
low_phase j k le low secret =
    let top : rank j ≡ 2 = ap rank secret in
    let bottom = not_secret k low in
    omega (arith, le, top, bottom)

one_held : (h k : Held) → h.changeset ≡ k.changeset → h.phase ≡ k.phase → h ≡ k
one_held h k c p i = record { changeset = c i; phase = p i }

-- ---- what f holds once it has taken in the whole offer n of g, which holds all that f shares

module _ (f g after : Content) (vg : IsValidContent g) (pins known : List Node) (n : MessageValue)
    (says : SaysOffer g pins known n) (whole : n.scope ≡ Whole)
    (there : (x : Node) → IsShared f x → IsBelowAt (f.0 x) (g.0 x)) (marks : (k : Fields) → IsMarker f k → IsMarker g k)
    (taken : ContentAfter f (part_of n) after) (back : HoldsNamed g pins Whole after) where
  -- what is bounded is shared, at a phase no higher
  bounded : (b : Node × Phase) → Contains (n.bounds ++ draft_bounds n.changesets) b
      → (h : Held) × IsSharedAs g b.0 h × (rank h.phase ≤ rank b.1)
  bounded b at =
      let x = bounds-named g pins known n says b at in
      let shared : IsShared g b.0 = subst (λ scope. IsNamed g pins scope b.0) whole x.3 in
      (x.0, shared_as g b.0 x.0 x.1 shared, x.2)

  -- afterwards no more leads to what is shared
  leads_back : (x d : Node) (h : Held) → Leads after.0 x d → IsSharedAs g d h → Leads g.0 x d
  leads_back x d h itself so = itself
  leads_back x d h (below {p = p} {h = k} r e is) so =
      let b = back.changesets d (shared_by g d h so) h so.0 in
      let same : k ≡ b.0 = same_Some k b.0 (sym e ∙ b.1) in
      let is_parent : IsParent h.changeset p =
      subst (λ (c : Contents). IsParent c p) (ap (λ (y : Held). y.changeset) same ∙ b.2) is in
      let q = vg.parents d h p so.0 is_parent in
      below (leads_back x p q.0 r (q.1, low_phase q.0.phase h.phase q.2 so.1)) so.0 is_parent

  lowest : (x : Node) (k : Held) → IsSharedAs after x k → (h : Held) × (g.0 x ≡ Some h) × (rank h.phase ≤ rank k.phase)
  lowest x k so = elim (taken.0.phases x k so.0).0 [
    | inl secret ↦ absurd (so.1 secret)
    | inr rest ↦ elim rest [
      | inl was ↦
          let low : was.0.phase ≢ Secret = λ s. so.1 (sym was.2 ∙ s) in
          let y = there x (shared_by f x was.0 (was.1, low)) was.0 was.1 in
          let same : rank was.0.phase ≡ rank k.phase = ap rank was.2 in
          (y.0, y.1, omega (arith, y.3, same))
      | inr bound ↦
          let b = bound.0 in
          let top = bounded b bound.1 in
          let leads = leads_back x b.0 top.0 bound.2 top.1 in
          let held = leads-held g.0 vg x b.0 leads (top.0, top.1.0) in
          let low = leads-low g.0 vg x b.0 leads held.0 top.0 held.1 top.1.0 in
          let same : rank b.1 ≡ rank k.phase = ap rank bound.3 in
          (held.0, held.1, omega (arith, low, top.2, same))
    ]
  ]

  shared_back : (x : Node) (k : Held) → IsSharedAs after x k → IsSharedAs g x k
  shared_back x k so =
      let l = lowest x k so in
      let low = low_phase l.0.phase k.phase l.2 so.1 in
      let b = back.changesets x (shared_by g x l.0 (l.1, low)) l.0 l.1 in
      let same : b.0 ≡ k = same_Some b.0 k (sym b.1 ∙ so.0) in
      let le : rank k.phase ≤ rank l.0.phase = subst (λ (y : Held). rank y.phase ≤ rank l.0.phase) same b.3 in
      let one : l.0 ≡ k = one_held l.0 k (sym b.2 ∙ ap (λ (y : Held). y.changeset) same)
      (rank-apart l.0.phase k.phase (omega (arith, le, l.2))) in
      (l.1 ∙ ap Some one, so.1)

  shared_on : (x : Node) (h : Held) → IsSharedAs g x h → IsSharedAs after x h
  shared_on x h so =
      let b = back.changesets x (shared_by g x h so) h so.0 in
      let there_as : IsSharedAs after x b.0 = (b.1, low_phase b.0.phase h.phase b.3 so.1) in
      let one : b.0 ≡ h = same_Some b.0 h (sym (shared_back x b.0 there_as).0 ∙ so.0) in
      (b.1 ∙ ap Some one, so.1)

  markers_back : (k : Fields) → IsMarker after k → IsMarker g k
  markers_back k h = elim (or_cases _ _ (sym (ap (λ (u : Fields → _). u k) taken.1) ∙ h)) [
    | inl was ↦ marks k was
    | inr new ↦
        subst (λ scope. IsNamedMarker g pins scope k) whole ((says.markers k).0 (in_from_holds n.markers k new))
  ]

  pub shared-same : ShareTheSame g after
  shared-same = record {
    changesets = λ x h. (shared_on x h, shared_back x h);
    markers = λ k. (back.markers k, markers_back k);
  }

-- ---- what shares the same agrees

pub flipped : (f g : Content) → ShareTheSame f g → ShareTheSame g f
flipped f g same = record {
  changesets = λ n h. ((same.changesets n h).1, (same.changesets n h).0);
  markers = λ m. ((same.markers m).1, (same.markers m).0);
}

module _ (f g : Content) (vf : IsValidContent f) (same : ShareTheSame f g) where
  over : (n : Node) (h : Held) → f.0 n ≡ Some h → IsShared f n → g.0 n ≡ Some h
  over n h e so = ((same.changesets n h).0 (shared_as f n h e so)).0

  shared_over : (n : Node) → IsShared f n → IsShared g n
  shared_over n so =
      shared_by g n so.0.0 ((same.changesets n so.0.0).0 (shared_as f n so.0.0 so.0.1 so))

  mutable_over : (n : Node) → IsShared f n → IsMutable f n → IsMutable g n
  mutable_over n so h = (h.0, over n h.0 h.1 so, h.2)

  predecessor_over : (n : Node) → IsPredecessor f n → IsPredecessor g n
  predecessor_over n h = (h.0, (same.markers h.0).0 h.1, h.2)

  obsolete_over : (n : Node) → IsShared f n → IsObsolete f n → IsObsolete g n
  obsolete_over n so o = (mutable_over n so o.0, predecessor_over n o.1)

  leads_over : (a n : Node) → Leads f.0 a n → IsShared f n → Leads g.0 a n
  leads_over a n itself so = itself
  leads_over a n (below {p = p} {h = h} r e is) so =
      below (leads_over a p r (shared-above f p n vf so (below itself e is))) (over n h e so) is

  precedes_over : (p n : Node) → Precedes f (λ m. ¬ (IsBumpedFix m)) p n → Precedes g (λ m. ¬ (IsBumpedFix m)) p n
  precedes_over p n (step {m = m} h kind at is) = step ((same.markers m).0 h) kind at is
  precedes_over p n (further {m = m} h kind at r) =
      further ((same.markers m).0 h) kind at (precedes_over p m.predecessor r)

  public_over : (p : Node) → HasPhase f p Public → HasPhase g p Public
  public_over p h =
      let low : h.0.phase ≢ Secret = λ secret. let two : rank h.0.phase ≡ 2 = ap rank secret in
      let zero : rank h.0.phase ≡ 0 = ap rank h.2 in omega (arith, two, zero) in
      (h.0, ((same.changesets p h.0).0 (h.1, low)).0, h.2)

module _ (f g : Content) (vf : IsValidContent f) (vg : IsValidContent g) (same : ShareTheSame f g) where
  current_over : (n : Node) → IsShared f n → IsCurrent f n → IsCurrent g n
  current_over n so h = (
    mutable_over f g vf same n so h.0,
    λ o. h.1 (obsolete_over g f vg (flipped f g same) n (shared_over f g vf same n so) o),
  )

  orphan_over : (n : Node) → IsShared f n → IsOrphan f n → IsOrphan g n
  orphan_over n so h =
      let a = h.1.0 in
      let leads = h.1.1.1 in (
        current_over n so h.0,
        (
          a,
          ((shared_over f g vf same n so).0, leads_over f g vf same a n leads so),
          obsolete_over f g vf same a (shared-above f a n vf so leads) h.1.2,
        ),
      )

  divergent_over : (n : Node) → IsShared f n → IsPhaseDivergent f n → IsPhaseDivergent g n
  divergent_over n so h = (
    current_over n so h.0,
    (h.1.0, public_over f g vf same h.1.0 h.1.1, precedes_over f g vf same h.1.0 n h.1.2),
  )

pub shared-agree : (f g : Content) → IsValidContent f → IsValidContent g → ShareTheSame f g → AgreeOnShared f g
shared-agree f g vf vg same =
    let back = flipped f g same in
    let over' = shared_over f g vf same in
    record {
      obsolete = λ n so. (obsolete_over f g vf same n so, obsolete_over g f vg back n (over' n so));
      orphan = λ n so. (orphan_over f g vf vg same n so, orphan_over g f vg vf back n (over' n so));
      phase_divergent = λ n so. (divergent_over f g vf vg same n so, divergent_over g f vg vf back n (over' n so));
    }

-- ---- where nothing is secret

held_below : (f g : Content) → ShareTheSame f g → HasNoSecret f → ContentBelow f g
held_below f g same none = (
  λ n h e. let at = (same.changesets n h).0 (e, none n h e) in (h, at.0, refl, omega arith),
  λ m h. (same.markers m).0 h,
)

pub shared-all : (f g : Content) → ShareTheSame f g → HasNoSecret f → HasNoSecret g
    → ContentBelow f g × ContentBelow g f
shared-all f g same none nor = (held_below f g same none, held_below g f (flipped f g same) nor)
