-- What goes out of what is served, by the heads of that.
use Rattle.std.proofs.Common.{◌≡◌, ◌↔◌, ℕ, ◌≤◌, List, Contains, refl, sym, ap}
use Rattle.std.proofs.Common.{subst, ◌∙◌, arith}
use Rattle.std.specs.List.Sorted.{IsStrictlyIncreasing, IsStrictlySortedBy}
use Rattle.std.proofs.lemmas.Option.{same_Some}
use Rattle.hg_changeset.specs.declared.node.Node.{Node}
use Rattle.hg_changeset.specs.Node.{node_cmp}
use Rattle.hg_changeset.specs.Contents.{Contents}
use Rattle.hg_changeset.specs.Changeset.{node_of}
use Rattle.hg_changeset.proofs.ListLemmas.{slice_get_some}
use Rattle.hg_graph.specs.Graph.{IsParent, Reaches}
use Rattle.hg_graph.specs.Places.{IsAt, IsParentPlace, IsPlaceOfOne}
use Rattle.hg_graph.proofs.PlaceLemmas.{IsAt-from, place_from_Holds, placed_within}
use Rattle.hg_phases.specs.declared.phase.Phase.{Phase}
use Rattle.hg_phases.specs.declared.phase.Phase.TheVariants.{Public, Draft, Secret}
use Rattle.hg_phases.specs.State.{Held, changesets, rank}
use Rattle.hg_history.specs.Content.{Leads}
use Rattle.hg_history.specs.Content.Leads.{itself, below}
use Rattle.hg_history.specs.ContentLaws.{leads-low}
use Rattle.hg_history.proofs.ContentLemmas.{content-valid, node_in_content, leads_from_reach}
use Rattle.hg_replica.specs.State.{ReplicaState, IsValid}
use Rattle.hg_replica.specs.Content.{content_of}
use Rattle.hg_replica.specs.Evolution.{HasPhase}
use Rattle.hg_instab.proofs.QueryLemmas.{one_phase}
use Rattle.hg_view.specs.Above.{IsAbove, IsUnderOne}
use Rattle.hg_view.specs.Kept.{KeptValue}
use Rattle.hg_view.specs.Pins.{IsServedUnder}
use Rattle.hg_view.specs.HeadPlaces.{IsHeadAmong, IsPublicAt, IsServedAt}
use Rattle.hg_view.proofs.PinLemmas.{served_under-above}
use Rattle.hg_message.specs.Covered.{HasPhaseAt, IsAtOneIn}
use Rattle.hg_message.specs.Offer.{AreHeld, AreHeads, IsCommon, IsOneWith, IsOutgoing}
use Rattle.hg_message.specs.Outgoing.{ArePlacesOf, AreServedHeads}
use Rattle.hg_message.proofs.OfferLemmas.{common-are, outgoing-at}
use Rattle.hg_message.proofs.CoveredLemmas.{changeset_at, held_at, IsOne, IsOneAt, heads-by-children, one_at, phase_at}

module _ (k : KeptValue) (valid : IsValid k.replica) where
  abbrev s : ReplicaState
  s = k.replica

  abbrev cs : List Contents
  cs = changesets s.history

  abbrev Served : Node → Type 0
  Served = IsServedUnder (content_of s) k.pins

  -- what is served is so with its ancestors
  served-above : (a n : Node) → Served n → Leads (content_of s).0 a n → Served a
  served-above a n so up = served_under-above (content_of s) k.pins a n (content-valid s.history valid) so up

  -- ---- what goes out

  module _ (common : List Node) (held : AreHeld (content_of s) common) (heads known : List ℕ)
      (are : AreServedHeads k heads) (known-are : (i : ℕ) → Contains known i ↔ IsPlaceOfOne cs common i) where
    -- one of the common nodes, or an ancestor of one, stands at what is under a known place
    common-under : (i : ℕ) (n : Node) → IsAt cs n i → IsUnderOne cs known i ↔ IsCommon (content_of s) common n
    common-under i n at =
        let same = common-are s valid common held n in (
          λ u.
              let one = (known-are u.0).0 u.1 in
              let a : u.2.0 ≡ n = same_Some u.2.0 n (sym u.2.2 ∙ at) in
              let d : u.2.1 ≡ one.0 = same_Some u.2.1 one.0 (sym u.2.3 ∙ one.2) in
              same.0 (one.0, one.1, subst (Reaches cs n) d (subst (λ x. Reaches cs x u.2.1) a u.2.4)),
          λ is.
              let r = same.1 is in
              let p = place_from_Holds cs r.0 (node_in_content s.history valid.graph r.0 (held r.0 r.1)) in
              (p.0, (known-are p.0).1 (r.0, r.1, p.1), (n, r.0, at, p.1, r.2)),
        )

    -- what is served stands at what is under a head
    served-under : (i : ℕ) (n : Node) → IsAt cs n i → IsUnderOne cs heads i ↔ Served n
    served-under i n at = (
      λ u.
          let top = ((are.exact u.0).0 u.1).0 in
          let a : u.2.0 ≡ n = same_Some u.2.0 n (sym u.2.2 ∙ at) in
          let d : u.2.1 ≡ top.0 = same_Some u.2.1 top.0 (sym u.2.3 ∙ top.1) in
          served-above n top.0 top.2 (leads_from_reach s.history valid.graph n top.0
          (subst (Reaches cs n) d (subst (λ x. Reaches cs x u.2.1) a u.2.4))),
      λ so. let h = are.covers i (n, at, so) in (h.0, h.1, h.2),
    )

    pub served-outgoing : (found : List ℕ) → ((i : ℕ) → Contains found i ↔ IsAbove cs heads known i)
        → IsStrictlyIncreasing found → ArePlacesOf (IsOutgoing (content_of s) Served common) cs found
    served-outgoing found exact ascending = record {
      ascending = ascending;
      exact = λ i. (
        λ h.
            let above = (exact i).0 h in
            let there = slice_get_some cs i (placed_within cs above.0.2.0 i above.0.2.2) in
            let at = IsAt-from cs i there.0 (node_of there.0) there.1 refl in (
              there.0,
              there.1,
              (outgoing-at s valid Served common i there.0 there.1).0 (
                (served-under i (node_of there.0) at).0 above.0,
                λ is. above.1 ((common-under i (node_of there.0) at).1 is),
              ),
            ),
        λ h.
            let out = (outgoing-at s valid Served common i h.0 h.1).1 h.2 in
            let at = IsAt-from cs i h.0 (node_of h.0) h.1 refl in
            (exact i).1 (
              (served-under i (node_of h.0) at).1 out.0,
              λ u. out.1 ((common-under i (node_of h.0) at).0 u),
            ),
      );
    }

  -- ---- bounds

  -- what is public is served
  public-served : (n : Node) → HasPhase (content_of s) n Public → Served n
  public-served n public = (
    (
      n,
      (
        (public.0, public.1),
        λ counts. counts.0.0.2 (one_phase (content_of s) n counts.0.0.0.phase Public
            (counts.0.0.0, counts.0.0.1, refl) public),
      ),
      itself,
    ),
    λ secret.
        let e = ap rank (one_phase (content_of s) n Public Secret public secret) in
        omega (arith, e),
  )

  -- of places that are so where one of what is served stands with this phase, and has no such child
  heads-at : (phase : Phase) (places : List ℕ) (nodes : List Node)
      → ((n : Node) → Contains nodes n ↔ IsAtOneIn s.history places phase n) → IsStrictlySortedBy node_cmp nodes
      → ((i : ℕ) (n : Node) → IsAt cs n i → IsOne s.history valid Served served-above phase n
      → Contains places i ↔ ((j : ℕ) → IsParentPlace cs j i → ¬ (IsOneAt s.history valid Served served-above phase j)))
      → ((i : ℕ) → Contains places i → HasPhaseAt s.history phase i → IsServedAt s k.pins i)
      → AreHeads (content_of s) (IsOneWith (content_of s) Served phase) nodes
  heads-at phase places nodes exact ascending are_heads are = record {
    exact = λ n. (
      λ h.
          let at = (exact n).0 h in
          let so = are at.0 at.1 at.3 in
          let one = one_at s.history valid Served served-above phase at.0 n at.2
          (subst Served (same_Some so.0 n (sym so.1 ∙ at.2)) so.2) at.3 in
          (heads-by-children s.history valid Served served-above phase n at.0 at.2).0
          (one, (are_heads at.0 n at.2 one).0 at.1),
      λ h.
          let p = place_from_Holds cs n (node_in_content s.history valid.graph n (h.0.1.0, h.0.1.1)) in
          let top = (heads-by-children s.history valid Served served-above phase n p.0 p.1).1 h in
          (exact n).1 (
            p.0,
            (are_heads p.0 n p.1 h.0).1 top.1,
            p.1,
            phase_at s.history valid Served served-above phase p.0 n p.1 h.0,
          ),
    );
    ascending = ascending;
  }

  -- the heads of what is public
  pub public-heads : (places : List ℕ) → ((i : ℕ) → Contains places i ↔ IsHeadAmong cs (IsPublicAt s.history) i)
      → (nodes : List Node) → ((n : Node) → Contains nodes n ↔ IsAtOneIn s.history places Public n)
      → IsStrictlySortedBy node_cmp nodes → AreHeads (content_of s) (IsOneWith (content_of s) Served Public) nodes
  public-heads places are nodes exact ascending = heads-at Public places nodes exact ascending
      (λ i n at one. (
        λ h j parent other. ((are i).0 h).1 j parent
            (phase_at s.history valid Served served-above Public j other.0 other.1 other.2),
        λ none. (are i).1 (
          phase_at s.history valid Served served-above Public i n at one,
          λ j parent public. none j parent (public-one j public),
        ),
      ))
      (λ i h so. let one = public-one i so in (one.0, one.1, one.2.0))
    where
      public-one : (i : ℕ) → IsPublicAt s.history i → IsOneAt s.history valid Served served-above Public i
      public-one i so =
          let n = node_of so.0.changeset in
          let at : IsAt cs n i = IsAt-from cs i so.0.changeset n (changeset_at s.history i so.0 so.1) refl in
          let x = held_at s.history valid.graph i n at in
          let public : x.0.phase ≡ Public =
          ap (λ (h : Held). h.phase) (same_Some x.0 so.0 (sym x.1 ∙ so.1)) ∙ so.2 in
          (n, at, (public-served n (x.0, x.2, public), (x.0, x.2, public)))

  -- the heads of what is served and draft
  pub draft-heads : (heads : List ℕ) → AreServedHeads k heads → (nodes : List Node)
      → ((n : Node) → Contains nodes n ↔ IsAtOneIn s.history heads Draft n) → IsStrictlySortedBy node_cmp nodes
      → AreHeads (content_of s) (IsOneWith (content_of s) Served Draft) nodes
  draft-heads heads are nodes exact ascending = heads-at Draft heads nodes exact ascending
      (λ i n at one. (
        λ h j parent other. ((are.exact i).0 h).1 j parent (other.0, other.1, other.2.0),
        λ none. (are.exact i).1 (
          (n, at, one.0),
          λ j parent so. none j parent (so.0, so.1, (so.2, draft-child i n at one j parent so)),
        ),
      ))
      (λ i h so. ((are.exact i).0 h).0)
    where
      draft-child : (i : ℕ) (n : Node) → IsAt cs n i → IsOne s.history valid Served served-above Draft n → (j : ℕ)
          → IsParentPlace cs j i → (so : IsServedAt s k.pins j) → HasPhase (content_of s) so.0 Draft
      draft-child i n at one j parent so =
          let x = held_at s.history valid.graph j so.0 so.1 in
          let stands = changeset_at s.history j x.0 x.1 in
          let same : parent.0 ≡ x.0.changeset = same_Some parent.0 x.0.changeset (sym parent.2 ∙ stands) in
          let named : parent.1 ≡ n = same_Some parent.1 n (sym parent.4 ∙ at) in
          let up : IsParent x.0.changeset n =
          subst (λ c. IsParent c n) same (subst (IsParent parent.0) named parent.3) in
          let low = leads-low (content_of s).0 (content-valid s.history valid) n so.0 (below itself x.2 up) one.1.0 x.0
          one.1.1 x.2 in
          let bottom = ap rank one.1.2 in
          (x.0, x.2, between x.0.phase (omega (arith, low, bottom)) (λ e. so.2.1 (x.0, x.2, e)))
        where
          between : (phase : Phase) → 1 ≤ rank phase → ¬ (phase ≡ Secret) → phase ≡ Draft
          between Public low other = absurd (omega (arith, low))
          between Draft low other = refl
          between Secret low other = absurd (other refl)
