-- The laws of contents.
use Rattle.std.specs.Prelude.{◌≡◌, ℕ, zero, suc, ◌<◌, ◌≤◌, Option, Some, None, List, [], ◌∷◌, ◌++◌, length, take}
use Rattle.std.specs.Prelude.{slice_get, Contains, ◌⊎◌, refl}
use Rattle.std.proofs.Common.{arith, sym, ◌∙◌, ap, subst, inl, inr}
use Rattle.std.specs.Option.{option_map}
use Rattle.std.proofs.lemmas.Option.{none-some, same_Some, slice_get-map, slice_get_within, slice_get-get_or}
use Rattle.std.proofs.lemmas.Option.{get_or_from_slice_get}
use Rattle.std.proofs.lemmas.List.{length-take, get_or-take}
use Rattle.std.proofs.lemmas.List.Elements.{Contains-append_left, Contains-append_right, Contains-append_cases}
use Rattle.hg_join.specs.Order.{IsPartialOrder, IsLeastCovering, again_by_least, swap_by_least}
use Rattle.hg_changeset.specs.declared.node.Node.{Node}
use Rattle.hg_changeset.specs.Node.{null_node}
use Rattle.hg_changeset.specs.Contents.{Contents}
use Rattle.hg_changeset.specs.Changeset.{node_of, IsChangeset}
use Rattle.hg_graph.specs.Graph.{nodes, IsParent}
use Rattle.hg_phases.specs.State.{Held, rank}
use Rattle.hg_phases.specs.Least.{PartValue}
use Rattle.hg_phases.proofs.RankLemmas.{rank-apart, rank-top}
use Rattle.hg_history.specs.declared.fault.Fault.{Fault}
use Rattle.hg_history.specs.declared.fault.Fault.TheVariants.{UnknownParent, Collision, UnknownBound, NullBound}
use Rattle.hg_history.specs.declared.fault.Fault.TheVariants.{NoMemory}
use Rattle.hg_history.specs.Answer.{IsFirstUnheld, IsFirstFault}
use Rattle.hg_history.specs.Content.{Content, IsHeld, IsHeldAs, IsHeldWith, Leads, IsGrounded, IsValidContent}
use Rattle.hg_history.specs.Content.{IsBelowAt, ContentBelow, ContentCovers, ContentAdmits, IsContentCandidate}
use Rattle.hg_history.specs.Content.{ContentAfter, IsListing, IsContentFault}
use Rattle.hg_history.specs.Content.Leads.{itself, below}
use Rattle.hg_history.specs.Content.IsGrounded.{grounded}

-- ---- the order

pub below-same : (a : Option Held) → IsBelowAt a a
below-same a h e = (h, e, refl, omega arith)

below-along : (a b c : Option Held) → IsBelowAt a b → IsBelowAt b c → IsBelowAt a c
below-along a b c p q h e =
    let g = p h e in
    let k = q g.0 g.1 in
    (k.0, k.1, k.2 ∙ g.2, omega (arith, k.3, g.3))

pub same-held : (h g : Held) → h.changeset ≡ g.changeset → h.phase ≡ g.phase → h ≡ g
same-held h g c p i = record { changeset = c i; phase = p i }

pub below-both : (a b : Option Held) → IsBelowAt a b → IsBelowAt b a → a ≡ b
below-both None None p q = refl
below-both None (Some g) p q = absurd (none-some (q g refl).0 (q g refl).1)
below-both (Some h) None p q = absurd (none-some (p h refl).0 (p h refl).1)
below-both (Some h) (Some g) p q =
    let up = p h refl in
    let back = q g refl in
    let up_is : g ≡ up.0 = same_Some g up.0 up.1 in
    let back_is : h ≡ back.0 = same_Some h back.0 back.1 in
    let le : rank g.phase ≤ rank h.phase = subst (λ x. rank x.phase ≤ rank h.phase) (sym up_is) up.3 in
    let ge : rank h.phase ≤ rank g.phase = subst (λ x. rank x.phase ≤ rank g.phase) (sym back_is) back.3 in
    let c_is : h.changeset ≡ g.changeset = sym up.2 ∙ ap (λ x. x.changeset) (sym up_is) in
    ap (λ x. Some x) (same-held h g c_is (rank-apart h.phase g.phase (omega arith)))

pub contents_ordered : IsPartialOrder IsValidContent ContentBelow
contents_ordered = record {
  reflexive = λ a _ n. below-same (a n);
  transitive = λ a b c _ _ _ p q n. below-along (a n) (b n) (c n) (p n) (q n);
  antisymmetric = λ a b _ _ p q i n. below-both (a n) (b n) (p n) (q n) i;
}

-- ---- ancestors

-- a descendant of n is one of its parents
pub leads-onward : (f : Content) (n p b : Node) (h : Held) → f n ≡ Some h → IsParent h.changeset p → Leads f n b
    → Leads f p b
leads-onward f n p b h e is itself = below itself e is
leads-onward f n p b h e is (below r at up) = below (leads-onward f n p _ h e is r) at up

-- what is led to in a content is led to in one that holds the same changesets and more
pub leads-within : (f g : Content) → ((n : Node) (h : Held) → f n ≡ Some h → IsHeldAs g n h.changeset) → (a n : Node)
    → Leads f a n → Leads g a n
leads-within f g within a n itself = itself
leads-within f g within a n (below {p = p} {h = h} r at up) =
    let x = within n h at in
    below (leads-within f g within a p r) x.1 (subst (λ c. IsParent c p) (sym x.2) up)

-- an ancestor's phase is no higher
pub leads-low : (f : Content) → IsValidContent f → (a n : Node) → Leads f a n → (h g : Held) → f a ≡ Some h
    → f n ≡ Some g → rank h.phase ≤ rank g.phase
leads-low f v a n itself h g at_h at_g =
    let e = ap (λ x. rank x.phase) (same_Some h g (sym at_h ∙ at_g)) in
    omega (arith, e)
leads-low f v a n (below {p = p} {h = k} r at up) h g at_h at_g =
    let k_is = ap (λ x. rank x.phase) (same_Some k g (sym at ∙ at_g)) in
    let parent = v.parents n k p at up in
    let rest = leads-low f v a p r h parent.0 at_h parent.1 in
    omega (arith, k_is, parent.2, rest)

grounded-parent : (f : Content) (n p : Node) (h : Held) → IsGrounded f n → f n ≡ Some h → IsParent h.changeset p
    → IsGrounded f p
grounded-parent f n p h (grounded step) e is = step h p e is

-- what is grounded in a valid content is so in one that holds the same changesets under the ids that the first holds
pub grounded-within : (f g : Content) → IsValidContent f
    → ((n : Node) (h k : Held) → f n ≡ Some h → g n ≡ Some k → k.changeset ≡ h.changeset) → (n : Node) → IsGrounded f n
    → IsHeld f n → IsGrounded g n
grounded-within f g v same n (grounded step) held = grounded (λ k p e is.
    let is_parent : IsParent held.0.changeset p = subst (λ c. IsParent c p) (same n held.0 k held.1 e) is in
    let parent = v.parents n held.0 p held.1 is_parent in
    grounded-within f g v same p (step held.0 p held.1 is_parent) (parent.0, parent.1))

-- ---- parts

-- a part that is covered still is when the content grows
pub contents_stay_covered : (a b : Content) (k : PartValue) → IsValidContent a → IsValidContent b → ContentBelow a b
    → ContentCovers a k → ContentCovers b k
contents_stay_covered a b k v w up covers = record {
  holds = λ c at.
      let h = covers.holds c at in
      let g = up (node_of c) h.0 h.1 in
      (g.0, g.1, g.2 ∙ h.2);
  bounded = λ x at.
      let held = covers.bounded x at in
      let h = held.0.0 in
      let g = up x.0 h held.0.1 in (
        (g.0, g.1),
        λ n d at_d leads.
            let low = leads-low b w n x.0 leads d g.0 at_d g.1 in
            let had = held.1 x.0 h held.0.1 itself in
            omega (arith, low, had, g.3),
      );
}

-- where a changeset of the list's front stands
placed : (cs : List Contents) (i : ℕ) (c : Contents) → Contains (take i cs) c
    → (j : ℕ) × (j < i) × (slice_get cs j ≡ Some c)
placed cs i c at =
    let len = length-take i cs in
    let before : at.0 < i = omega (arith, at.1) in
    let within : at.0 < length cs = omega (arith, at.1) in
    (at.0, before, slice_get-get_or cs at.0 c within ∙ ap (λ x. Some x) (sym (get_or-take i cs at.0 c before) ∙ at.2))

at_place : (cs : List Contents) (i : ℕ) (c : Contents) → slice_get cs i ≡ Some c → Contains cs c
at_place cs i c at = (i, slice_get_within cs i c at, get_or_from_slice_get cs i c c at)

place_of : (cs : List Contents) (c : Contents) → Contains cs c → (i : ℕ) × (slice_get cs i ≡ Some c)
place_of cs c at = (at.0, slice_get-get_or cs at.0 c at.1 ∙ ap (λ x. Some x) at.2)

node-listed : (cs : List Contents) (c : Contents) → Contains cs c → Contains (nodes cs) (node_of c)
node-listed cs c at =
    let place = place_of cs c at in
    let at_node : slice_get (nodes cs) place.0 ≡ Some (node_of c) =
    slice_get-map node_of cs place.0 ∙ ap (option_map node_of) place.1 in (
      place.0,
      slice_get_within (nodes cs) place.0 (node_of c) at_node,
      get_or_from_slice_get (nodes cs) place.0 (node_of c) (node_of c) at_node,
    )

module _ (f g : Content) (k : PartValue) (v : IsValidContent f) (after : ContentAfter f k g) where
  open after use {admitted, union, phases}

  kept : (n : Node) (h : Held) → f n ≡ Some h → IsHeldAs g n h.changeset
  kept n h e = (union n h.changeset).1 (inl (h, e, refl))

  kept-same : (n : Node) (h x : Held) → f n ≡ Some h → g n ≡ Some x → x.changeset ≡ h.changeset
  kept-same n h x e at =
      let y = kept n h e in
      ap (λ z. z.changeset) (same_Some x y.0 (sym at ∙ y.1)) ∙ y.2

  came : (c : Contents) → Contains k.changesets c → IsHeldAs g (node_of c) c
  came c at = (union (node_of c) c).1 (inr (at, refl))

  -- where what is held came from
  source : (n : Node) (h : Held) → g n ≡ Some h → IsHeldAs f n h.changeset
      ⊎ (Contains k.changesets h.changeset × (node_of h.changeset ≡ n))
  source n h e = (union n h.changeset).0 (h, e, refl)

  -- ids that are held, or come with the part, are held
  all-held : (i : ℕ) (n : Node) → IsHeldWith f (take i k.changesets) n → IsHeld g n
  all-held i n (inl h) = let x = kept n h.0 h.1 in (x.0, x.1)
  all-held i n (inr h) =
      let place = placed k.changesets i h.0 h.1 in
      let x = came h.0 (at_place k.changesets place.0 h.0 place.2) in
      (x.0, subst (λ m. g m ≡ Some x.0) h.2 x.1)

  parent-held : (n p : Node) (h : Held) → g n ≡ Some h → IsParent h.changeset p → IsHeld g p
  parent-held n p h e is = elim (source n h e) [
    | inl x ↦
        let parent = v.parents n x.0 p x.1 (subst (λ c. IsParent c p) (sym x.2) is) in
        all-held 0 p (inl (parent.0, parent.1))
    | inr x ↦
        let place = place_of k.changesets h.changeset x.0 in
        all-held place.0 p (admitted.parents place.0 h.changeset place.1 p is)
  ]

  -- a parent's phase is no higher, whatever decided the child's
  parent-low : (n p : Node) (h x : Held) → g n ≡ Some h → IsParent h.changeset p → g p ≡ Some x
      → IsContentCandidate f k g n h.phase → rank x.phase ≤ rank h.phase
  parent-low n p h x e is at (inl top) = subst (λ j. rank x.phase ≤ rank j) (sym top) (rank-top x.phase)
  parent-low n p h x e is at (inr (inl old)) =
      let same = kept-same n old.0 h old.1 e in
      let parent = v.parents n old.0 p old.1 (subst (λ c. IsParent c p) same is) in
      let low = (phases p x at).1 parent.0.phase (inr (inl (parent.0, parent.1, refl))) in
      let phase_is = ap rank old.2 in
      omega (arith, low, parent.2, phase_is)
  parent-low n p h x e is at (inr (inr b)) =
      let low = (phases p x at).1 b.0.1 (inr (inr (b.0, b.1, leads-onward g n p b.0.0 h e is b.2, refl))) in
      subst (λ j. rank x.phase ≤ rank j) b.3 low

  old-grounded : (n : Node) → IsHeld f n → IsGrounded g n
  old-grounded n held = grounded-within f g v kept-same n (v.grounded n) held

  -- the part's changesets before a place are grounded, each in those before it
  part-grounded : (bound i : ℕ) (c : Contents) → i < bound → slice_get k.changesets i ≡ Some c
      → IsGrounded g (node_of c)
  part-grounded zero i c lt at = absurd (omega arith)
  part-grounded (suc bound) i c lt at = grounded (λ h p e is.
      let x = came c (at_place k.changesets i c at) in
      let same : h.changeset ≡ c = ap (λ z. z.changeset) (same_Some h x.0 (sym e ∙ x.1)) ∙ x.2 in
      elim (admitted.parents i c at p (subst (λ d. IsParent d p) same is)) [
        | inl held ↦ old-grounded p held
        | inr here ↦
            let place = placed k.changesets i here.0 here.1 in
            let earlier : place.0 < bound = omega (arith, place.1) in
            subst (IsGrounded g) here.2 (part-grounded bound place.0 here.0 earlier place.2)
      ])

  all-grounded : (n : Node) → IsGrounded g n
  all-grounded n = grounded (λ h p e is. elim (source n h e) [
    | inl x ↦ grounded-parent g n p h (old-grounded n (x.0, x.1)) e is
    | inr x ↦
        let place = place_of k.changesets h.changeset x.0 in
        let last : place.0 < suc place.0 = omega arith in
        grounded-parent g n p h
        (subst (IsGrounded g) x.1 (part-grounded (suc place.0) place.0 h.changeset last place.1)) e is
  ])

  after-valid : IsValidContent g
  after-valid = record {
    named = λ n h e. elim (source n h e) [
      | inl x ↦ let old = v.named n x.0 x.1 in (subst (λ c. node_of c ≡ n) x.2 old.0, subst IsChangeset x.2 old.1)
      | inr x ↦ (x.1, admitted.each h.changeset x.0)
    ];
    parents = λ n h p e is.
        let parent = parent-held n p h e is in
        (parent.0, parent.1, parent-low n p h parent.0 e is parent.1 (phases n h e).0);
    grounded = all-grounded;
  }

  after-above : ContentBelow f g
  after-above n h e =
      let x = kept n h e in
      (x.0, x.1, x.2, (phases n x.0 x.1).1 h.phase (inr (inl (h, e, refl))))

  after-covers : ContentCovers g k
  after-covers = record {
    holds = came;
    bounded = λ b at. (
      all-held-part b.0 (admitted.bounds b at),
      λ n h e leads. (phases n h e).1 b.1 (inr (inr (b, at, leads, refl))),
    );
  }
    where
      all-held-part : (n : Node) → IsHeldWith f k.changesets n → IsHeld g n
      all-held-part n (inl h) = all-held 0 n (inl h)
      all-held-part n (inr h) =
          let x = came h.0 h.1 in
          (x.0, subst (λ m. g m ≡ Some x.0) h.2 x.1)

  module _ (u : Content) (w : IsValidContent u) (up : ContentBelow f u) (covers : ContentCovers u k) where
    within : (n : Node) (h : Held) → g n ≡ Some h → IsHeldAs u n h.changeset
    within n h e = elim (source n h e) [
      | inl x ↦ let y = up n x.0 x.1 in (y.0, y.1, y.2 ∙ x.2)
      | inr x ↦ let y = covers.holds h.changeset x.0 in (y.0, subst (λ m. u m ≡ Some y.0) x.1 y.1, y.2)
    ]

    low-there : (n : Node) (h x : Held) → u n ≡ Some x → IsContentCandidate f k g n h.phase
        → rank x.phase ≤ rank h.phase
    low-there n h x at (inl top) = subst (λ j. rank x.phase ≤ rank j) (sym top) (rank-top x.phase)
    low-there n h x at (inr (inl old)) =
        let y = up n old.0 old.1 in
        let y_is = ap (λ z. rank z.phase) (same_Some x y.0 (sym at ∙ y.1)) in
        let phase_is = ap rank old.2 in
        omega (arith, y_is, phase_is, y.3)
    low-there n h x at (inr (inr b)) =
        let leads = leads-within g u within n b.0.0 b.2 in
        let low = (covers.bounded b.0 b.1).1 n x at leads in
        subst (λ j. rank x.phase ≤ rank j) b.3 low

    after-least : ContentBelow g u
    after-least n h e =
        let x = within n h e in
        (x.0, x.1, x.2, low-there n h x.0 x.1 (phases n h e).0)

-- what a part leaves is the least valid content above that covers it
pub contents_absorbed : (a b : Content) (k : PartValue) → IsValidContent a → ContentAfter a k b
    → IsLeastCovering IsValidContent ContentBelow ContentCovers a (k ∷ []) b
contents_absorbed a b k v after = record {
  valid = after-valid a b k v after;
  above = after-above a b k v after;
  covers = (after-covers a b k v after, tt);
  least = λ u w up covers. after-least a b k v after u w up covers.0;
}

-- a covered part changes nothing
pub contents_again : (a b : Content) (k : PartValue) → IsValidContent a → ContentCovers a k → ContentAfter a k b → b ≡ a
contents_again = again_by_least contents_ordered contents_stay_covered contents_absorbed

-- two parts leave one content, in either order
pub contents_swap : (a ap apq aq aqp : Content) (p q : PartValue) → IsValidContent a → ContentAfter a p ap
    → ContentAfter ap q apq → ContentAfter a q aq → ContentAfter aq p aqp → apq ≡ aqp
contents_swap = swap_by_least contents_ordered contents_stay_covered contents_absorbed

-- a covered part is admitted
pub covered_admitted : (a : Content) (k : PartValue) → IsValidContent a → ContentCovers a k → ContentAdmits a k
covered_admitted a k v covers = record {
  each = λ c at. let h = covers.holds c at in subst IsChangeset h.2 (v.named (node_of c) h.0 h.1).1;
  parents = λ i c at p is.
      let h = covers.holds c (at_place k.changesets i c at) in
      let parent = v.parents (node_of c) h.0 p h.1 (subst (λ d. IsParent d p) (sym h.2) is) in
      inl (parent.0, parent.1);
  bounds = λ b at. inl (covers.bounded b at).0;
  apart = λ c d at other e.
      let h = covers.holds c at in
      let held : IsHeldAs a (node_of d) d = elim other [ inl x ↦ x | inr x ↦ covers.holds d x ] in
      let same = same_Some h.0 held.0 (sym h.1 ∙ ap a e ∙ held.1) in
      sym h.2 ∙ ap (λ x. x.changeset) same ∙ held.2;
}

-- ---- refusals

-- what is held, or among these changesets, is among the listed ones and these
listed-with : (a : Content) (held cs : List Contents) → IsValidContent a → IsListing a held → (n : Node)
    → IsHeldWith a cs n → Contains (nodes (held ++ cs)) n
listed-with a held cs v listing n (inl h) =
    let is = (v.named n h.0 h.1).0 in
    let at = (listing h.0.changeset).1 (h.0, ap a is ∙ h.1, refl) in
    subst (λ m. Contains (nodes (held ++ cs)) m) is
    (node-listed (held ++ cs) h.0.changeset (Contains-append_left held cs h.0.changeset at))
listed-with a held cs v listing n (inr h) =
    subst (λ m. Contains (nodes (held ++ cs)) m) h.2
    (node-listed (held ++ cs) h.0 (Contains-append_right held cs h.0 h.1))

-- an admitted part has no fault
pub admitted_faultless : (a : Content) (k : PartValue) (fault : Fault) → IsValidContent a → ContentAdmits a k
    → IsContentFault a k fault → ⊥
admitted_faultless a k fault v m (held, listing, is) = by fault is
  where
    unheld-none : (n : Node) → IsFirstUnheld (held ++ k.changesets) k.bounds n → ⊥
    unheld-none n first =
        first.unheld (subst (λ m. Contains (nodes (held ++ k.changesets)) m) first.node
        (listed-with a held k.changesets v listing first.bound.0
        (m.bounds first.bound (
          first.place,
          slice_get_within k.bounds first.place first.bound first.at,
          get_or_from_slice_get k.bounds first.place first.bound first.bound first.at,
        ))))

    by : (fault : Fault) → IsFirstFault held k fault → ⊥
    by (UnknownParent p) (i, c, at, fine, missing) =
        missing.1 (listed-with a held (take i k.changesets) v listing p (m.parents i c at p missing.0))
    by (Collision n) (i, c, at, fine, parents, collides, is_node) =
        let other : IsHeldAs a (node_of collides.0) collides.0 ⊎ Contains k.changesets collides.0 =
        elim (Contains-append_cases held (take i k.changesets) collides.0 collides.1) [
          | inl x ↦ inl ((listing collides.0).0 x)
          | inr x ↦ let place = placed k.changesets i collides.0 x in
              inr (at_place k.changesets place.0 collides.0 place.2)
        ] in
        collides.3 (sym (m.apart c collides.0 (at_place k.changesets i c at) other (sym collides.2)))
    by (UnknownBound n) (fine, first, known) = unheld-none n first
    by NullBound (fine, first) = unheld-none null_node first
    by NoMemory h = h

-- want of memory is no fault of a part
pub memory_faultless : (a : Content) (k : PartValue) (fault : Fault) → fault ≡ NoMemory → IsContentFault a k fault → ⊥
memory_faultless a k fault e h = subst (IsFirstFault h.0 k) e h.2
