-- The laws of what is a peer's own.
use Rattle.std.specs.Prelude.{◌≡◌, ◌≢◌, ◌↔◌, ◌⊎◌, Bool, true, false, Option, Some, None, List, [], ◌∷◌, Contains, refl}
use Rattle.std.specs.Cmp.{both_ways}
use Rattle.std.proofs.Common.{inl, inr, sym, ap, subst, ◌∙◌}
use Rattle.std.proofs.lemmas.Map.Views.{Contains-from_any, list_any-from_Contains}
use Rattle.hg_join.specs.Order.{IsDue}
use Rattle.hg_changeset.specs.declared.node.Node.{Node}
use Rattle.hg_changeset.proofs.NodeLemmas.{same_node, node_eq_laws, node_cases}
use Rattle.hg_changeset.proofs.ListLemmas.{Contains-none, Contains-first, Contains-later, Contains-cons_cases}
use Rattle.hg_phases.specs.State.{Held}
use Rattle.hg_replica.specs.Least.{PartValue}
use Rattle.hg_replica.specs.Change.{ChangeValue}
use Rattle.hg_replica.specs.Content.{content_of}
use Rattle.hg_view.specs.Kept.{KeptValue}
use Rattle.hg_view.specs.Pins.{AreSamePins}
use Rattle.hg_view.specs.declared.refusal.PinRefusal.TheVariants.{Unknown, NotPinned}
use Rattle.hg_peer.specs.declared.mark.Mark.{Mark}
use Rattle.hg_peer.specs.declared.mark.Mark.TheVariants.{Pin, Unpin}
use Rattle.hg_peer.specs.declared.refusal.PeerRefusal.{PeerRefusal}
use Rattle.hg_peer.specs.declared.refusal.PeerRefusal.TheVariants.{View}
use Rattle.hg_peer.specs.Marks.{is_pin, own, Tells, Marks, IsAgainstMark}
use Rattle.hg_peer.specs.Peers.{IsMemory}

-- ---- pins as the answers to "is it one?"

pin_from : (pins : List Node) (n : Node) → Contains pins n → is_pin pins n ≡ true
pin_from pins n at = list_any-from_Contains node_eq_laws n pins at

in_from_pin : (pins : List Node) (n : Node) → is_pin pins n ≡ true → Contains pins n
in_from_pin pins n h = Contains-from_any same_node n pins h

pub same_pins : (s t : KeptValue) → own s ≡ own t → AreSamePins s.pins t.pins
same_pins s t e n =
    let at : own s n ≡ own t n = ap (λ (f : Node → Bool). f n) e in (
      λ h. in_from_pin t.pins n (sym at ∙ pin_from s.pins n h),
      λ h. in_from_pin s.pins n (at ∙ pin_from t.pins n h),
    )

own_from_pins : (s t : KeptValue) → AreSamePins s.pins t.pins → own s ≡ own t
own_from_pins s t same i n =
    both_ways (is_pin s.pins n) (is_pin t.pins n) (λ h. pin_from t.pins n ((same n).0 (in_from_pin s.pins n h)))
    (λ h. pin_from s.pins n ((same n).1 (in_from_pin t.pins n h))) i

-- ---- marks leave the content, and change the pins in one way

pub marked_says_the_same : (s t : KeptValue) (mark : Mark) → Marks s mark t →
    content_of t.replica ≡ content_of s.replica
marked_says_the_same s t (Pin n) h = ap content_of h.0
marked_says_the_same s t (Unpin n) h = ap content_of h.0

pub marked_once : (s t next follow : KeptValue) (mark : Mark) → content_of s.replica ≡ content_of t.replica →
    own s ≡ own t → Marks s mark next → Marks t mark follow → own next ≡ own follow
marked_once s t next follow (Pin n) e same h k =
    let pins : AreSamePins s.pins t.pins = same_pins s t same in
    own_from_pins next follow (λ m. (
      λ at. elim ((h.1.1 m).0 at) [
        | inl was ↦ (k.1.1 m).1 (inl ((pins m).0 was))
        | inr is ↦ (k.1.1 m).1 (inr is)
      ],
      λ at. elim ((k.1.1 m).0 at) [
        | inl was ↦ (h.1.1 m).1 (inl ((pins m).1 was))
        | inr is ↦ (h.1.1 m).1 (inr is)
      ],
    ))
marked_once s t next follow (Unpin n) e same h k =
    let pins : AreSamePins s.pins t.pins = same_pins s t same in
    own_from_pins next follow (λ m. (
      λ at. let was = (h.1.1 m).0 at in (k.1.1 m).1 ((pins m).0 was.0, was.1),
      λ at. let was = (k.1.1 m).0 at in (h.1.1 m).1 ((pins m).1 was.0, was.1),
    ))

pub told_leaves_own : (s t : KeptValue) (part : PartValue) (change : ChangeValue) → Tells s part change t →
    own t ≡ own s
told_leaves_own s t part change h = ap is_pin h.1

-- ---- a mark and a refusal exclude each other, and one of them is due

pub marked_not_refused : (s t : KeptValue) (mark : Mark) (refusal : PeerRefusal) → Marks s mark t →
    IsAgainstMark s mark refusal → ⊥
marked_not_refused s t (Pin n) refusal h k = k.1 h.1.0
marked_not_refused s t (Unpin n) refusal h k = k.1 h.1.0

pub memory_not_against_mark : (s : KeptValue) (mark : Mark) (refusal : PeerRefusal) → IsMemory refusal →
    IsAgainstMark s mark refusal → ⊥
memory_not_against_mark s (Pin n) refusal h k = let same = sym h ∙ k.0 in cc
memory_not_against_mark s (Unpin n) refusal h k = let same = sym h ∙ k.0 in cc

-- the pins with one more, which changes nothing where it is among them
with_pin : (pins : List Node) (n : Node) → (after : List Node)
    × ((m : Node) → Contains after m ↔ (Contains pins m ⊎ (n ≡ m))) × (Contains pins n → after ≡ pins)
with_pin pins n = by (is_pin pins n) refl
  where
    by : (b : Bool) → is_pin pins n ≡ b → (after : List Node)
        × ((m : Node) → Contains after m ↔ (Contains pins m ⊎ (n ≡ m))) × (Contains pins n → after ≡ pins)
    by true e = (
      pins,
      λ m. (λ at. inl at, λ h. elim h [ inl at ↦ at | inr is ↦ subst (Contains pins) is (in_from_pin pins n e) ]),
      λ at. refl,
    )
    by false e = (
      n ∷ pins,
      λ m. (
        λ at. elim (Contains-cons_cases n pins m at) [ inl is ↦ inr is | inr was ↦ inl was ],
        λ h. elim h [
          | inl was ↦ Contains-later n pins m was
          | inr is ↦ subst (Contains (n ∷ pins)) is (Contains-first n pins)
        ],
      ),
      λ at. let there = pin_from pins n at in absurd cc,
    )

-- the pins without one
without_pin : (pins : List Node) (n : Node) → (after : List Node)
    × ((m : Node) → Contains after m ↔ (Contains pins m × (m ≢ n)))
without_pin [] n = ([], λ m. (λ at. absurd (Contains-none m at), λ h. absurd (Contains-none m h.0)))
without_pin (p ∷ pins) n =
    let rest = without_pin pins n in
    elim (node_cases p n) [
      | inl same ↦ (
        rest.0,
        λ m. (
          λ at. let was = (rest.1 m).0 at in (Contains-later p pins m was.0, was.1),
          λ h. elim (Contains-cons_cases p pins m h.0) [
            | inl is ↦ absurd (h.1 (sym is ∙ same))
            | inr was ↦ (rest.1 m).1 (was, h.1)
          ],
        ),
      )
      | inr apart ↦ (
        p ∷ rest.0,
        λ m. (
          λ at. elim (Contains-cons_cases p rest.0 m at) [
            | inl is ↦ (subst (Contains (p ∷ pins)) is (Contains-first p pins), λ e. apart (is ∙ e))
            | inr later ↦ let was = (rest.1 m).0 later in (Contains-later p pins m was.0, was.1)
          ],
          λ h. elim (Contains-cons_cases p pins m h.0) [
            | inl is ↦ subst (Contains (p ∷ rest.0)) is (Contains-first p rest.0)
            | inr was ↦ Contains-later p rest.0 m ((rest.1 m).1 (was, h.1))
          ],
        ),
      )
    ]

pub mark_due : (s : KeptValue) (mark : Mark) → IsDue (Marks s mark) (IsAgainstMark s mark)
mark_due s (Pin n) f g = by ((content_of s.replica).0 n) refl
  where
    by : (o : Option Held) → (content_of s.replica).0 n ≡ o → ⊥
    by None e = g (View (Unknown n)) (refl, λ held. let gone = sym e ∙ held.1 in cc)
    by (Some h) e =
        let more = with_pin s.pins n in
        f (record { replica = s.replica; pins = more.0 }) (refl, ((h, e), more.1, more.2))
mark_due s (Unpin n) f g = by (is_pin s.pins n) refl
  where
    by : (b : Bool) → is_pin s.pins n ≡ b → ⊥
    by true e =
        let less = without_pin s.pins n in
        f (record { replica = s.replica; pins = less.0 }) (refl, (in_from_pin s.pins n e, less.1))
    by false e = g (View (NotPinned n)) (refl, λ at. let there = pin_from s.pins n at in cc)
