-- Sets of families that have nothing in common: no union is within another, so the numbers of sets are multiplied and
-- added.
use Rattle.std.proofs.Common.{◌≡◌, ◌≢◌, zero, suc, ◌+◌, ◌*◌, max, List, [], ◌∷◌, ◌++◌, length, map, Contains}
use Rattle.std.proofs.Common.{◌⊎◌, inl, inr, refl, sym, ap, subst, ◌∙◌, arith, get_or}
use Rattle.std.specs.List.{AllPairs}
use Rattle.std.specs.List.Sorted.{IsStrictlySortedBy}
use Rattle.std.specs.Cmp.Lexicographic.{slice_cmp, lists_total}
use Rattle.std.proofs.Math.Nat.{suc-mul, zero-mul, mul-one, mul_assoc}
use Rattle.std.proofs.lemmas.List.{length-append, length-map}
use Rattle.std.proofs.lemmas.List.Elements.{Contains-append_left, Contains-append_right, Contains-append_cases}
use Rattle.std.proofs.lemmas.List.Elements.{Contains-get_or}
use Rattle.hg_changeset.specs.declared.node.Node.{Node}
use Rattle.hg_changeset.specs.Node.{node_cmp}
use Rattle.hg_changeset.proofs.NodeLemmas.{node_cmp_total}
use Rattle.hg_changeset.proofs.ListLemmas.{Contains-cons_cases, Contains-later, Contains-first, Contains-none}
use Rattle.hg_changeset.proofs.ListLemmas.{Contains-map_from}
use Rattle.hg_succ.specs.Successors.{AreWithin, ways}
use Rattle.hg_succ.specs.Unions.{AreLargest, IsChoice, products, with_sets, choices_on}
use Rattle.hg_succ.proofs.SortedLemmas.{one_more, same_members}
use Rattle.hg_succ.proofs.SetLemmas.{flat_contains, sets_exact, ascending_of}

-- ---- each with each later one

-- the relation holds of each and each later one
abbrev pub ArePairs : {X : Type 0} → (X → X → Type 0) → List X → Type 0
ArePairs R [] = Unit {0}
ArePairs R (x ∷ xs) = ((y : _) → Contains xs y → R x y) × ArePairs R xs

module _ {X : Type 0} (R : X → X → Type 0) where
  pub pairs_append : (xs ys : List X) → ArePairs R xs → ArePairs R ys
      → ((x y : X) → Contains xs x → Contains ys y → R x y) → ArePairs R (xs ++ ys)
  pairs_append [] ys p q cross = q
  pairs_append (x ∷ xs) ys p q cross = (
    λ y h. elim (Contains-append_cases xs ys y h)
        [ inl before ↦ p.0 y before | inr after ↦ cross x y (Contains-first x xs) after ],
    pairs_append xs ys p.1 q (λ z y h g. cross z y (Contains-later x xs z h) g),
  )

  pub pairs_front : (xs ys : List X) → ArePairs R (xs ++ ys) → ArePairs R xs
  pairs_front [] ys p = tt
  pairs_front (x ∷ xs) ys p = ((λ y h. p.0 y (Contains-append_left xs ys y h)), pairs_front xs ys p.1)

  pub pairs_back : (xs ys : List X) → ArePairs R (xs ++ ys) → ArePairs R ys
  pairs_back [] ys p = p
  pairs_back (x ∷ xs) ys p = pairs_back xs ys p.1

  pub pairs_across : (xs ys : List X) → ArePairs R (xs ++ ys) → (x y : X) → Contains xs x → Contains ys y → R x y
  pairs_across [] ys p x y h g = absurd (Contains-none x h)
  pairs_across (z ∷ xs) ys p x y h g = elim (Contains-cons_cases z xs x h) [
    | inl same ↦ subst (λ w. R w y) same (p.0 y (Contains-append_right xs ys y g))
    | inr later ↦ pairs_across xs ys p.1 x y later g
  ]

  pub either_way : (xs : List X) → ArePairs R xs → (x y : X) → Contains xs x → Contains xs y
      → (x ≡ y) ⊎ (R x y ⊎ R y x)
  either_way [] p x y h g = absurd (Contains-none x h)
  either_way (z ∷ xs) p x y h g = elim (Contains-cons_cases z xs x h) [
    | inl same ↦ elim (Contains-cons_cases z xs y g) [
      | inl same' ↦ inl (sym same ∙ same')
      | inr later ↦ inr (inl (subst (λ w. R w y) same (p.0 y later)))
    ]
    | inr later ↦ elim (Contains-cons_cases z xs y g) [
      | inl same ↦ inr (inr (subst (λ w. R w x) same (p.0 x later)))
      | inr later' ↦ either_way xs p.1 x y later later'
    ]
  ]

  pub pairs_from_all : (xs : List X) → AllPairs R xs → ArePairs R xs
  pairs_from_all [] all = tt
  pairs_from_all (x ∷ xs) all = (
    λ y h. subst (R x) h.2 (all 0 (suc h.0) y (omega arith) (omega (arith, h.1))),
    pairs_from_all xs (λ i j d l m. all (suc i) (suc j) d (omega (arith, l)) (omega (arith, m))),
  )

  pub all_from_pairs : (xs : List X) → ArePairs R xs → AllPairs R xs
  all_from_pairs [] p i j d l m = absurd (omega (arith, m))
  all_from_pairs (x ∷ xs) p zero zero d l m = absurd (omega (arith, l))
  all_from_pairs (x ∷ xs) p zero (suc j) d l m = p.0 (get_or xs j d) (Contains-get_or xs j d (omega (arith, m)))
  all_from_pairs (x ∷ xs) p (suc i) zero d l m = absurd (omega (arith, l))
  all_from_pairs (x ∷ xs) p (suc i) (suc j) d l m = all_from_pairs xs p.1 i j d (omega (arith, l)) (omega (arith, m))

-- from each with each later one to another relation, over a map
pub pairs_map : {X Y : Type 0} (R : X → X → Type 0) (S : Y → Y → Type 0) (f : X → Y) (xs : List X) → ArePairs R xs
    → ((x y : X) → Contains xs x → Contains xs y → R x y → S (f x) (f y)) → ArePairs S (map f xs)
pairs_map R S f [] p step = tt
pairs_map R S f (x ∷ xs) p step = (
  λ y h. let c = Contains-map_from f xs y h in
      subst (S (f x)) c.2
      (step x c.0 (Contains-first x xs) (Contains-later x xs c.0 c.1) (p.0 c.0 c.1)),
  pairs_map R S f xs p.1 (λ y z h g. step y z (Contains-later x xs y h) (Contains-later x xs z g)),
)

-- ---- sets that aren't within each other

-- neither is within the other
abbrev pub AreIncomparable : List Node → List Node → Type 0
AreIncomparable a b = (¬ (AreWithin a b)) × (¬ (AreWithin b a))

-- nothing is in both
abbrev pub AreDisjoint : List Node → List Node → Type 0
AreDisjoint a b = (x : Node) → Contains a x → Contains b x → ⊥

-- no set of the one has something in common with a set of the other
abbrev pub HaveNothingInCommon : List (List Node) → List (List Node) → Type 0
HaveNothingInCommon fs gs = (a b : List Node) → Contains fs a → Contains gs b → AreDisjoint a b

left_apart : (u v a b : List Node) → ¬ (AreWithin u v) → AreDisjoint u b → ¬ (AreWithin (u ++ a) (v ++ b))
left_apart u v a b not' out w = not' (λ x h. elim (Contains-append_cases v b x (w x (Contains-append_left u a x h)))
    [ inl i ↦ i | inr j ↦ absurd (out x h j) ])

right_apart : (u v a b : List Node) → ¬ (AreWithin a b) → AreDisjoint v a → ¬ (AreWithin (u ++ a) (v ++ b))
right_apart u v a b not' out w = not' (λ x h. elim (Contains-append_cases v b x (w x (Contains-append_right u a x h)))
    [ inl i ↦ absurd (out x i h) | inr j ↦ j ])

in_product : (us f : List (List Node)) (z : List Node) → Contains (products us f) z
    → (v : List Node) × (b : List Node) × Contains us v × Contains f b × (v ++ b ≡ z)
in_product us f z h =
    let w = flat_contains (λ (v : List Node). map (λ (b : List Node). v ++ b) f) us z h in
    let c = Contains-map_from (λ (b : List Node). w.0 ++ b) f z w.2 in
    (w.0, c.0, w.1, c.1, c.2)

products_apart : (us f : List (List Node)) → ArePairs AreIncomparable us → ArePairs AreIncomparable f
    → HaveNothingInCommon us f → ArePairs AreIncomparable (products us f)
products_apart [] f p q out = tt
products_apart (u ∷ us) f p q out = pairs_append AreIncomparable (map (λ (b : List Node). u ++ b) f) (products us f)
    (pairs_map AreIncomparable AreIncomparable (λ (b : List Node). u ++ b) f q (λ a b h g apart. (
      right_apart u u a b apart.0 (out u a (Contains-first u us) h),
      right_apart u u b a apart.1 (out u b (Contains-first u us) g),
    )))
    (products_apart us f p.1 q (λ a b h g. out a b (Contains-later u us a h) g))
    (λ y z h g.
    let c = Contains-map_from (λ (b : List Node). u ++ b) f y h in
    let d = in_product us f z g in
    let apart = p.0 d.0 d.2 in
    subst (λ (w : List Node). AreIncomparable w z) c.2 (subst (AreIncomparable (u ++ c.0)) d.4 (
      left_apart u d.0 c.0 d.1 apart.0 (out u d.1 (Contains-first u us) d.3),
      left_apart d.0 u d.1 c.0 apart.1 (out d.0 c.0 (Contains-later u us d.0 d.2) c.1),
    )))

with_apart : (f us : List (List Node)) → ArePairs AreIncomparable us → ArePairs AreIncomparable f
    → HaveNothingInCommon us f → ArePairs AreIncomparable (with_sets f us)
with_apart [] us p q out = p
with_apart (set ∷ f) us p q out = products_apart us (set ∷ f) p q out

with_disjoint : (f us g : List (List Node)) → HaveNothingInCommon us g → HaveNothingInCommon f g
    → HaveNothingInCommon (with_sets f us) g
with_disjoint [] us g p q = p
with_disjoint (set ∷ f) us g p q = λ a b h k x i j.
    let d = in_product us (set ∷ f) a h in
    elim (Contains-append_cases d.0 d.1 x (subst (λ (zs : List Node). Contains zs x) (sym d.4) i))
    [ inl before ↦ p d.0 b d.2 k x before j | inr after ↦ q d.1 b d.3 k x after j ]

-- the choices of one set of each family aren't within each other
pub choices_apart : (fs : List (List (List Node))) (us : List (List Node)) → ArePairs AreIncomparable us
    → ((f : List (List Node)) → Contains fs f → ArePairs AreIncomparable f)
    → ((f : List (List Node)) → Contains fs f → HaveNothingInCommon us f) → ArePairs HaveNothingInCommon fs
    → ArePairs AreIncomparable (choices_on fs us)
choices_apart [] us p families out pairs = p
choices_apart (f ∷ fs) us p families out pairs = choices_apart fs (with_sets f us)
    (with_apart f us p (families f (Contains-first f fs)) (out f (Contains-first f fs)))
    (λ g h. families g (Contains-later f fs g h))
    (λ g h. with_disjoint f us g (out g (Contains-later f fs g h)) (pairs.0 g h)) pairs.1

-- ---- how many there are

length_products : (us f : List (List Node)) → length (products us f) ≡ length us * length f
length_products [] f = sym (zero-mul (length f))
length_products (u ∷ us) f =
    length-append (map (λ (b : List Node). u ++ b) f) (products us f)
    ∙ (λ i. length-map f (λ (b : List Node). u ++ b) i + length_products us f i)
    ∙ (let e : length f + length us * length f ≡ length us * length f + length f = omega arith in e)
    ∙ sym (suc-mul (length us) (length f))

length_with : (f us : List (List Node)) → length (with_sets f us) ≡ length us * max (length f) 1
length_with [] us = sym (mul-one (length us))
length_with (set ∷ f) us = length_products us (set ∷ f)
    ∙ ap (λ k. length us * k) (let e : suc (length f) ≡ max (suc (length f)) 1 = omega arith in e)

pub length_choices : (fs : List (List (List Node))) (us : List (List Node))
    → length (choices_on fs us) ≡ length us * ways (map length fs)
length_choices [] us = sym (mul-one (length us))
length_choices (f ∷ fs) us = length_choices fs (with_sets f us)
    ∙ ap (λ k. k * ways (map length fs)) (length_with f us)
    ∙ mul_assoc (length us) (max (length f) 1) (ways (map length fs))

-- ---- where a choice is empty

append_empty : (a b : List Node) → a ++ b ≡ [] → a ≡ []
append_empty [] b e = refl
append_empty (x ∷ a) b e = absurd (let l = ap length e in omega (arith, l))

pub empty_choice : (fs : List (List (List Node))) → ((f : List (List Node)) (a : List Node) → Contains fs f
    → Contains f a → a ≢ []) → (u : List Node) → u ≡ [] → IsChoice fs u → (f : List (List Node)) → Contains fs f
    → f ≡ []
empty_choice [] some u e choice f h = absurd (Contains-none f h)
empty_choice (g ∷ fs) some u e (inl skip) f h = elim (Contains-cons_cases g fs f h) [
  | inl same ↦ sym same ∙ skip.0
  | inr later ↦ empty_choice fs (λ k a i j. some k a (Contains-later g fs k i) j) u e skip.1 f later
]
empty_choice (g ∷ fs) some u e (inr take') f h =
    absurd (some g take'.0 (Contains-first g fs) take'.2 (append_empty take'.0 take'.1 (sym take'.4 ∙ e)))

pub no_choices : (fs : List (List (List Node))) → ((f : List (List Node)) → Contains fs f → f ≡ [])
    → (us : List (List Node)) → choices_on fs us ≡ us
no_choices [] empty us = refl
no_choices (f ∷ fs) empty us = ap (λ g. choices_on fs (with_sets g us)) (empty f (Contains-first f fs))
    ∙ no_choices fs (λ g h. empty g (Contains-later f fs g h)) us

-- ---- the family

-- as many ascending sets as lists
record AreSortedSets (lists family : List (List Node)) : Type 0 where
  ascending : IsStrictlySortedBy (slice_cmp node_cmp) family
  from : (set : List Node) → Contains family set → (xs : List Node) × Contains lists xs
      × IsStrictlySortedBy node_cmp set × AreWithin set xs × AreWithin xs set
  each : (xs : List Node) → Contains lists xs → (set : List Node) × Contains family set × AreWithin xs set
  long : length family ≡ length lists

sorted_family : (lists : List (List Node)) → ArePairs AreIncomparable lists
    → (family : List (List Node)) × AreSortedSets lists family
unfolding IsStrictlySortedBy
sorted_family [] p = (
  [],
  record {
    ascending = tt;
    from = λ set h. absurd (Contains-none set h);
    each = λ xs h. absurd (Contains-none xs h);
    long = refl;
  },
)
sorted_family (xs ∷ lists) p =
    let rest = sorted_family lists p.1 in
    let set = ascending_of xs in
    let out : ¬ (Contains rest.0 set.0) = λ h.
    let w = rest.1.from set.0 h in
    (p.0 w.0 w.1).0 (λ x i. w.3 x (set.3 x i)) in
    let more = one_more (lists_total node_cmp_total) sets_exact set.0 rest.0 rest.1.ascending out in (
      more.0,
      record {
        ascending = more.1.ascending;
        from = λ c h. elim ((more.1.members c).0 h) [
          | inl same ↦ subst (λ (d : List Node). (ys : List Node) × Contains (xs ∷ lists) ys
              × IsStrictlySortedBy node_cmp d × AreWithin d ys × AreWithin ys d) same
              (xs, Contains-first xs lists, set.1, set.2, set.3)
          | inr old ↦ (let w = rest.1.from c old in (w.0, Contains-later xs lists w.0 w.1, w.2, w.3, w.4))
        ];
        each = λ ys h. elim (Contains-cons_cases xs lists ys h) [
          | inl same ↦ (
            set.0,
            (more.1.members set.0).1 (inl refl),
            subst (λ (zs : List Node). AreWithin zs set.0) same set.3,
          )
          | inr later ↦ (let w = rest.1.each ys later in (w.0, (more.1.members w.0).1 (inr w.1), w.2))
        ];
        long = (let l = more.1.longer in let k = rest.1.long in omega (arith, l, k));
      },
    )

within_nothing : (xs : List Node) → AreWithin xs [] → xs ≡ []
within_nothing [] w = refl
within_nothing (x ∷ xs) w = absurd (Contains-none x (w x (Contains-first x xs)))

-- Where those of the found lists that aren't empty aren't within each other, as many are the largest.
pub largest_apart : (found lists : List (List Node)) → ArePairs AreIncomparable lists
    → ((xs : List Node) → Contains lists xs → Contains found xs × (xs ≢ []))
    → ((xs : List Node) → Contains found xs → (xs ≡ []) ⊎ Contains lists xs)
    → (family : List (List Node)) × AreLargest found family × (length family ≡ length lists)
largest_apart found lists p among either =
    let r = sorted_family lists p in (
      r.0,
      record {
        ascending = r.1.ascending;
        each_ascending = λ set h. (r.1.from set h).2;
        some = λ set h e. let w = r.1.from set h in
            (among w.0 w.1).1 (within_nothing w.0 (subst (AreWithin w.0) e w.4));
        kept = λ set h. let w = r.1.from set h in (w.0, (among w.0 w.1).0, w.3, w.4);
        apart = λ a b h g w.
            let x = r.1.from a h in
            let y = r.1.from b g in
            let up : AreWithin x.0 y.0 = λ z i. y.3 z (w z (x.4 z i)) in
            elim (either_way AreIncomparable lists p x.0 y.0 x.1 y.1) [
              | inl same ↦ same_members node_cmp_total a b x.2 y.2 w
                  (λ z i. x.4 z (subst (λ (zs : List Node). Contains zs z) (sym same) (y.3 z i)))
              | inr other ↦ elim other [ inl one ↦ absurd (one.0 up) | inr two ↦ absurd (two.1 up) ]
            ];
        covers = λ xs h. elim (either xs h) [
          | inl empty ↦ inl empty
          | inr in' ↦ (let w = r.1.each xs in' in inr (w.0, w.1, w.2))
        ];
      },
      r.1.long,
    )
