-- Sets by rows of numbers, and rows by words that have a bit for each of them.
use Rattle.std.proofs.Common.{◌≡◌, ◌≢◌, ℕ, zero, suc, ◌+◌, ◌-◌, ◌*◌, ◌/◌, ◌%◌, ◌^◌, ◌<◌, ◌≤◌, Bool, true, false}
use Rattle.std.proofs.Common.{List, [], ◌∷◌, ◌++◌, length, set, replicate, get_or, Contains, ◌⊎◌, ◌↔◌, inl, inr, refl}
use Rattle.std.proofs.Common.{sym, ap, subst, ◌∙◌, arith, Vec, Global, w64, nat_lt, bit_and, bit_or, true≢false}
use Rattle.std.proofs.Common.{get_or-set_same, get_or-set_other, length-set, subst₂}
use Rattle.std.specs.Int.{bit_at}
use Rattle.std.specs.List.{list_any}
use Rattle.std.specs.List.Sorted.{IsStrictlySortedBy}
use Rattle.std.specs.Cmp.Lexicographic.{slice_cmp, lists_total}
use Rattle.std.specs.declared.cmp.Ordering.TheVariants.{Less}
use Rattle.std.proofs.lemmas.Bool.{cases_Bool, cases_eq, cases_lt, and_parts, and_from, lt-ltb, ltb-true}
use Rattle.std.proofs.lemmas.Nat.Bits.{bit_at_and, bit_at-lt, bit_at-pow_other, bit_at-pow_same, bit_at-zero}
use Rattle.std.proofs.lemmas.Nat.Bits.{bit_at_ones, bit_at_ones_above, bit_at_set_other, bit_at_set_same}
use Rattle.std.proofs.lemmas.Nat.Bits.{same_from_bits}
use Rattle.std.proofs.lemmas.List.{length-append, length-map, map-append}
use Rattle.std.proofs.lemmas.Option.{slice_get-get_or, slice_get_within, get_or_from_slice_get}
use Rattle.hg_changeset.specs.declared.node.Node.{Node}
use Rattle.hg_changeset.specs.Node.{node_cmp}
use Rattle.hg_changeset.proofs.ListLemmas.{Contains-first, Contains-none, slice_get-push_cases}
use Rattle.hg_changeset.proofs.NodeLemmas.{node_cmp_total}
use Rattle.hg_graph.proofs.GraphLemmas.{Contains-from_place, place_from_Contains}
use Rattle.hg_succ.specs.Answer.{sets_of}
use Rattle.hg_succ.specs.Rows.{At, rows_of}
use Rattle.hg_succ.specs.Successors.{AreWithin}
use Rattle.hg_succ.specs.Numbered.{Adds, AreOnce}
use Rattle.hg_succ.specs.Unions.{is_within, is_within_larger, AreAscending}
use Rattle.hg_succ.specs.Holders.{IsNumbering, AreNumberings, row_in, IsBlock, AreBlocks, Notes, IsCommon, IsOwnBit}
use Rattle.hg_succ.specs.Holders.{AreBelow, IsWithinNone}
use Rattle.hg_succ.proofs.ListLemmas.{get_one, row_at}
use Rattle.hg_succ.proofs.NumberLemmas.{grown}
use Rattle.hg_succ.proofs.SortedLemmas.{less_by_place, not_below_itself}
use Rattle.hg_succ.proofs.SetLemmas.{any_has, has_any, same_or_smaller, test_by_within, within_by_test}

nothing_at : (rows : List (List ℕ)) (p : ℕ) → length rows ≤ p → row_in rows p ≡ []
nothing_at [] p l = refl
nothing_at (r ∷ rows) zero l = absurd (omega (arith, l))
nothing_at (r ∷ rows) (suc p) l = nothing_at rows p (omega (arith, l))

-- the row that stands at a place
pub row_here : (rows : List (Vec ℕ Global)) (p : ℕ) (v : Vec ℕ Global) → p < length rows → v ≡ get_or rows p v
    → row_in (rows_of rows) p ≡ v.items
row_here rows p v l e = get_or_from_slice_get (rows_of rows) p v.items [] (row_at rows p v l e)

pub row_of_some : (rows : List (Vec ℕ Global)) (p : ℕ) (v : Vec ℕ Global) → p < length rows → v ≡ get_or rows p v
    → Contains (rows_of rows) v.items
row_of_some rows p v l e = Contains-from_place (rows_of rows) p v.items (row_at rows p v l e)

-- the set that stands at a place
pub set_here : (sets : List (Vec Node Global)) (p : ℕ) (v : Vec Node Global) (set : List Node) → p < length sets
    → v ≡ get_or sets p v → At (sets_of sets) p set → v.items ≡ set
set_here sets p v set l e at = get_one (sets_of sets) p v.items set (row_at sets p v l e) at

-- ---- numbers of members

pub numbering_from_adds : (old new set : List Node) (row : List ℕ) → Adds (Contains set) old new [] row
    → IsNumbering new set row
numbering_from_adds old new set row so = record {
  listed = λ m h. elim (so.listed m h) [ inl none ↦ absurd (Contains-none m none) | inr w ↦ w ];
  each = so.each;
}

-- a numbering stays right as members are put last
numbering_grows : (old new set : List Node) (row : List ℕ) → (more : List Node) × (new ≡ old ++ more)
    → IsNumbering old set row → IsNumbering new set row
numbering_grows old new set row g is = record {
  listed = λ m h. (let w = is.listed m h in (w.0, w.1, grown old new g m w.0 w.2));
  each = λ y h. (let w = is.each y h in (w.0, w.1, grown old new g w.0 y w.2));
}

pub numberings_more : (old new : List Node) (sets : List (List Node)) (rows : List (List ℕ)) (set : List Node)
    (row : List ℕ) → (more : List Node) × (new ≡ old ++ more) → AreNumberings sets old rows → IsNumbering new set row
    → AreNumberings (sets ++ set ∷ []) new (rows ++ row ∷ [])
numberings_more old new sets rows set row g are is = record {
  all = omega (arith, are.all, length-append sets (set ∷ []), length-append rows (row ∷ []));
  exact = λ p s r at_s at_r. elim (slice_get-push_cases sets set p s at_s) [
    | inl in_s ↦ elim (slice_get-push_cases rows row p r at_r) [
      | inl in_r ↦ numbering_grows old new s r g (are.exact p s r in_s in_r)
      | inr end_r ↦ absurd (omega (arith, slice_get_within sets p s in_s, end_r.0, are.all))
    ]
    | inr end_s ↦ elim (slice_get-push_cases rows row p r at_r) [
      | inl in_r ↦ absurd (omega (arith, slice_get_within rows p r in_r, end_s.0, are.all))
      | inr end_r ↦ subst (λ (zs : List Node). IsNumbering new zs r) end_s.1
          (subst (IsNumbering new set) end_r.1 is)
    ]
  ];
}

-- numbers are those of members
pub numbers_below : (sets : List (List Node)) (members : List Node) (rows : List (List ℕ))
    → AreNumberings sets members rows → AreBelow rows (length members)
numbers_below sets members rows are row m h in' =
    let r = place_from_Contains rows row h in
    let l : r.0 < length sets = omega (arith, slice_get_within rows r.0 row r.1, are.all) in
    let at : At sets r.0 (get_or sets r.0 []) = slice_get-get_or sets r.0 [] l in
    let w = (are.exact r.0 (get_or sets r.0 []) row at r.1).listed m in' in
    slice_get_within members m w.0 w.2

-- one row more
pub rows_push : (rows : List (Vec ℕ Global)) (row : Vec ℕ Global) (longer : List (Vec ℕ Global))
    → longer ≡ rows ++ row ∷ [] → (p : ℕ) (r : List ℕ) → At (rows_of longer) p r
    → At (rows_of rows) p r ⊎ ((p ≡ length rows) × (row.items ≡ r))
rows_push rows row longer e p r at =
    let split : rows_of longer ≡ rows_of rows ++ row.items ∷ [] = ap rows_of e
    ∙ map-append (λ (v : Vec ℕ Global). v.items) rows (row ∷ []) in
    elim (slice_get-push_cases (rows_of rows) row.items p r (subst (λ (rs : List (List ℕ)). At rs p r) split at)) [
      | inl before ↦ inl before
      | inr last ↦ inr (omega (arith, last.0, length-map rows (λ (v : Vec ℕ Global). v.items)), last.1)
    ]

-- ---- words

pub note_one : (bit : ℕ) (row more old words : List ℕ) (m : ℕ) → bit < 64 → m < length words
    → ((k : ℕ) → Contains more k ↔ (Contains row k ⊎ (m ≡ k))) → Notes bit row old words
    → Notes bit more old (set words m (bit_or (get_or words m 0) (1 * 2 ^ bit % 2 ^ 64)))
note_one bit row more old words m fits within one so = record {
  long = length-set words m w ∙ so.long;
  each = λ k j l. elim (cases_eq k m) [
    | inl same ↦ at k j l same
    | inr other ↦ (
      (λ h. keep k j ((so.each k j l).0 (ap (λ v. bit_at v j) (sym (apart k other)) ∙ h))),
      (λ h. ap (λ v. bit_at v j) (apart k other) ∙ (so.each k j l).1 (drop' k j other h)),
    )
  ];
}
  where
    w : ℕ
    w = bit_or (get_or words m 0) (1 * 2 ^ bit % 2 ^ 64)

    apart : (k : ℕ) → k ≢ m → get_or (set words m w) k 0 ≡ get_or words k 0
    apart k other = get_or-set_other words m k w 0 other

    keep : (k j : ℕ) → (bit_at (get_or old k 0) j ≡ 1) ⊎ ((j ≡ bit) × Contains row k)
        → (bit_at (get_or old k 0) j ≡ 1) ⊎ ((j ≡ bit) × Contains more k)
    keep k j (inl before) = inl before
    keep k j (inr new) = inr (new.0, (one k).1 (inl new.1))

    drop' : (k j : ℕ) → k ≢ m → (bit_at (get_or old k 0) j ≡ 1) ⊎ ((j ≡ bit) × Contains more k)
        → (bit_at (get_or old k 0) j ≡ 1) ⊎ ((j ≡ bit) × Contains row k)
    drop' k j other (inl before) = inl before
    drop' k j other (inr new) = elim ((one k).0 new.1)
        [ inl in' ↦ inr (new.0, in') | inr same ↦ absurd (other (sym same)) ]

    at : (k j : ℕ) → j < 64 → k ≡ m → (bit_at (get_or (set words m w) k 0) j ≡ 1)
        ↔ ((bit_at (get_or old k 0) j ≡ 1) ⊎ ((j ≡ bit) × Contains more k))
    at k j l same =
        let is : get_or (set words m w) k 0 ≡ w = ap (λ i. get_or (set words m w) i 0) same
        ∙ get_or-set_same words m w 0 within in
        let now : bit_at (get_or (set words m w) k 0) j ≡ bit_at w j = ap (λ v. bit_at v j) is in
        elim (cases_eq j bit) [
          | inl e ↦ (
            (λ h. inr (e, (one k).1 (inr (sym same)))),
            (λ h. now ∙ ap (bit_at w) e ∙ bit_at_set_same w64 (get_or words m 0) bit fits),
          )
          | inr n ↦
              let was : bit_at w j ≡ bit_at (get_or words k 0) j =
              bit_at_set_other w64 (get_or words m 0) bit fits j n
              ∙ ap (λ i. bit_at (get_or words i 0) j) (sym same) in (
                (λ h. keep k j ((so.each k j l).0 (sym was ∙ sym now ∙ h))),
                (λ h. elim h [
                  | inl before ↦ now ∙ was ∙ (so.each k j l).1 (inl before)
                  | inr new ↦ absurd (n new.0)
                ]),
              )
        ]

-- the first of the sixty-four sets have their bits
abbrev pub IsBlockBefore : List (List ℕ) → ℕ → ℕ → List ℕ → Type 0
IsBlockBefore rows first bit words = (m j : ℕ) → j < 64
    → (bit_at (get_or words m 0) j ≡ 1) ↔ ((j < bit) × Contains (row_in rows (first + j)) m)

pub block_more : (rows : List (List ℕ)) (first bit : ℕ) (row old new : List ℕ) → row ≡ row_in rows (first + bit)
    → IsBlockBefore rows first bit old → Notes bit row old new → IsBlockBefore rows first (bit + 1) new
block_more rows first bit row old new is before so m j l = (
  (λ h. elim ((so.each m j l).0 h) [
    | inl was ↦ (let w = (before m j l).0 was in (omega (arith, w.0), w.1))
    | inr now ↦ (
      omega (arith, now.0),
      subst (λ k. Contains (row_in rows (first + k)) m) (sym now.0) (subst (λ (r : List ℕ). Contains r m) is now.1),
    )
  ]),
  (λ h. elim (cases_eq j bit) [
    | inl same ↦ (so.each m j l).1 (inr (
      same,
      subst (λ (r : List ℕ). Contains r m) (sym is) (subst (λ k. Contains (row_in rows (first + k)) m) same h.1),
    ))
    | inr other ↦ (so.each m j l).1 (inl ((before m j l).1 (omega (arith, h.0, other), h.1)))
  ]),
)

pub block_same : (rows : List (List ℕ)) (first bit : ℕ) (words : List ℕ) → length rows ≤ first + bit
    → IsBlockBefore rows first bit words → IsBlockBefore rows first (bit + 1) words
block_same rows first bit words end before m j l = (
  (λ h. (let w = (before m j l).0 h in (omega (arith, w.0), w.1))),
  (λ h. elim (cases_eq j bit) [
    | inl same ↦
        absurd (Contains-none m (subst (λ (r : List ℕ). Contains r m)
        (ap (λ k. row_in rows (first + k)) same ∙ nothing_at rows (first + bit) end) h.1))
    | inr other ↦ (before m j l).1 (omega (arith, h.0, other), h.1)
  ]),
)

-- ---- the words of a set

pub common_none : (words : List ℕ) → IsCommon words [] (2 ^ 64 - 1)
common_none words = record {
  each = λ j l. ((λ h m in'. absurd (Contains-none m in')), (λ h. bit_at_ones 64 j l));
  none = λ j l. bit_at_ones_above 64 j l;
}

pub common_more : (words row more : List ℕ) (m before : ℕ) → ((k : ℕ) → Contains more k ↔ (Contains row k ⊎ (m ≡ k)))
    → IsCommon words row before → IsCommon words more (bit_and before (get_or words m 0))
common_more words row more m before one is = record {
  each = λ j l. (
    (λ h k in'. elim ((one k).0 in') [
      | inl old ↦ ((is.each j l).0 (left j h)) k old
      | inr same ↦ subst (λ i. bit_at (get_or words i 0) j ≡ 1) same (right j h)
    ]),
    (λ h. both j ((is.each j l).1 (λ k old. h k ((one k).1 (inl old)))) (h m ((one m).1 (inr refl)))),
  );
  none = λ j l. omega (arith, bit_at_and before (get_or words m 0) j, is.none j l);
}
  where
    left : (j : ℕ) → bit_at (bit_and before (get_or words m 0)) j ≡ 1 → bit_at before j ≡ 1
    left j h = omega (
      arith,
      h,
      bit_at_and before (get_or words m 0) j,
      bit_at-lt before j,
      bit_at-lt (get_or words m 0) j,
    )

    right : (j : ℕ) → bit_at (bit_and before (get_or words m 0)) j ≡ 1 → bit_at (get_or words m 0) j ≡ 1
    right j h = omega (
      arith,
      h,
      bit_at_and before (get_or words m 0) j,
      bit_at-lt before j,
      bit_at-lt (get_or words m 0) j,
    )

    both : (j : ℕ) → bit_at before j ≡ 1 → bit_at (get_or words m 0) j ≡ 1
        → bit_at (bit_and before (get_or words m 0)) j ≡ 1
    both j a b = omega (arith, bit_at_and before (get_or words m 0) j, a, b)

-- once nothing is in common, nothing will be
pub common_zero : (words some all : List ℕ) → ((k : ℕ) → Contains some k → Contains all k) → IsCommon words some 0
    → IsCommon words all 0
common_zero words some all part is = record {
  each = λ j l. (
    (λ h. absurd (omega (arith, h, bit_at-zero j))),
    (λ h. (is.each j l).1 (λ k in'. h k (part k in'))),
  );
  none = is.none;
}

-- what words that are lent have in common, for a row that is lent
pub common_here : (rows : List (Vec ℕ Global)) (place : ℕ) (v ws : Vec ℕ Global) (words row : List ℕ) (common : ℕ)
    → place < length rows → v ≡ get_or rows place v → words ≡ ws.items → row ≡ v.items → IsCommon words row common
    → IsCommon ws.items (row_in (rows_of rows) place) common
common_here rows place v ws words row common l e w r is =
    subst₂ (λ (vs ns : List ℕ). IsCommon vs ns common) w (r ∙ sym (row_here rows place v l e)) is

pub own_here : (block place : ℕ) → place / 64 ≡ block → IsOwnBit (block * 64) place (2 ^ (place % 64))
own_here block place e = record {
  each = λ j l. (
    (λ h. elim (cases_eq j (place % 64)) [
      | inl same ↦ omega (arith, same, e)
      | inr other ↦ absurd (omega (arith, sym h ∙ bit_at-pow_other (place % 64) j other))
    ]),
    (λ h. let same : j ≡ place % 64 = omega (arith, h, e, l) in
        ap (bit_at (2 ^ (place % 64))) same ∙ bit_at-pow_same (place % 64)),
  );
  none = λ j l. bit_at-pow_other (place % 64) j (λ same. omega (arith, same, l));
}

-- ---- what no other row has

-- none of the first so many rows but the one at the place has all that this one has
abbrev pub IsWithinNoneBefore : List (List ℕ) → ℕ → ℕ → Type 0
IsWithinNoneBefore rows place end = (q : ℕ) → q < length rows → q < end → q ≢ place
    → ((m : ℕ) → Contains (row_in rows place) m → Contains (row_in rows q) m) → ⊥

module _ (rows blocks : List (List ℕ)) (place b : ℕ) (words : List ℕ) (common own : ℕ)
    (are : AreBlocks rows blocks) (at : At blocks b words) (is : IsCommon words (row_in rows place) common)
    (own_is : IsOwnBit (b * 64) place own) where
  -- where another had them all, its bit would be there too
  pub agree_none : common ≡ own → IsWithinNoneBefore rows place (b * 64) → IsWithinNoneBefore rows place (b * 64 + 64)
  agree_none same before q l end other in' = elim (cases_lt q (b * 64)) [
    | inl earlier ↦ before q l earlier other in'
    | inr here' ↦
        let j : ℕ = q - b * 64 in
        let small : j < 64 = omega (arith, here', end) in
        let there : b * 64 + j ≡ q = omega (arith, here') in
        let bit = (is.each j small).1
        (λ m h. (are.exact b words at m j small).1 (subst (λ i. Contains (row_in rows i) m) (sym there) (in' m h))) in
        other (sym there ∙ (own_is.each j small).0 (ap (λ v. bit_at v j) (sym same) ∙ bit))
  ]

  -- where no other has them all, its own bit is the only one
  pub none_agree : (m : ℕ) × Contains (row_in rows place) m → IsWithinNone rows place → common ≡ own
  none_agree some none = same_from_bits common own (λ j. elim (cases_lt j 64) [
    | inl l ↦ elim (cases_eq (bit_at common j) 1) [
      | inl one ↦ one ∙ sym ((own_is.each j l).1 (own_place j l one))
      | inr zero' ↦ elim (cases_eq (bit_at own j) 1) [
        | inl one ↦ absurd (zero' (has_own j l ((own_is.each j l).0 one)))
        | inr none' ↦ omega (arith, bit_at-lt common j, bit_at-lt own j, zero', none')
      ]
    ]
    | inr ge ↦ is.none j ge ∙ sym (own_is.none j ge)
  ])
    where
      has_own : (j : ℕ) → j < 64 → b * 64 + j ≡ place → bit_at common j ≡ 1
      has_own j l e = (is.each j l).1
          (λ m h. (are.exact b words at m j l).1 (subst (λ i. Contains (row_in rows i) m) (sym e) h))

      own_place : (j : ℕ) → j < 64 → bit_at common j ≡ 1 → b * 64 + j ≡ place
      own_place j l one = elim (cases_eq (b * 64 + j) place) [
        | inl same ↦ same
        | inr other ↦
            let in' = λ (m : ℕ) (h : Contains (row_in rows place) m).
            (are.exact b words at m j l).0 ((is.each j l).0 one m h) in
            elim (cases_lt (b * 64 + j) (length rows)) [
              | inl inside ↦ absurd (none (b * 64 + j) inside other in')
              | inr beyond ↦
                  absurd (Contains-none some.0 (subst (λ (r : List ℕ). Contains r some.0)
                  (nothing_at rows (b * 64 + j) beyond) (in' some.0 some.1)))
            ]
      ]

pub none_at_all : (rows : List (List ℕ)) (place end : ℕ) → length rows ≤ end → IsWithinNoneBefore rows place end
    → IsWithinNone rows place
none_at_all rows place end all before q l = before q l (omega (arith, l, all))

-- ---- sets by their rows

-- no set stands at two places
once_in : (sets : List (List Node)) → IsStrictlySortedBy (slice_cmp node_cmp) sets → (i j : ℕ) (set : List Node)
    → At sets i set → At sets j set → i ≡ j
once_in sets up i j set at_i at_j = elim (cases_eq i j) [
  | inl same ↦ same
  | inr other ↦ absurd (elim (cases_lt i j) [
    | inl l ↦ twice i j at_i at_j l
    | inr ge ↦ twice j i at_j at_i (omega (arith, ge, other))
  ])
]
  where
    twice : (a b : ℕ) → At sets a set → At sets b set → a < b → ⊥
    twice a b at_a at_b l = not_below_itself (lists_total node_cmp_total) set
        (subst₂ (λ x y. slice_cmp node_cmp x y ≡ Less) (get_or_from_slice_get sets a set [] at_a)
        (get_or_from_slice_get sets b set [] at_b)
        (less_by_place (lists_total node_cmp_total) sets up a b [] l (slice_get_within sets b set at_b)))

module _ (sets : List (List Node)) (members : List Node) (rows : List (List ℕ)) (once : AreOnce members)
    (are : AreNumberings sets members rows) where
  numbering_at : (p : ℕ) (set : List Node) → At sets p set → IsNumbering members set (row_in rows p)
  numbering_at p set at = are.exact p set (row_in rows p) at
      (slice_get-get_or rows p [] (omega (arith, slice_get_within sets p set at, are.all)))

  pub some_number : (p : ℕ) (set : List Node) → At sets p set → set ≢ [] → (m : ℕ) × Contains (row_in rows p) m
  some_number p [] at some = absurd (some refl)
  some_number p (x ∷ xs) at some = let w = (numbering_at p (x ∷ xs) at).each x (Contains-first x xs) in (w.0, w.1)

  rows_within : (p q : ℕ) (set other : List Node) → At sets p set → At sets q other → AreWithin set other
      → (m : ℕ) → Contains (row_in rows p) m → Contains (row_in rows q) m
  rows_within p q set other at_p at_q w m h =
      let y = (numbering_at p set at_p).listed m h in
      let z = (numbering_at q other at_q).each y.0 (w y.0 y.1) in
      subst (Contains (row_in rows q)) (once z.0 m y.0 z.2 y.2) z.1

  sets_within : (p q : ℕ) (set other : List Node) → At sets p set → At sets q other
      → ((m : ℕ) → Contains (row_in rows p) m → Contains (row_in rows q) m) → AreWithin set other
  sets_within p q set other at_p at_q w y h =
      let m = (numbering_at p set at_p).each y h in
      let z = (numbering_at q other at_q).listed m.0 (w m.0 m.1) in
      subst (Contains other) (get_one members m.0 z.0 y z.2 m.2) z.1

  -- a set is within a larger one where another row has all that its own has
  pub within_by_rows : (p : ℕ) (set : List Node) (r : Bool) → At sets p set → AreAscending sets
      → IsStrictlySortedBy (slice_cmp node_cmp) sets → r ≡ false ↔ IsWithinNone rows p
      → r ≡ list_any (is_within_larger set) sets
  within_by_rows p set true at each up is = elim (cases_Bool (list_any (is_within_larger set) sets)) [
    | inl any ↦ sym any
    | inr no' ↦ absurd (true≢false (is.1 (λ q l other w.
        let at_q = slice_get-get_or sets q [] (omega (arith, l, are.all)) in
        let big : List Node = get_or sets q [] in
        let in' = sets_within p q set big at at_q w in
        let here' = Contains-from_place sets p set at in
        let there = Contains-from_place sets q big at_q in
        elim (same_or_smaller set big (each set here') (each big there) in') [
          | inl same ↦ other (once_in sets up q p big at_q (subst (At sets p) same at))
          | inr less ↦ true≢false
              (sym (has_any (is_within_larger set) sets big there
              (and_from (nat_lt (length set) (length big)) (is_within set big) (lt-ltb (length set) (length big) less)
              (test_by_within set big in'))) ∙ no')
        ])))
  ]
  within_by_rows p set false at each up is = elim (cases_Bool (list_any (is_within_larger set) sets)) [
    | inr no' ↦ sym no'
    | inl any ↦
        let o = any_has (is_within_larger set) sets any in
        let both = and_parts (nat_lt (length set) (length o.0)) (is_within set o.0) o.2 in
        let q = place_from_Contains sets o.0 o.1 in
        let less : length set < length o.0 = ltb-true (length set) (length o.0) both.0 in
        absurd (is.0 refl q.0 (omega (arith, slice_get_within sets q.0 o.0 q.1, are.all))
        (λ e. omega (arith, less, ap length (get_one sets p set o.0 at (subst (λ i. At sets i o.0) e q.1))))
        (rows_within p q.0 set o.0 at q.1 (within_by_test set o.0 both.1)))
  ]
