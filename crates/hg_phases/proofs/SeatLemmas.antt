-- Places and their seats: two seats are changed, and places come and go at the end.
use Rattle.std.proofs.Common.{◌≡◌, ◌≢◌, ℕ, zero, suc, ◌+◌, ◌-◌, ◌<◌, ◌≤◌, ◌↔◌, inl, inr, Bool, true, false}
use Rattle.std.proofs.Common.{nat_lt, get_or, List, [], ◌∷◌, ◌++◌, length, map, set, take, replicate, slice_get}
use Rattle.std.proofs.Common.{Some, None, Contains, refl, sym, ap, subst, ◌∙◌, arith, true≢false, append-nil}
use Rattle.std.proofs.Common.{append_assoc}
use Rattle.std.specs.Option.{option_map}
use Rattle.std.proofs.lemmas.Bool.{cases_eq, cases_lt}
use Rattle.std.proofs.lemmas.List.{length-set, length-map, length-append, length-take-le, take-map, take_at}
use Rattle.std.proofs.lemmas.List.{map-append, replicate_more}
use Rattle.std.proofs.lemmas.Option.{none-some, same_Some, slice_get-map, slice_get_within, slice_get_past}
use Rattle.std.proofs.lemmas.Option.{slice_get_cases, slice_get-get_or}
use Rattle.hg_changeset.proofs.ListLemmas.{slice_get-take, slice_get-push_cases, slice_get-append}
use Rattle.hg_changeset.proofs.ListLemmas.{slice_get-append_seam}
use Rattle.hg_graph.proofs.GraphLemmas.{get-take, Contains-from_place, place_from_Contains}
use Rattle.hg_graph.proofs.MarkLemmas.{get-set_same, get-set_other}
use Rattle.hg_phases.specs.Seats.{AreSeated, flags_of, swapped}

same-gets : {X : Type 0} (xs ys : List X) → ((i : ℕ) → slice_get xs i ≡ slice_get ys i) → xs ≡ ys
same-gets [] [] same = refl
same-gets [] (y ∷ ys) same = absurd (none-some y (same zero))
same-gets (x ∷ xs) [] same = absurd (none-some x (sym (same zero)))
same-gets (x ∷ xs) (y ∷ ys) same =
    let first = same_Some x y (same zero) in
    let rest = same-gets xs ys (λ i. same (suc i)) in
    λ t. first t ∷ rest t

-- ---- two seats that are changed

swapped-one : (one other : ℕ) → swapped one other one ≡ other
swapped-one one other = grind (arith)

swapped-other : (one other : ℕ) → swapped one other other ≡ one
swapped-other one other = grind (arith)

swapped-rest : (one other seat : ℕ) → seat ≢ one → seat ≢ other → swapped one other seat ≡ seat
swapped-rest one other seat a b = grind (arith)

module _ (order seats : List ℕ) (seated : AreSeated order seats) where
  pub seat-within : (s p : ℕ) → slice_get order s ≡ Some p → p < length seats
  seat-within s p at = slice_get_within seats p s ((seated.seated p s).1 at)

  pub place-within : (p s : ℕ) → slice_get seats p ≡ Some s → s < length order
  place-within p s at = slice_get_within order s p ((seated.seated p s).0 at)

  one_place : (s p q : ℕ) → slice_get order s ≡ Some p → slice_get order s ≡ Some q → p ≡ q
  one_place s p q at_p at_q = same_Some p q (sym at_p ∙ at_q)

  one_seat : (p s r : ℕ) → slice_get seats p ≡ Some s → slice_get seats p ≡ Some r → s ≡ r
  one_seat p s r at_s at_r = same_Some s r (sym at_s ∙ at_r)

  -- no two places have one seat
  pub same-place : (p q s : ℕ) → slice_get seats p ≡ Some s → slice_get seats q ≡ Some s → p ≡ q
  same-place p q s at_p at_q = one_place s p q ((seated.seated p s).0 at_p) ((seated.seated q s).0 at_q)

  module _ (one other first second : ℕ) (at_one : slice_get order one ≡ Some first)
      (at_other : slice_get order other ≡ Some second) where
    abbrev after_order : List ℕ
    after_order = set (set order one second) other first

    abbrev after_seats : List ℕ
    after_seats = set (set seats first other) second one

    seat_of_first : slice_get seats first ≡ Some one
    seat_of_first = (seated.seated first one).1 at_one

    seat_of_second : slice_get seats second ≡ Some other
    seat_of_second = (seated.seated second other).1 at_other

    within_order : other < length (set order one second)
    within_order =
        let l = slice_get_within order other second at_other in
        let e = length-set order one second in
        omega (arith, l, e)

    within_seats : second < length (set seats first other)
    within_seats =
        let l = slice_get_within seats second other seat_of_second in
        let e = length-set seats first other in
        omega (arith, l, e)

    seats-second : slice_get after_seats second ≡ Some one
    seats-second = get-set_same (set seats first other) second one within_seats

    seats-first : first ≢ second → slice_get after_seats first ≡ Some other
    seats-first ne = get-set_other (set seats first other) second first one ne
        ∙ get-set_same seats first other (slice_get_within seats first one seat_of_first)

    seats-rest : (p : ℕ) → p ≢ first → p ≢ second → slice_get after_seats p ≡ slice_get seats p
    seats-rest p nf ns = get-set_other (set seats first other) second p one ns ∙ get-set_other seats first p other nf

    order-other : slice_get after_order other ≡ Some first
    order-other = get-set_same (set order one second) other first within_order

    order-one : one ≢ other → slice_get after_order one ≡ Some second
    order-one ne = get-set_other (set order one second) other one first ne
        ∙ get-set_same order one second (slice_get_within order one first at_one)

    order-rest : (s : ℕ) → s ≢ one → s ≢ other → slice_get after_order s ≡ slice_get order s
    order-rest s n1 n2 = get-set_other (set order one second) other s first n2 ∙ get-set_other order one s second n1

    -- the two places are one where the two seats are
    same_places : one ≡ other → first ≡ second
    same_places e = one_place other first second (subst (λ s. slice_get order s ≡ Some first) e at_one) at_other

    same_seats : first ≡ second → one ≡ other
    same_seats e = one_seat second one other (subst (λ p. slice_get seats p ≡ Some one) e seat_of_first) seat_of_second

    to_order : (p s : ℕ) → slice_get after_seats p ≡ Some s → slice_get after_order s ≡ Some p
    to_order p s at = elim (cases_eq p second) [
      | inl is_second ↦
          let s_is : one ≡ s =
          same_Some one s (sym seats-second ∙ subst (λ q. slice_get after_seats q ≡ Some s) is_second at) in
          subst (λ r. slice_get after_order r ≡ Some p) s_is (elim (cases_eq one other) [
            | inl e ↦ subst (λ r. slice_get after_order r ≡ Some p) (sym e)
                (order-other ∙ ap (λ q. Some q) (same_places e ∙ sym is_second))
            | inr ne ↦ order-one ne ∙ ap (λ q. Some q) (sym is_second)
          ])
      | inr not_second ↦ elim (cases_eq p first) [
        | inl is_first ↦
            let ne : first ≢ second = λ e. not_second (is_first ∙ e) in
            let s_is : other ≡ s =
            same_Some other s (sym (seats-first ne) ∙ subst (λ q. slice_get after_seats q ≡ Some s) is_first at) in
            subst (λ r. slice_get after_order r ≡ Some p) s_is (order-other ∙ ap (λ q. Some q) (sym is_first))
        | inr not_first ↦
            let was = (seated.seated p s).0 (sym (seats-rest p not_first not_second) ∙ at) in
            order-rest s (λ e. not_first (one_place one p first (subst (λ r. slice_get order r ≡ Some p) e was) at_one))
            (λ e. not_second (one_place other p second (subst (λ r. slice_get order r ≡ Some p) e was) at_other))
            ∙ was
      ]
    ]

    to_seats : (p s : ℕ) → slice_get after_order s ≡ Some p → slice_get after_seats p ≡ Some s
    to_seats p s at = elim (cases_eq s other) [
      | inl is_other ↦
          let p_is : first ≡ p =
          same_Some first p (sym order-other ∙ subst (λ r. slice_get after_order r ≡ Some p) is_other at) in
          subst (λ q. slice_get after_seats q ≡ Some s) p_is (elim (cases_eq first second) [
            | inl e ↦ subst (λ q. slice_get after_seats q ≡ Some s) (sym e)
                (seats-second ∙ ap (λ r. Some r) (same_seats e ∙ sym is_other))
            | inr ne ↦ seats-first ne ∙ ap (λ r. Some r) (sym is_other)
          ])
      | inr not_other ↦ elim (cases_eq s one) [
        | inl is_one ↦
            let ne : one ≢ other = λ e. not_other (is_one ∙ e) in
            let p_is : second ≡ p =
            same_Some second p (sym (order-one ne) ∙ subst (λ r. slice_get after_order r ≡ Some p) is_one at) in
            subst (λ q. slice_get after_seats q ≡ Some s) p_is (seats-second ∙ ap (λ r. Some r) (sym is_one))
        | inr not_one ↦
            let was = (seated.seated p s).1 (sym (order-rest s not_one not_other) ∙ at) in
            seats-rest p (λ e. not_one (one_seat first s one (subst (λ q. slice_get seats q ≡ Some s) e was)
            seat_of_first))
            (λ e. not_other (one_seat second s other (subst (λ q. slice_get seats q ≡ Some s) e was) seat_of_second))
            ∙ was
      ]
    ]

    pub swap-seated : AreSeated after_order after_seats
    swap-seated = record {
      len =
          let a = length-set (set seats first other) second one in
          let b = length-set seats first other in
          let c = length-set (set order one second) other first in
          let d = length-set order one second in
          let e = seated.len in
          omega (arith, a, b, c, d, e);
      seated = λ p s. (to_order p s, to_seats p s);
    }

    swapped-at : (p s : ℕ) → slice_get seats p ≡ Some s → slice_get after_seats p ≡ Some (swapped one other s)
    swapped-at p s at = elim (cases_eq p second) [
      | inl is_second ↦
          let s_is : other ≡ s =
          one_seat second other s seat_of_second (subst (λ q. slice_get seats q ≡ Some s) is_second
          at) in
          subst (λ q. slice_get after_seats q ≡ Some (swapped one other s)) (sym is_second)
          (seats-second ∙ ap (λ r. Some r) (sym (swapped-other one other) ∙ ap (swapped one other) s_is))
      | inr not_second ↦ elim (cases_eq p first) [
        | inl is_first ↦
            let s_is : one ≡ s =
            one_seat first one s seat_of_first (subst (λ q. slice_get seats q ≡ Some s) is_first at)
            in
            subst (λ q. slice_get after_seats q ≡ Some (swapped one other s)) (sym is_first)
            (seats-first (λ e. not_second (is_first ∙ e))
            ∙ ap (λ r. Some r) (sym (swapped-one one other) ∙ ap (swapped one other) s_is))
        | inr not_first ↦
            let not_one : s ≢ one = λ e. not_first (same-place p first one (at ∙ ap (λ r. Some r) e) seat_of_first) in
            let not_other : s ≢ other =
            λ e. not_second (same-place p second other (at ∙ ap (λ r. Some r) e) seat_of_second) in
            seats-rest p not_first not_second ∙ at
            ∙ ap (λ r. Some r) (sym (swapped-rest one other s not_one not_other))
      ]
    ]

    pub swap-seats : after_seats ≡ map (swapped one other) seats
    swap-seats = same-gets after_seats (map (swapped one other) seats) (λ i. elim (slice_get_cases seats i).1 [
      | inl found ↦ swapped-at i found.0 found.2
          ∙ sym (slice_get-map (swapped one other) seats i ∙ ap (option_map (swapped one other)) found.2)
      | inr past ↦
          let a = length-set (set seats first other) second one in
          let b = length-set seats first other in
          let c = length-map seats (swapped one other) in
          let l = past.0 in
          slice_get_past after_seats i (omega (arith, a, b, l))
          ∙ sym (slice_get_past (map (swapped one other) seats) i (omega (arith, c, l)))
    ])

-- ---- flags

pub flags-at : (seats : List ℕ) (count p s : ℕ) → slice_get seats p ≡ Some s
    → slice_get (flags_of seats count) p ≡ Some (nat_lt s count)
flags-at seats count p s at =
    slice_get-map (λ seat. nat_lt seat count) seats p ∙ ap (option_map (λ seat. nat_lt seat count)) at

pub length-flags : (seats : List ℕ) (count : ℕ) → length (flags_of seats count) ≡ length seats
length-flags seats count = length-map seats (λ seat. nat_lt seat count)

flags-past : (seats : List ℕ) (count p : ℕ) → length seats ≤ p → slice_get (flags_of seats count) p ≡ None
flags-past seats count p l =
    let e = length-flags seats count in
    slice_get_past (flags_of seats count) p (omega (arith, l, e))

less : (m n : ℕ) → m < n → nat_lt m n ≡ true
less m n l = grind (arith, l)

not_less : (m n : ℕ) → n ≤ m → nat_lt m n ≡ false
not_less m n l = grind (arith, l)

-- a flag is up where the place has one of the first seats
pub flag-up : (seats : List ℕ) (count p : ℕ) → slice_get (flags_of seats count) p ≡ Some true
    → (s : ℕ) × (slice_get seats p ≡ Some s) × (s < count)
flag-up seats count p up = elim (slice_get_cases seats p).1 [
  | inl found ↦
      let s = found.0 in
      elim (cases_lt s count) [
        | inl l ↦ (s, found.2, l)
        | inr ge ↦
            let told = sym (not_less s count ge) ∙ same_Some (nat_lt s count) true
            (sym (flags-at seats count p s found.2) ∙ up) in
            absurd (true≢false (sym told))
      ]
  | inr past ↦ absurd (none-some true (sym (flags-past seats count p past.0) ∙ up))
]

pub up-flag : (seats : List ℕ) (count p s : ℕ) → slice_get seats p ≡ Some s → s < count
    → slice_get (flags_of seats count) p ≡ Some true
up-flag seats count p s at l = flags-at seats count p s at ∙ ap (λ b. Some b) (less s count l)

-- two sets are one where each place is in both or in none
same-flags : (seats others : List ℕ) (count more : ℕ) (flags : List Bool) → length others ≡ length seats
    → length flags ≡ length seats
    → ((p s : ℕ) → slice_get seats p ≡ Some s → (r : ℕ) × (slice_get others p ≡ Some r)
    × (slice_get flags p ≡ Some (nat_lt r more)))
    → flags_of others more ≡ flags
same-flags seats others count more flags len long each =
    same-gets (flags_of others more) flags (λ i. elim (slice_get_cases seats i).1 [
      | inl found ↦
          let x = each i found.0 found.2 in
          flags-at others more i x.0 x.1 ∙ sym x.2
      | inr past ↦
          let l = past.0 in
          flags-past others more i (omega (arith, len, l)) ∙ sym (slice_get_past flags i (omega (arith, long, l)))
    ])

module _ (order seats : List ℕ) (count : ℕ) (seated : AreSeated order seats) (place seat : ℕ)
    (at : slice_get seats place ≡ Some seat) where
  within_flags : place < length (flags_of seats count)
  within_flags =
      let e = length-flags seats count in
      let l = slice_get_within seats place seat at in
      omega (arith, e, l)

  long : (b : Bool) → length (set (flags_of seats count) place b) ≡ length seats
  long b = length-set (flags_of seats count) place b ∙ length-flags seats count

  -- where it changed its seat with one at the border
  module _ (border more : ℕ) (b : Bool) (own : nat_lt border more ≡ b)
      (other : (s : ℕ) → s ≢ seat → nat_lt (swapped seat border s) more ≡ nat_lt s count) where
    moved : flags_of (map (swapped seat border) seats) more ≡ set (flags_of seats count) place b
    moved = same-flags seats (map (swapped seat border) seats) count more (set (flags_of seats count) place b)
        (length-map seats (swapped seat border)) (long b)
        (λ p s at_p. (
          swapped seat border s,
          slice_get-map (swapped seat border) seats p ∙ ap (option_map (swapped seat border)) at_p,
          (elim (cases_eq p place) [
            | inl is ↦
                let s_is : s ≡ seat = same_Some s seat (sym at_p ∙ ap (slice_get seats) is ∙ at) in
                ap (slice_get (set (flags_of seats count) place b)) is
                ∙ get-set_same (flags_of seats count) place b within_flags
                ∙ ap (λ x. Some x) (sym own ∙ ap (λ r. nat_lt r more)
                (sym (swapped-one seat border) ∙ ap (swapped seat border) (sym s_is)))
            | inr isnt ↦
                let ne : s ≢ seat =
                λ e. isnt (same-place order seats seated p place seat (at_p ∙ ap (λ r. Some r) e) at) in
                get-set_other (flags_of seats count) place p b isnt ∙ flags-at seats count p s at_p
                ∙ ap (λ x. Some x) (sym (other s ne))
          ]),
        ))

  pub inserted : count ≤ seat
      → flags_of (map (swapped seat count) seats) (count + 1) ≡ set (flags_of seats count) place true
  inserted ge = moved count (count + 1) true (less count (count + 1) (omega arith)) (λ s ne. elim (cases_eq s count) [
    | inl is ↦
        let out : seat ≢ count = λ e. ne (is ∙ sym e) in
        ap (λ r. nat_lt (swapped seat count r) (count + 1)) is
        ∙ ap (λ r. nat_lt r (count + 1)) (swapped-other seat count)
        ∙ not_less seat (count + 1) (omega (arith, ge, out)) ∙ sym (not_less s count (omega (arith, is)))
    | inr isnt ↦
        ap (λ r. nat_lt r (count + 1)) (swapped-rest seat count s ne isnt) ∙ elim (cases_lt s count) [
          | inl l ↦ less s (count + 1) (omega (arith, l)) ∙ sym (less s count l)
          | inr r ↦ not_less s (count + 1) (omega (arith, r, isnt)) ∙ sym (not_less s count r)
        ]
  ])

  pub removed : seat < count
      → flags_of (map (swapped seat (count - 1)) seats) (count - 1) ≡ set (flags_of seats count) place false
  removed l = moved (count - 1) (count - 1) false (not_less (count - 1) (count - 1) (omega arith))
      (λ s ne. elim (cases_eq s (count - 1)) [
        | inl is ↦
            let out : seat ≢ count - 1 = λ e. ne (is ∙ sym e) in
            ap (λ r. nat_lt (swapped seat (count - 1) r) (count - 1)) is
            ∙ ap (λ r. nat_lt r (count - 1)) (swapped-other seat (count - 1))
            ∙ less seat (count - 1) (omega (arith, l, out)) ∙ sym (less s count (omega (arith, is, l)))
        | inr isnt ↦
            ap (λ r. nat_lt r (count - 1)) (swapped-rest seat (count - 1) s ne isnt) ∙ elim (cases_lt s (count - 1)) [
              | inl m ↦ less s (count - 1) m ∙ sym (less s count (omega (arith, m)))
              | inr r ↦ not_less s (count - 1) r ∙ sym (not_less s count (omega (arith, r, isnt, l)))
            ]
      ])

  -- a flag that is as it should be stays
  set-same : (b : Bool) → nat_lt seat count ≡ b → set (flags_of seats count) place b ≡ flags_of seats count
  set-same b e = same-gets (set (flags_of seats count) place b) (flags_of seats count) (λ i. elim (cases_eq i place) [
    | inl is ↦
        ap (slice_get (set (flags_of seats count) place b)) is
        ∙ get-set_same (flags_of seats count) place b within_flags
        ∙ ap (λ x. Some x) (sym e) ∙ sym (flags-at seats count place seat at)
        ∙ ap (slice_get (flags_of seats count)) (sym is)
    | inr isnt ↦ get-set_other (flags_of seats count) place i b isnt
  ])

  pub kept-in : seat < count → flags_of seats count ≡ set (flags_of seats count) place true
  kept-in l = sym (set-same true (less seat count l))

  pub kept-out : count ≤ seat → flags_of seats count ≡ set (flags_of seats count) place false
  kept-out l = sym (set-same false (not_less seat count l))

-- ---- places that come and go at the end

-- a place more has a seat of its own number
pub seated-push : (order seats : List ℕ) → AreSeated order seats → (n : ℕ) → n ≡ length order
    → AreSeated (order ++ n ∷ []) (seats ++ n ∷ [])
seated-push order seats seated n is =
    let len = seated.len in
    let last : slice_get (order ++ n ∷ []) n ≡ Some n =
    subst (λ i. slice_get (order ++ n ∷ []) i ≡ Some n) (sym is) (slice_get-append_seam order n []) in
    let last_seat : slice_get (seats ++ n ∷ []) n ≡ Some n =
    subst (λ i. slice_get (seats ++ n ∷ []) i ≡ Some n) (len ∙ sym is) (slice_get-append_seam seats n []) in
    record {
      len = length-append seats (n ∷ []) ∙ ap (λ m. m + 1) len ∙ sym (length-append order (n ∷ []));
      seated = λ p s. (
        λ at. elim (slice_get-push_cases seats n p s at) [
          | inl old ↦ slice_get-append order (n ∷ []) s p ((seated.seated p s).0 old)
          | inr new ↦
              let p_is : n ≡ p = is ∙ sym len ∙ sym new.0 in
              subst (λ q. slice_get (order ++ n ∷ []) s ≡ Some q) p_is
              (subst (λ r. slice_get (order ++ n ∷ []) r ≡ Some n) new.1 last)
        ],
        λ at. elim (slice_get-push_cases order n s p at) [
          | inl old ↦ slice_get-append seats (n ∷ []) p s ((seated.seated p s).1 old)
          | inr new ↦
              let s_is : n ≡ s = is ∙ sym new.0 in
              subst (λ r. slice_get (seats ++ n ∷ []) p ≡ Some r) s_is
              (subst (λ q. slice_get (seats ++ n ∷ []) q ≡ Some n) new.1 last_seat)
        ],
      );
    }

-- the last place goes, which has the last seat
pub seated-forget : (order seats : List ℕ) → AreSeated order seats → (n : ℕ) → length order ≡ suc n
    → slice_get seats n ≡ Some n → AreSeated (take n order) (take n seats)
seated-forget order seats seated n long last = record {
  len =
      let e = seated.len in
      length-take-le n seats (omega (arith, e, long)) ∙ sym (length-take-le n order (omega (arith, long)));
  seated = λ p s. (
    λ at.
        let x = get-take seats n p s at in
        let was = (seated.seated p s).0 x.1 in
        let within = slice_get_within order s p was in
        let ne : s ≢ n = λ e. let same =
        same-place order seats seated p n n (x.1 ∙ ap (λ r. Some r) e) last in omega (arith, x.0, same) in
        slice_get-take order n s p (omega (arith, within, long, ne)) was,
    λ at.
        let x = get-take order n s p at in
        let was = (seated.seated p s).1 x.1 in
        let within = slice_get_within seats p s was in
        let ne : p ≢ n =
        λ e. let same = same_Some s n (sym was ∙ ap (slice_get seats) e ∙ last) in omega (arith, x.0, same) in
        let e = seated.len in
        slice_get-take seats n p s (omega (arith, within, long, ne, e)) was,
  );
}

-- the flags of the first places
pub flags-taken : (seats : List ℕ) (count n : ℕ) → flags_of (take n seats) count ≡ take n (flags_of seats count)
flags-taken seats count n = sym (take-map (λ seat. nat_lt seat count) n seats)

-- a place more behind the border isn't in the set
pub flags-push : (seats : List ℕ) (count place n : ℕ) (old : List Bool) → count ≤ place
    → flags_of seats count ≡ old ++ replicate n false
    → flags_of (seats ++ place ∷ []) count ≡ old ++ replicate (n + 1) false
flags-push seats count place n old le is =
    map-append (λ seat. nat_lt seat count) seats (place ∷ [])
    ∙ ap (λ b. flags_of seats count ++ b ∷ []) (not_less place count le) ∙ ap (λ fs. fs ++ false ∷ []) is
    ∙ append_assoc old (replicate n false) (false ∷ []) ∙ ap (λ fs. old ++ fs) (replicate_more n false)

-- two seats behind the border are changed
pub flags-behind : (order seats : List ℕ) (count : ℕ) → AreSeated order seats → (one other : ℕ) → count ≤ one
    → count ≤ other → flags_of (map (swapped one other) seats) count ≡ flags_of seats count
flags-behind order seats count seated one other l m =
    same-flags seats (map (swapped one other) seats) count count (flags_of seats count)
    (length-map seats (swapped one other)) (length-flags seats count)
    (λ p s at. (
      swapped one other s,
      slice_get-map (swapped one other) seats p ∙ ap (option_map (swapped one other)) at,
      flags-at seats count p s at ∙ ap (λ b. Some b) (elim (cases_eq s one) [
        | inl e ↦ not_less s count (omega (arith, e, l))
            ∙ sym (ap (λ r. nat_lt (swapped one other r) count) e
            ∙ ap (λ r. nat_lt r count) (swapped-one one other) ∙ not_less other count m)
        | inr n1 ↦ elim (cases_eq s other) [
          | inl e ↦ not_less s count (omega (arith, e, m))
              ∙ sym (ap (λ r. nat_lt (swapped one other r) count) e
              ∙ ap (λ r. nat_lt r count) (swapped-other one other) ∙ not_less one count l)
          | inr n2 ↦ sym (ap (λ r. nat_lt r count) (swapped-rest one other s n1 n2))
        ]
      ]),
    ))

-- what is listed first is in the set
pub listed-first : (order seats : List ℕ) (count : ℕ) → AreSeated order seats → (p : ℕ)
    → Contains (take count order) p ↔ (slice_get (flags_of seats count) p ≡ Some true)
listed-first order seats count seated p = (
  λ h.
      let place = place_from_Contains (take count order) p h in
      let x = get-take order count place.0 p place.1 in
      up-flag seats count p place.0 ((seated.seated p place.0).1 x.1) x.0,
  λ up.
      let s = flag-up seats count p up in
      Contains-from_place (take count order) s.0 p
      (slice_get-take order count s.0 p s.2 ((seated.seated p s.0).0 s.1)),
)

-- the seat that was read
pub seat-read : (seats : List ℕ) (count : ℕ) (flags : List Bool) (place seat : ℕ) → flags_of seats count ≡ flags
    → place < length flags → seat ≡ get_or seats place seat → slice_get seats place ≡ Some seat
seat-read seats count flags place seat view l is =
    let e = ap length view in
    slice_get-get_or seats place seat (omega (arith, e, l, length-flags seats count)) ∙ ap (λ s. Some s) (sym is)

-- as many places as before
pub length-swapped : (order seats after others : List ℕ) (one other : ℕ) → AreSeated order seats
    → AreSeated after others → others ≡ map (swapped one other) seats → length after ≡ length order
length-swapped order seats after others one other seated again is =
    sym again.len ∙ ap length is ∙ length-map seats (swapped one other) ∙ seated.len

-- the list begins with another
abbrev pub Begins : List ℕ → List ℕ → Type 0
Begins first now = (more : List ℕ) × (now ≡ first ++ more)

pub begins-itself : (first : List ℕ) → Begins first first
begins-itself first = ([], sym (append-nil first))

pub begins-push : (first now new : List ℕ) (x : ℕ) → new ≡ now ++ x ∷ [] → Begins first now → Begins first new
begins-push first now new x is b =
    (b.0 ++ x ∷ [], is ∙ ap (λ xs. xs ++ x ∷ []) b.1 ∙ append_assoc first b.0 (x ∷ []))

pub begins-taken : (first now : List ℕ) → Begins first now → take (length first) now ≡ first
begins-taken first now b = ap (take (length first)) b.1 ∙ take_at first b.0 (length first) refl

pub begins-same : (first now new : List ℕ) → new ≡ now → Begins first now → Begins first new
begins-same first now new is b = (b.0, is ∙ b.1)

-- where the flag is down the seat is behind the border
pub seat-out : (seats : List ℕ) (count : ℕ) (flags : List Bool) (place seat : ℕ) → flags_of seats count ≡ flags
    → slice_get flags place ≡ Some false → slice_get seats place ≡ Some seat → count ≤ seat
seat-out seats count flags place seat view down at = elim (cases_lt seat count) [
  | inl l ↦ absurd
      (true≢false (same_Some true false
      (sym (ap (λ fs. slice_get fs place) (sym view) ∙ flags-at seats count place seat at ∙ ap (λ b. Some b)
      (less seat count l)) ∙ down)))
  | inr ge ↦ ge
]

-- the place changed its seat with the last one
pub last-seat : (seats others : List ℕ) (one last place : ℕ) → others ≡ map (swapped one last) seats
    → slice_get seats place ≡ Some one → slice_get others place ≡ Some last
last-seat seats others one last place is at =
    ap (λ xs. slice_get xs place) is ∙ slice_get-map (swapped one last) seats place
    ∙ ap (option_map (swapped one last)) at ∙ ap (λ r. Some r) (swapped-one one last)
