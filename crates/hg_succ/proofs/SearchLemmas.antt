-- What a search keeps so, step by step.
use Rattle.std.proofs.Common.{◌≡◌, ◌≢◌, ℕ, suc, ◌+◌, ◌-◌, ◌<◌, ◌≤◌, Bool, List, [], ◌∷◌, ◌++◌, length, set, Some}
use Rattle.std.proofs.Common.{Contains, ◌⊎◌, inl, inr, refl, sym, ap, subst, ◌∙◌, arith, get_or, Vec, Global, sum}
use Rattle.std.proofs.Common.{length-set}
use Rattle.std.proofs.lemmas.Bool.{cases_lt}
use Rattle.std.proofs.lemmas.List.{length_push, length-map}
use Rattle.std.proofs.lemmas.Option.{slice_get_within, slice_get_read, none-some, same_Some}
use Rattle.std.proofs.lemmas.List.Elements.{Contains-append_left, Contains-push, Contains-push_cases}
use Rattle.std.proofs.lemmas.List.Elements.{Contains-append_cases}
use Rattle.hg_succ.specs.declared.search.Progress.{Progress}
use Rattle.hg_succ.specs.declared.search.Progress.TheVariants.{New, Waiting, Done}
use Rattle.hg_succ.specs.Steps.{Reaches}
use Rattle.hg_succ.specs.Steps.Reaches.{no_step, one_step_more}
use Rattle.hg_succ.specs.Rows.{At, rows_of, Edge, AreWithin}
use Rattle.hg_succ.specs.Search.{SearchState, EndsWith, IsAscending, AreJoined, IsAccounted, IsListed, IsSearch}
use Rattle.hg_succ.specs.Search.{IsAtEnd, entered, KeepsUpTo, Closes, CanEnter, GoesTo, StaysMet, work}
use Rattle.hg_graph.proofs.MarkLemmas.{get-set_same, get-set_other}
use Rattle.hg_succ.proofs.ListLemmas.{get_one, get_set_cases, ascending_push, ascending_front, ascending_last, sum_set}
use Rattle.hg_succ.proofs.ListLemmas.{split_last, row_at}
use Rattle.hg_changeset.proofs.ListLemmas.{slice_get-append, slice_get-append_seam, slice_get-push_cases}
use Rattle.hg_changeset.proofs.ListLemmas.{slice_get_some}
use Rattle.hg_graph.proofs.GraphLemmas.{get-take, Contains-from_place, place_from_Contains}

-- nothing stands in an empty list
none_at : {X : Type 0} (xs : List X) (i : ℕ) (x : X) → xs ≡ [] → At xs i x → ⊥
none_at xs i x e h = none-some x (subst (λ ys. At ys i x) e h)

new_waiting : (p : ℕ) → Some New ≡ Some (Waiting p) → ⊥
new_waiting p e = let f = same_Some New (Waiting p) e in cc

pub new_done : Some New ≡ Some Done → ⊥
new_done e = let f = same_Some New Done e in cc

pub waiting_done : (p : ℕ) → Some (Waiting p) ≡ Some Done → ⊥
waiting_done p e = let f = same_Some (Waiting p) Done e in cc

same_waiting : (p q : ℕ) → Waiting p ≡ Waiting q → p ≡ q
same_waiting p q e = cc

-- one path of two
pub reaches_on : {A : Type 0} (step : A → A → Type 0) (x y z : A) → Reaches step x y → Reaches step y z
    → Reaches step x z
reaches_on step x y z a no_step = a
reaches_on step x y z a (one_step_more {y = w} b s) = one_step_more (reaches_on step x y w a b) s

-- the first step of a path that leads elsewhere
pub first_step : {A : Type 0} (step : A → A → Type 0) (x z : A) → Reaches step x z
    → (x ≡ z) ⊎ ((y : A) × step x y × Reaches step y z)
first_step step x z no_step = inl refl
first_step step x z (one_step_more {y = w} b s) = elim (first_step step x w b) [
  | inl e ↦ inr (z, subst (λ v. step v z) (sym e) s, no_step)
  | inr f ↦ inr (f.0, f.1, one_step_more f.2 s)
]

-- what is closed under steps has all that its members lead to
pub stays_within : {A : Type 0} (step : A → A → Type 0) (P : A → Type 0) → ((x y : A) → P x → step x y → P y)
    → (x y : A) → P x → Reaches step x y → P y
stays_within step P closed x y px no_step = px
stays_within step P closed x y px (one_step_more {y = w} b s) = closed w y (stays_within step P closed x w px b) s

module _ (R : List (List ℕ)) (s : SearchState) (so : IsSearch R s) where
  -- the place of a node that waits is its only one
  pub one_place : (p q x : ℕ) → At s.waiting p x → At s.waiting q x → p ≡ q
  one_place p q x h g = same_waiting p q (get_one s.marks x (Waiting p) (Waiting q) (so.met p x h) (so.met q x g))

  waiting_not_new : (p x : ℕ) → At s.waiting p x → At s.marks x New → ⊥
  waiting_not_new p x h n = new_waiting p (sym n ∙ so.met p x h)

  pub waiting_not_done : (p x : ℕ) → At s.waiting p x → At s.marks x Done → ⊥
  waiting_not_done p x h d = waiting_done p (sym (so.met p x h) ∙ d)

  module _ (t u : ℕ) (end : IsAtEnd s t u) where
    on_path : Contains s.path t
    on_path = subst (λ (xs : List ℕ). Contains xs t) (sym end.last.1) (Contains-push end.last.0 t)

    pub path_below : (b : ℕ) → Contains s.path b → b ≤ t
    path_below b h =
        let up : IsAscending (end.last.0 ++ t ∷ []) = subst IsAscending end.last.1 so.path_up in
        elim (Contains-push_cases end.last.0 t b (subst (λ (xs : List ℕ). Contains xs b) end.last.1 h)) [
          | inl before ↦ (let l = ascending_last end.last.0 t up b before in omega arith)
          | inr same ↦ omega (arith, same)
        ]

    pub starts_below : (b : ℕ) → Contains s.starts b → b ≤ t
    starts_below b h = path_below b (so.starts_in b h)

    -- each waiting node leads to the end of the path
    to_end : (p x : ℕ) → At s.waiting p x → Reaches (Edge R) x u
    to_end p x h = elim (cases_lt t p) [
      | inl after ↦ so.back t p u x (λ b g. inl (starts_below b g)) (omega arith) end.waits h
      | inr before ↦ so.onward p t x u before h end.waits
    ]

module _ (R : List (List ℕ)) (s : SearchState) (so : IsSearch R s) (y : ℕ) (new : At s.marks y New)
    (from : CanEnter R s y) where
  other_mark : (x : ℕ) (m : Progress) → (New ≡ m → ⊥) → At s.marks x m
      → At (set s.marks y (Waiting (length s.waiting))) x m
  other_mark x m differs h =
      get-set_other s.marks y x (Waiting (length s.waiting))
      (λ e. differs (same_Some New m (sym new ∙ subst (λ z. At s.marks z m) e h))) ∙ h

  new_done' : (x : ℕ) → At s.marks x Done → At (set s.marks y (Waiting (length s.waiting))) x Done
  new_done' x h = other_mark x Done (λ e. cc) h

  old_done : (x : ℕ) → At (set s.marks y (Waiting (length s.waiting))) x Done → At s.marks x Done
  old_done x h = elim (get_set_cases s.marks y (Waiting (length s.waiting)) x Done h)
      [ inl same ↦ absurd (waiting_done (length s.waiting) (ap (λ (m : Progress). Some m) same.1)) | inr old ↦ old ]

  entered_met : (p x : ℕ) → At (s.waiting ++ y ∷ []) p x → At (set s.marks y (Waiting (length s.waiting))) x (Waiting p)
  entered_met p x h = elim (slice_get-push_cases s.waiting y p x h) [
    | inl before ↦ other_mark x (Waiting p) (λ e. cc) (so.met p x before)
    | inr last ↦
        let here : At (set s.marks y (Waiting (length s.waiting))) y (Waiting (length s.waiting)) =
        get-set_same s.marks y (Waiting (length s.waiting)) (slice_get_within s.marks y New new) in
        subst (λ z. At (set s.marks y (Waiting (length s.waiting))) z (Waiting p)) last.1
        (subst (λ k. At (set s.marks y (Waiting (length s.waiting))) y (Waiting k)) (sym last.0) here)
  ]

  entered_waits : (p x : ℕ) → At (set s.marks y (Waiting (length s.waiting))) x (Waiting p)
      → At (s.waiting ++ y ∷ []) p x
  entered_waits p x h = elim (get_set_cases s.marks y (Waiting (length s.waiting)) x (Waiting p) h) [
    | inl same ↦ subst (λ z. At (s.waiting ++ y ∷ []) p z) same.0
        (subst (λ k. At (s.waiting ++ y ∷ []) k y) (same_waiting (length s.waiting) p same.1)
        (slice_get-append_seam s.waiting y []))
    | inr old ↦ slice_get-append s.waiting (y ∷ []) p x (so.waits p x old)
  ]

  entered_fresh : (x : ℕ) (row : List ℕ) → At (set s.marks y (Waiting (length s.waiting))) x New → At R x row
      → At s.left x (length row)
  entered_fresh x row h r = elim (get_set_cases s.marks y (Waiting (length s.waiting)) x New h) [
    | inl same ↦ absurd (new_waiting (length s.waiting) (ap (λ (m : Progress). Some m) (sym same.1)))
    | inr old ↦
        so.fresh x row old r
  ]

  entered_all_followed : (p x : ℕ) → At (s.waiting ++ y ∷ []) p x → Contains (s.path ++ length s.waiting ∷ []) p
      ⊎ At s.left x 0
  entered_all_followed p x h = elim (slice_get-push_cases s.waiting y p x h) [
    | inl before ↦ elim (so.all_followed p x before)
        [ inl on ↦ inl (Contains-append_left s.path (length s.waiting ∷ []) p on) | inr none ↦ inr none ]
    | inr last ↦
        inl (subst (Contains (s.path ++ length s.waiting ∷ [])) (sym last.0) (Contains-push s.path (length s.waiting)))
  ]

  entered_joined : (p q : ℕ) → q < length s.waiting → AreJoined s.starts p q
      → AreJoined (s.starts ++ length s.waiting ∷ []) p q
  entered_joined p q l j b h = elim (Contains-push_cases s.starts (length s.waiting) b h)
      [ inl old ↦ j b old | inr last ↦ inr (omega (arith, last)) ]

  entered_followed : (p x l e z : ℕ) (row : List ℕ) → At (s.waiting ++ y ∷ []) p x → At s.left x l → At R x row
      → l ≤ e → At row e z → IsAccounted (entered y s) p z
  entered_followed p x l e z row h left_at row_at le edge = elim (slice_get-push_cases s.waiting y p x h) [
    | inl before ↦ elim (so.followed p x l e z row before left_at row_at le edge) [
      | inl done ↦ inl (new_done' z done)
      | inr waits ↦
          inr (
            waits.0,
            slice_get-append s.waiting (y ∷ []) waits.0 z waits.1,
            entered_joined waits.0 p
                (slice_get_within s.waiting p x before) waits.2,
          )
    ]
    | inr last ↦
        let full : l ≡ length row = get_one s.left x l (length row) left_at
        (so.fresh x row (subst (λ v. At s.marks v New) last.1 new) row_at) in
        absurd (omega (arith, full, slice_get_within row e z edge))
  ]

  entered_onward : (p q x z : ℕ) → p ≤ q → At (s.waiting ++ y ∷ []) p x → At (s.waiting ++ y ∷ []) q z
      → Reaches (Edge R) x z
  entered_onward p q x z le at_p at_q = elim (slice_get-push_cases s.waiting y q z at_q) [
    | inl q_in ↦ elim (slice_get-push_cases s.waiting y p x at_p) [
      | inl p_in ↦ so.onward p q x z le p_in q_in
      | inr p_end ↦ absurd (omega (arith, p_end.0, slice_get_within s.waiting q z q_in))
    ]
    | inr q_end ↦ elim (slice_get-push_cases s.waiting y p x at_p) [
      | inl p_in ↦ elim from [
        | inl empty ↦ absurd (none_at s.waiting p x empty p_in)
        | inr edge ↦ subst (Reaches (Edge R) x) q_end.1
            (one_step_more (to_end R s so edge.0 edge.1 edge.2 p x p_in) edge.3)
      ]
      | inr p_end ↦ subst (Reaches (Edge R) x) (sym p_end.1 ∙ q_end.1) no_step
    ]
  ]

  entered_back : (p q x z : ℕ) → AreJoined (s.starts ++ length s.waiting ∷ []) p q
      → p ≤ q → At (s.waiting ++ y ∷ []) p x → At (s.waiting ++ y ∷ []) q z → Reaches (Edge R) z x
  entered_back p q x z j le at_p at_q = elim (slice_get-push_cases s.waiting y q z at_q) [
    | inl q_in ↦ elim (slice_get-push_cases s.waiting y p x at_p) [
      | inl p_in ↦ so.back p q x z (λ b h. j b (Contains-append_left s.starts (length s.waiting ∷ []) b h)) le p_in q_in
      | inr p_end ↦ absurd (omega (arith, p_end.0, slice_get_within s.waiting q z q_in))
    ]
    | inr q_end ↦ elim (slice_get-push_cases s.waiting y p x at_p) [
      | inl p_in ↦ elim (j (length s.waiting) (Contains-push s.starts (length s.waiting))) [
        | inl low ↦ absurd (omega (arith, low, slice_get_within s.waiting p x p_in))
        | inr high ↦ absurd (omega (arith, high, q_end.0))
      ]
      | inr p_end ↦ subst (Reaches (Edge R) z) (sym q_end.1 ∙ p_end.1) no_step
    ]
  ]

  long_waiting : length (s.waiting ++ y ∷ []) ≡ length s.waiting + 1
  long_waiting = length_push s.waiting y

  entered_path_in : (p : ℕ) → Contains (s.path ++ length s.waiting ∷ []) p → p < length (s.waiting ++ y ∷ [])
  entered_path_in p h = elim (Contains-push_cases s.path (length s.waiting) p h) [
    | inl old ↦ (let l = so.path_in p old in omega (arith, long_waiting))
    | inr last ↦ omega (arith, last, long_waiting)
  ]

  entered_starts_in : (b : ℕ) → Contains (s.starts ++ length s.waiting ∷ []) b
      → Contains (s.path ++ length s.waiting ∷ []) b
  entered_starts_in b h = elim (Contains-push_cases s.starts (length s.waiting) b h) [
    | inl old ↦ Contains-append_left s.path (length s.waiting ∷ []) b (so.starts_in b old)
    | inr last ↦ subst (Contains (s.path ++ length s.waiting ∷ [])) last (Contains-push s.path (length s.waiting))
  ]

  entered_first : Contains (s.starts ++ length s.waiting ∷ []) 0
  entered_first = elim (cases_lt 0 (length s.waiting)) [
    | inl some ↦ Contains-append_left s.starts (length s.waiting ∷ []) 0 (so.first some)
    | inr none ↦
        (let e : length s.waiting ≡ 0 = omega arith in
        subst (Contains (s.starts ++ length s.waiting ∷ [])) e (Contains-push s.starts (length s.waiting)))
  ]

  pub enters : IsSearch R (entered y s)
  enters = record {
    left_long = so.left_long;
    marks_long = length-set s.marks y (Waiting (length s.waiting)) ∙ so.marks_long;
    met = entered_met;
    waits = entered_waits;
    listed = λ x h. so.listed x (old_done x h);
    fresh = entered_fresh;
    bounded = so.bounded;
    all_followed = entered_all_followed;
    followed = entered_followed;
    path_up = ascending_push s.path (length s.waiting) so.path_up so.path_in;
    path_in = entered_path_in;
    starts_up = ascending_push s.starts (length s.waiting) so.starts_up (λ b h. so.path_in b (so.starts_in b h));
    starts_in = entered_starts_in;
    first = λ some. entered_first;
    onward = entered_onward;
    back = entered_back;
    closed = λ x z h edge. new_done' z (so.closed x z (old_done x h) edge);
    order = so.order;
  }

  -- and an edge to it is thought of
  pub entered_accounted : (p : ℕ) → IsAccounted (entered y s) p y
  entered_accounted p = inr (
    length s.waiting,
    slice_get-append_seam s.waiting y [],
    λ b h. elim (Contains-push_cases s.starts (length s.waiting) b h) [
      | inl old ↦ inl (let l = so.path_in b (so.starts_in b old) in omega arith)
      | inr last ↦ inl (omega (arith, last))
    ],
  )

-- the end of the path leads to a node that waits: all from it on are one part
module _ (R : List (List ℕ)) (s : SearchState) (so : IsSearch R s) (t u : ℕ) (end : IsAtEnd s t u) (at y : ℕ)
    (waits : At s.waiting at y) (edge : Edge R u y)
    (kept : List ℕ) (keeps : KeepsUpTo at s.starts kept) where
  kept_up : IsAscending kept
  kept_up = ascending_front kept keeps.first.0 (subst IsAscending keeps.first.1 so.starts_up)

  kept_in : (b : ℕ) → Contains kept b → Contains s.starts b
  kept_in b h = subst (λ (xs : List ℕ). Contains xs b) (sym keeps.first.1) (Contains-append_left kept keeps.first.0 b h)

  -- a start up to the place is kept
  low_kept : (b : ℕ) → Contains s.starts b → b ≤ at → Contains kept b
  low_kept b h le =
      elim (Contains-append_cases kept keeps.first.0 b (subst (λ (xs : List ℕ). Contains xs b) keeps.first.1 h)) [
        | inl in' ↦ in'
        | inr out ↦ absurd (let l = keeps.first.2 b out in omega arith)
      ]

  kept_low : (b : ℕ) → Contains kept b → b ≤ at
  kept_low b h = by kept kept_up keeps.last h
    where
      from_end : (front : List ℕ) (x : ℕ) → IsAscending (front ++ x ∷ []) → x ≤ at → Contains (front ++ x ∷ []) b
          → b ≤ at
      from_end front x up le g = elim (Contains-push_cases front x b g) [
        | inl before ↦ (let l = ascending_last front x up b before in omega arith)
        | inr same ↦ omega (arith, same)
      ]

      ends : (xs : List ℕ) → Contains xs b → (x : ℕ) × EndsWith xs x
      ends [] g = absurd (omega (arith, g.1))
      ends (x ∷ []) g = (x, ([], refl))
      ends (x ∷ z ∷ xs) g = let r = ends' z xs in (r.0, (x ∷ r.1.0, ap (λ zs. x ∷ zs) r.1.1))
        where
          ends' : (z : ℕ) (xs : List ℕ) → (x : ℕ) × EndsWith (z ∷ xs) x
          ends' z [] = (z, ([], refl))
          ends' z (w ∷ xs) = let r = ends' w xs in (r.0, (z ∷ r.1.0, ap (λ zs. z ∷ zs) r.1.1))

      by : (xs : List ℕ) → IsAscending xs → ((x : ℕ) → EndsWith xs x → x ≤ at) → Contains xs b → b ≤ at
      by xs up last g = let e = ends xs g in from_end e.1.0 e.0 (subst IsAscending e.1.1 up) (last e.0 e.1)
          (subst (λ (zs : List ℕ). Contains zs b) e.1.1 g)

  joined_kept : (p q : ℕ) → AreJoined s.starts p q → AreJoined kept p q
  joined_kept p q j b h = j b (kept_in b h)

  merged_followed : (p x l e z : ℕ) (row : List ℕ) → At s.waiting p x → At s.left x l → At R x row → l ≤ e → At row e z
      → IsAccounted (record s { starts = kept }) p z
  merged_followed p x l e z row h left_at row_at le edge' = elim (so.followed p x l e z row h left_at row_at le edge') [
    | inl done ↦ inl done
    | inr w ↦ inr (w.0, w.1, joined_kept w.0 p w.2)
  ]

  -- the nodes from the place on lead to the one there
  to_place : (q z : ℕ) → At s.waiting q z → Reaches (Edge R) z y
  to_place q z h = one_step_more (to_end R s so t u end q z h) edge

  merged_back : (p q x z : ℕ) → AreJoined kept p q → p ≤ q → At s.waiting p x → At s.waiting q z → Reaches (Edge R) z x
  merged_back p q x z j le at_p at_q = elim (cases_lt at q) [
    | inr low ↦ so.back p q x z
        (λ b h. elim (cases_lt at b) [ inl high ↦ inr (omega arith) | inr in' ↦ j b (low_kept b h in') ]) le at_p at_q
    | inl high ↦ reaches_on (Edge R) z y x (to_place q z at_q) (elim (cases_lt p at) [
      | inr after ↦ so.onward at p y x after waits at_p
      | inl before ↦ so.back p at x y (λ b h. elim (cases_lt at b) [
        | inl over ↦ inr over
        | inr in' ↦ elim (j b (low_kept b h in')) [ inl small ↦ inl small | inr big ↦ absurd (omega arith) ]
      ]) (omega arith) at_p waits
    ])
  ]

  pub merges : IsSearch R (record s { starts = kept })
  merges = record {
    left_long = so.left_long;
    marks_long = so.marks_long;
    met = so.met;
    waits = so.waits;
    listed = so.listed;
    fresh = so.fresh;
    bounded = so.bounded;
    all_followed = so.all_followed;
    followed = merged_followed;
    path_up = so.path_up;
    path_in = so.path_in;
    starts_up = kept_up;
    starts_in = λ b h. so.starts_in b (kept_in b h);
    first = λ some. low_kept 0 (so.first some) (omega arith);
    onward = so.onward;
    back = merged_back;
    closed = so.closed;
    order = so.order;
  }

  pub merged_accounted : (p : ℕ) → IsAccounted (record s { starts = kept }) p y
  merged_accounted p = inr (at, waits, λ b h. inl (kept_low b h))

-- the last edge of a waiting node on the path that isn't followed is thought of
module _ (R : List (List ℕ)) (s : SearchState) (so : IsSearch R s) (t u l y : ℕ) (row : List ℕ)
    (waits : At s.waiting t u) (on : Contains s.path t)
    (left : At s.left u (suc l)) (row_at : At R u row) (edge : At row l y) (thought : IsAccounted s t y) where
  after_followed : (p x k e z : ℕ) (r : List ℕ) → At s.waiting p x → At (set s.left u l) x k → At R x r
      → k ≤ e → At r e z → IsAccounted (record s { left = set s.left u l }) p z
  after_followed p x k e z r h k_at r_at le z_at = elim (get_set_cases s.left u l x k k_at) [
    | inr old ↦ so.followed p x k e z r h old r_at le z_at
    | inl same ↦
        let place : t ≡ p = one_place R s so t p u waits (subst (At s.waiting p) (sym same.0) h) in
        let rows : row ≡ r = get_one R u row r row_at (subst (λ v. At R v r) (sym same.0) r_at) in
        elim (cases_lt l e) [
          | inl more ↦ so.followed p x (suc l) e z r h (subst (λ v. At s.left v (suc l)) same.0 left) r_at
              (omega arith) z_at
          | inr last ↦
              let e_is : l ≡ e = omega (arith, same.1) in
              let z_is : y ≡ z =
              get_one row l y z edge
              (subst (λ (v : List ℕ). At v l z) (sym rows) (subst (λ i. At r i z) (sym e_is) z_at)) in
              subst (λ v. IsAccounted s v z) place (subst (IsAccounted s t) z_is thought)
        ]
  ]

  pub follows : IsSearch R (record s { left = set s.left u l })
  follows = record {
    left_long = length-set s.left u l ∙ so.left_long;
    marks_long = so.marks_long;
    met = so.met;
    waits = so.waits;
    listed = so.listed;
    fresh = λ x r new r_at. get-set_other s.left u x l
        (λ e. waiting_not_new R s so t u waits (subst (λ v. At s.marks v New) e new)) ∙ so.fresh x r new r_at;
    bounded = λ x k r k_at r_at. elim (get_set_cases s.left u l x k k_at) [
      | inr old ↦ so.bounded x k r old r_at
      | inl same ↦ (let b = so.bounded x (suc l) r (subst (λ v. At s.left v (suc l)) same.0 left) r_at in
          omega (arith, same.1))
    ];
    all_followed = λ p x h. elim (so.all_followed p x h) [
      | inl on' ↦ inl on'
      | inr none ↦
          inr (get-set_other s.left u x l
          (λ e. (let bad : suc l ≡ 0 = get_one s.left u (suc l) 0 left (subst (λ v. At s.left v 0) e none) in
          omega (arith, bad))) ∙ none)
    ];
    followed = after_followed;
    path_up = so.path_up;
    path_in = so.path_in;
    starts_up = so.starts_up;
    starts_in = so.starts_in;
    first = so.first;
    onward = so.onward;
    back = so.back;
    closed = so.closed;
    order = so.order;
  }

-- what a step along an edge leaves
pub record Went (R : List (List ℕ)) (s : SearchState) (t u y : ℕ) (mid : SearchState) : Type 0 where
  pub so : IsSearch R mid
  pub accounted : IsAccounted mid t y
  pub left : mid.left ≡ s.left
  pub waits : At mid.waiting t u
  pub on : Contains mid.path t
  pub path : length mid.path ≤ length s.path + 1
  pub met : StaysMet s.marks mid.marks

module _ (R : List (List ℕ)) (s : SearchState) (so : IsSearch R s) (t u : ℕ) (end : IsAtEnd s t u) (l : ℕ)
    (left_at : At s.left u (suc l)) (row : List ℕ) (row_at : At R u row) (y : ℕ) (edge : At row l y) where
  is_edge : Edge R u y
  is_edge = (row, row_at, Contains-from_place row l y edge)

  entered_stays : StaysMet s.marks (set s.marks y (Waiting (length s.waiting)))
  entered_stays x h = elim (get_set_cases s.marks y (Waiting (length s.waiting)) x New h) [
    | inl same ↦ absurd (new_waiting (length s.waiting) (ap (λ (m : Progress). Some m) (sym same.1)))
    | inr old ↦ old
  ]

  went : (mid : SearchState) (m : Progress) → At s.marks y m → GoesTo m y s mid → Went R s t u y mid
  went mid New mark goes = subst (Went R s t u y) (sym goes) (record {
    so = enters R s so y mark (inr (t, u, end, is_edge));
    accounted = entered_accounted R s so y mark (inr (t, u, end, is_edge)) t;
    left = refl;
    waits = slice_get-append s.waiting (y ∷ []) t u end.waits;
    on = Contains-append_left s.path (length s.waiting ∷ []) t (on_path R s so t u end);
    path = omega (arith, length_push s.path (length s.waiting));
    met = entered_stays;
  })
  went mid (Waiting at) mark goes = subst (Went R s t u y) (sym goes.1) (record {
    so = merges R s so t u end at y (so.waits at y mark) is_edge mid.starts goes.0;
    accounted = merged_accounted R s so t u end at y (so.waits at y mark) is_edge mid.starts goes.0 t;
    left = refl;
    waits = end.waits;
    on = on_path R s so t u end;
    path = omega arith;
    met = λ x h. h;
  })
  went mid Done mark goes = subst (Went R s t u y) (sym goes) (record {
    so = so;
    accounted = inl mark;
    left = refl;
    waits = end.waits;
    on = on_path R s so t u end;
    path = omega arith;
    met = λ x h. h;
  })

  module _ (mid : SearchState) (goes : (m : Progress) → At s.marks y m → GoesTo m y s mid)
      (within : y < length s.marks) where
    gone : Went R s t u y mid
    gone = let m = slice_get_some s.marks y within in went mid m.0 m.1 (goes m.0 m.1)

    pub stepped : IsSearch R (record mid { left = set mid.left u l })
    stepped = follows R mid gone.so t u l y row gone.waits gone.on
        (subst (λ (xs : List ℕ). At xs u (suc l)) (sym gone.left) left_at) row_at edge gone.accounted

    pub stepped_met : StaysMet s.marks mid.marks
    stepped_met = gone.met

    pub stepped_less : work (record mid { left = set mid.left u l }) < work s
    stepped_less =
        let e = sum_set mid.left u l (subst (λ (xs : List ℕ). At xs u (suc l)) (sym gone.left) left_at) in
        let f = ap sum gone.left in
        omega (arith, e, f, gone.path)

-- with nothing on the path nothing waits
pub none_waits : (R : List (List ℕ)) (s : SearchState) → IsSearch R s → s.path ≡ [] → s.waiting ≡ []
none_waits R s so empty = by s.waiting (λ some. so.first some)
  where
    by : (xs : List ℕ) → (0 < length xs → Contains s.starts 0) → xs ≡ []
    by [] h = refl
    by (x ∷ xs) h = let in' : Contains [] 0 = subst (λ (ys : List ℕ). Contains ys 0) empty
        (so.starts_in 0 (h (omega arith))) in absurd (omega (arith, in'.1))

-- a node that was met and doesn't wait is done
pub all_listed : (R : List (List ℕ)) (s : SearchState) → IsSearch R s → s.waiting ≡ [] → (x : ℕ) → x < length R
    → ¬ (At s.marks x New) → IsListed s.order x
all_listed R s so empty x l old = let m = slice_get_some s.marks x (omega (arith, so.marks_long)) in by m.0 m.1
  where
    by : (m : Progress) → At s.marks x m → IsListed s.order x
    by New h = absurd (old h)
    by (Waiting p) h = absurd (none_at s.waiting p x empty (so.waits p x h))
    by Done h = so.listed x h

-- nodes that wait have marks
pub waiting_within : (R : List (List ℕ)) (s : SearchState) → IsSearch R s → (p x : ℕ) → At s.waiting p x
    → x < length s.marks
waiting_within R s so p x h = slice_get_within s.marks x (Waiting p) (so.met p x h)

-- a place that isn't the last start is none, where it is the end of the path
pub inner_start : (R : List (List ℕ)) (s : SearchState) (so : IsSearch R s) (t u : ℕ) (end : IsAtEnd s t u)
    → (EndsWith s.starts t → ⊥) → Contains s.starts t → ⊥
inner_start R s so t u end not_last h = not_last (by s.starts so.starts_up (λ b g. starts_below R s so t u end b g) h)
  where
    by : (xs : List ℕ) → IsAscending xs → ((b : ℕ) → Contains xs b → b ≤ t) → Contains xs t → EndsWith xs t
    by xs up low g =
        let at = place_from_Contains xs t g in
        elim (cases_lt (at.0 + 1) (length xs)) [
          | inl more ↦ absurd (let next = slice_get_some xs (at.0 + 1) more in
              let l = up at.0 (at.0 + 1) t next.0 (omega arith) at.1 next.1 in
              let m = low next.0 (Contains-from_place xs (at.0 + 1) next.0 next.1) in omega (arith, l, m))
          | inr end' ↦ (let e : at.0 ≡ length xs - 1 = omega (arith, slice_get_within xs at.0 t at.1) in
              split_last xs t (subst (λ i. At xs i t) e at.1))
        ]

pub closed_within : (c : Bool) (old s : SearchState) → Closes (length s.waiting) c old s
    → ((p x : ℕ) → At old.waiting p x → x < length old.marks) → (p x : ℕ) → At s.waiting p x → x < length s.marks
closed_within c old s so within p x h =
    let w = get-take old.waiting (length s.waiting) p x (subst (λ (xs : List ℕ). At xs p x) so.waiting h) in
    omega (arith, within p x w.1, so.marks_long)

-- the end of the path waits
pub place_waits : (R : List (List ℕ)) (s : SearchState) → IsSearch R s → (t : ℕ) → EndsWith s.path t
    → t < length s.waiting
place_waits R s so t end = so.path_in t (subst (λ (xs : List ℕ). Contains xs t) (sym end.1) (Contains-push end.0 t))

-- what a step reads: the node at the end of the path, how many of its edges are left, its row, and the next of its
-- edges
module _ (rows : List (Vec ℕ Global)) (s : SearchState) (so : IsSearch (rows_of rows) s)
    (within : AreWithin (rows_of rows)) (t : ℕ) (end : EndsWith s.path t)
    (u : ℕ) (u_is : u ≡ get_or s.waiting t u) where
  pub node_waits : At s.waiting t u
  node_waits = slice_get_read s.waiting (length s.waiting) t u refl (place_waits (rows_of rows) s so t end) u_is

  pub node_end : IsAtEnd s t u
  node_end = record { last = end; waits = node_waits }

  pub node_rows : u < length rows
  node_rows = let l = waiting_within (rows_of rows) s so t u node_waits in
      omega (arith, l, so.marks_long, length-map rows (λ (row : Vec ℕ Global). row.items))

  pub node_left : u < length s.left
  node_left = omega (arith, node_rows, so.left_long, length-map rows (λ (row : Vec ℕ Global). row.items))

  module _ (n : ℕ) (n_is : n ≡ get_or s.left u n) where
    pub left_is : At s.left u n
    left_is = slice_get_read s.left (length s.left) u n refl node_left n_is

    module _ (row : Vec ℕ Global) (row_is : row ≡ get_or rows u row) where
      pub row_stands : At (rows_of rows) u row.items
      row_stands = row_at rows u row node_rows row_is

      pub left_within : n ≤ length row.items
      left_within = so.bounded u n row.items left_is row_stands

      module _ (some : n ≢ 0) (y : ℕ) (y_is : y ≡ get_or row.items (n - 1) y) where
        edge_is : At row.items (n - 1) y
        edge_is = slice_get_read row.items (length row.items) (n - 1) y refl (omega (arith, left_within)) y_is

        pub edge_within : y < length s.marks
        edge_within = (let l = within u y (row.items, row_stands, Contains-from_place row.items (n - 1) y edge_is) in
            omega (arith, l, so.marks_long))

        left_one : At s.left u (suc (n - 1))
        left_one = (let e : n ≡ suc (n - 1) = omega arith in subst (At s.left u) e left_is)

        module _ (mid : SearchState) (goes : (m : Progress) → At s.marks y m → GoesTo m y s mid) where
          pub step_search : IsSearch (rows_of rows) (record mid { left = set mid.left u (n - 1) })
          step_search = stepped (rows_of rows) s so t u node_end (n - 1) left_one row.items row_stands y edge_is mid
              goes edge_within

          pub step_met : StaysMet s.marks mid.marks
          step_met = stepped_met (rows_of rows) s so t u node_end (n - 1) left_one row.items row_stands y edge_is mid
              goes edge_within

          pub step_less : work (record mid { left = set mid.left u (n - 1) }) < work s
          step_less = stepped_less (rows_of rows) s so t u node_end (n - 1) left_one row.items row_stands y edge_is mid
              goes edge_within

          pub step_left : u < length mid.left
          step_left = omega (
            arith,
            node_left,
            ap length (gone (rows_of rows) s so t u node_end (n - 1) left_one row.items row_stands y edge_is mid goes
                edge_within).left,
          )

-- a mark that is made leaves no new node
pub set_stays : (ms : List Progress) (y p : ℕ) → StaysMet ms (set ms y (Waiting p))
set_stays ms y p x h = elim (get_set_cases ms y (Waiting p) x New h) [
  | inl same ↦ absurd (new_waiting p (ap (λ (m : Progress). Some m) (sym same.1)))
  | inr old ↦ old
]

pub set_not_new : (ms : List Progress) (y p : ℕ) → y < length ms → At (set ms y (Waiting p)) y New → ⊥
set_not_new ms y p l h = new_waiting p (sym h ∙ get-set_same ms y (Waiting p) l)
