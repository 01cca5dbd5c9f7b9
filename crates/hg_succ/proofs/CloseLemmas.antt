-- What is so when a node is left, and when a part is closed.
use Rattle.std.proofs.Common.{◌≡◌, ◌≢◌, ℕ, ◌+◌, ◌<◌, ◌≤◌, Bool, true, false, IsTrue, List, [], ◌∷◌, ◌++◌, length, take}
use Rattle.std.proofs.Common.{set, Some, Contains, ◌⊎◌, ◌↔◌, inl, inr, refl, sym, ap, subst, ◌∙◌, arith, slice_get}
use Rattle.std.proofs.Common.{length-append, length-set, true≢false}
use Rattle.std.proofs.lemmas.Bool.{cases_lt}
use Rattle.std.proofs.lemmas.List.{length_push, length-take-le, take_all, take_at, take-take, append-nil, append_assoc}
use Rattle.std.proofs.lemmas.Option.{slice_get_within, none-some}
use Rattle.std.proofs.lemmas.List.Elements.{Contains-append_left, Contains-push, Contains-push_cases}
use Rattle.hg_succ.specs.declared.search.Progress.{Progress}
use Rattle.hg_succ.specs.declared.search.Progress.TheVariants.{New, Waiting, Done}
use Rattle.hg_succ.specs.declared.search.Closed.{Closed}
use Rattle.hg_succ.specs.Steps.{Reaches, LeadsBack}
use Rattle.hg_succ.specs.Steps.Reaches.{no_step}
use Rattle.hg_succ.specs.Rows.{At, Edge, IsOrder, StandsBefore}
use Rattle.hg_succ.specs.Search.{SearchState, IsAscending, AreJoined, IsListed, IsSearch, IsAtEnd, Closes, ClosesLast}
use Rattle.hg_succ.specs.Search.{IsCyclicPart}
use Rattle.hg_graph.proofs.MarkLemmas.{get-set_same, get-set_other}
use Rattle.hg_succ.proofs.ListLemmas.{get_one, get_append_cases, get_set_cases, get_set_keeps, ascending_front}
use Rattle.hg_succ.proofs.ListLemmas.{ascending_last}
use Rattle.hg_changeset.proofs.ListLemmas.{slice_get-append, slice_get-append_seam, slice_get-push_cases}
use Rattle.hg_changeset.proofs.ListLemmas.{slice_get-take, slice_get_some}
use Rattle.hg_graph.proofs.GraphLemmas.{get-take, place_from_Contains}
use Rattle.hg_succ.proofs.SearchLemmas.{new_done, waiting_done, reaches_on, first_step, stays_within, one_place}
use Rattle.hg_succ.proofs.SearchLemmas.{waiting_not_done, path_below, starts_below}

-- the end of the path is left, and no part begins there
module _ (R : List (List ℕ)) (s : SearchState) (so : IsSearch R s) (t u : ℕ) (end : IsAtEnd s t u)
    (none : At s.left u 0) (inner : ¬ (Contains s.starts t)) where
  pub leaves : IsSearch R (record s { path = end.last.0 })
  leaves = record {
    left_long = so.left_long;
    marks_long = so.marks_long;
    met = so.met;
    waits = so.waits;
    listed = so.listed;
    fresh = so.fresh;
    bounded = so.bounded;
    all_followed = λ p x h. elim (so.all_followed p x h) [
      | inr all ↦ inr all
      | inl on ↦ elim (Contains-push_cases end.last.0 t p (subst (λ (xs : List ℕ). Contains xs p) end.last.1 on)) [
        | inl before ↦ inl before
        | inr same ↦
            inr (subst (λ v. At s.left v 0)
            (get_one s.waiting p u x (subst (λ k. At s.waiting k u) same end.waits) h) none)
      ]
    ];
    followed = so.followed;
    path_up = ascending_front end.last.0 (t ∷ []) (subst IsAscending end.last.1 so.path_up);
    path_in = λ p h. so.path_in p
        (subst (λ (xs : List ℕ). Contains xs p) (sym end.last.1) (Contains-append_left end.last.0 (t ∷ []) p h));
    starts_up = so.starts_up;
    starts_in = λ b h.
        elim (Contains-push_cases end.last.0 t b
        (subst (λ (xs : List ℕ). Contains xs b) end.last.1 (so.starts_in b h))) [
          | inl before ↦ before
          | inr same ↦ absurd (inner (subst (Contains s.starts) (sym same) h))
        ];
    first = so.first;
    onward = so.onward;
    back = so.back;
    closed = so.closed;
    order = so.order;
  }

-- the end of the path is left, and the last part, which begins there, is closed
module _ (R : List (List ℕ)) (s : SearchState) (so : IsSearch R s) (t u : ℕ) (end : IsAtEnd s t u)
    (none : At s.left u 0)
    (front : List ℕ) (starts_are : s.starts ≡ front ++ t ∷ []) (c : Bool)
    (c_is : IsTrue c ↔ IsCyclicPart R s.waiting t u)
    (new : SearchState) (st : Closes t c (record s { path = end.last.0; starts = front }) new) where
  t_within : t < length s.waiting
  t_within = slice_get_within s.waiting t u end.waits

  t_starts : Contains s.starts t
  t_starts = subst (λ (xs : List ℕ). Contains xs t) (sym starts_are) (Contains-push front t)

  keeps_done : (x : ℕ) → At s.marks x Done → At new.marks x Done
  keeps_done x h = st.others x (λ p le w. waiting_not_done R s so p x w h) ∙ h

  in_part : (p q x z : ℕ) → t ≤ p → t ≤ q → At s.waiting p x → At s.waiting q z → Reaches (Edge R) x z
  in_part p q x z le lf at_p at_q = elim (cases_lt q p) [
    | inr later ↦ so.onward p q x z later at_p at_q
    | inl before ↦ so.back q p z x (λ b h. inl (let l = starts_below R s so t u end b h in omega arith)) (omega arith)
        at_q at_p
  ]

  -- isnt edge is left to follow in the part
  part_all_followed : (p x : ℕ) → t ≤ p → At s.waiting p x → At s.left x 0
  part_all_followed p x le h = elim (so.all_followed p x h) [
    | inr all ↦ all
    | inl on ↦ (let l = path_below R s so t u end p on in let same : t ≡ p = omega arith in
        subst (λ v. At s.left v 0) (get_one s.waiting p u x (subst (λ k. At s.waiting k u) same end.waits) h) none)
  ]

  -- an edge from the part leads to what is closed, or stays in it
  part_edge : (p x y : ℕ) → t ≤ p → At s.waiting p x → Edge R x y
      → At s.marks y Done ⊎ ((q : ℕ) × (t ≤ q) × At s.waiting q y)
  part_edge p x y le h edge =
      let e = place_from_Contains edge.0 y edge.2 in
      elim (so.followed p x 0 e.0 y edge.0 h (part_all_followed p x le h) edge.1 (omega arith) e.1) [
        | inl done ↦ inl done
        | inr w ↦ elim (w.2 t t_starts) [ inl later ↦ inr (w.0, later, w.1) | inr before ↦ absurd (omega arith) ]
      ]

  -- where the part is one node, its edges lead to what is closed, or to itself
  alone_edge : (p x y : ℕ) → length s.waiting ≤ t + 1 → t ≤ p → At s.waiting p x → Edge R x y
      → At s.marks y Done ⊎ Edge R u u
  alone_edge p x y short le h edge = elim (part_edge p x y le h edge) [
    | inl done ↦ inl done
    | inr w ↦
        let p_is : t ≡ p = omega (arith, slice_get_within s.waiting p x h) in
        let q_is : t ≡ w.0 = omega (arith, w.1, slice_get_within s.waiting w.0 y w.2) in
        let x_is : u ≡ x = get_one s.waiting p u x (subst (λ k. At s.waiting k u) p_is end.waits) h in
        let y_is : u ≡ y = get_one s.waiting w.0 u y (subst (λ k. At s.waiting k u) q_is end.waits) w.2 in
        inr (subst (Edge R u) (sym y_is) (subst (λ v. Edge R v y) (sym x_is) edge))
  ]

  -- the other node of a part of several
  back_by : (p q x z : ℕ) → p ≢ q → t ≤ p → t ≤ q → At s.waiting p x → At s.waiting q z → LeadsBack (Edge R) x
  back_by p q x z apart le lf at_p at_q = elim (first_step (Edge R) x z (in_part p q x z le lf at_p at_q)) [
    | inl same ↦ absurd (apart (one_place R s so p q x at_p (subst (At s.waiting q) (sym same) at_q)))
    | inr f ↦ (f.0, f.1, reaches_on (Edge R) f.0 z x f.2 (in_part q p z x lf le at_q at_p))
  ]

  several_back : (p x : ℕ) → t + 1 < length s.waiting → t ≤ p → At s.waiting p x → LeadsBack (Edge R) x
  several_back p x long le h = elim (cases_lt t p) [
    | inl later ↦ back_by p t x u (λ e. omega arith) le (omega arith) h end.waits
    | inr same ↦ (let other = slice_get_some s.waiting (t + 1) long in
        back_by p (t + 1) x other.0 (λ e. omega arith) le (omega arith) h other.1)
  ]

  part_back : (p x : ℕ) → t ≤ p → At s.waiting p x → IsTrue c → LeadsBack (Edge R) x
  part_back p x le h is_so = elim (cases_lt (t + 1) (length s.waiting)) [
    | inl long ↦ several_back p x long le h
    | inr short ↦ elim (c_is.0 is_so) [
      | inl long ↦ absurd (omega arith)
      | inr edge ↦
          let p_is : t ≡ p = omega (arith, slice_get_within s.waiting p x h) in
          let x_is : u ≡ x = get_one s.waiting p u x (subst (λ k. At s.waiting k u) p_is end.waits) h in
          subst (LeadsBack (Edge R)) x_is (u, edge, no_step)
    ]
  ]

  back_part : (p x : ℕ) → t ≤ p → At s.waiting p x → LeadsBack (Edge R) x → IsTrue c
  back_part p x le h leads = elim (cases_lt (t + 1) (length s.waiting)) [
    | inl long ↦ c_is.1 (inl long)
    | inr short ↦ elim (alone_edge p x leads.0 short le h leads.1) [
      | inl done ↦
          absurd (waiting_not_done R s so p x h
          (stays_within (Edge R) (λ v. At s.marks v Done) so.closed leads.0 x done leads.2))
      | inr edge ↦ c_is.1 (inr edge)
    ]
  ]

  part_after : (p x y : ℕ) → t ≤ p → At s.waiting p x → c ≡ false → Edge R x y → At s.marks y Done
  part_after p x y le h isnt edge = elim (cases_lt (t + 1) (length s.waiting)) [
    | inl long ↦ (let is_so : c ≡ true = c_is.1 (inl long) in absurd (true≢false (sym is_so ∙ isnt)))
    | inr short ↦ elim (alone_edge p x y short le h edge) [
      | inl done ↦ done
      | inr loop ↦ (let is_so : c ≡ true = c_is.1 (inr loop) in absurd (true≢false (sym is_so ∙ isnt)))
    ]
  ]

  longer : (k k' x : ℕ) → k ≤ k' → StandsBefore s.order k x → StandsBefore (s.order ++ st.more.0) k' x
  longer k k' x le h = (h.0, h.1, omega (arith, h.2), slice_get-append s.order st.more.0 h.0 h.1 h.3, h.4)

  after_order : IsOrder R (s.order ++ st.more.0)
  after_order = record {
    nodes = λ k e h. elim (get_append_cases s.order st.more.0 k e h) [
      | inl old ↦ so.order.nodes k e old
      | inr more ↦
          (let w = st.more.2 more.0 e more.2 in
          omega (arith, so.marks_long, slice_get_within s.marks e.node (Waiting w.1) (so.met w.1 e.node w.3)))
    ];
    cyclic = λ k e h. elim (get_append_cases s.order st.more.0 k e h) [
      | inl old ↦ so.order.cyclic k e old
      | inr more ↦
          (let w = st.more.2 more.0 e more.2 in (
            (λ is_so. part_back w.1 e.node w.2 w.3 (sym w.0 ∙ is_so)),
            (λ leads. w.0 ∙ back_part w.1 e.node w.2 w.3 leads),
          ))
    ];
    after = λ k e y h isnt edge. elim (get_append_cases s.order st.more.0 k e h) [
      | inl old ↦ longer k k y (omega arith) (so.order.after k e y old isnt edge)
      | inr more ↦
          (let w = st.more.2 more.0 e more.2 in
          longer (length s.order) k y (omega (arith, more.1))
          (so.listed y (part_after w.1 e.node y w.2 w.3 (sym w.0 ∙ isnt) edge)))
    ];
  }

  short_waiting : length (take t s.waiting) ≡ t
  short_waiting = length-take-le t s.waiting (omega (arith, t_within))

  not_end : (b : ℕ) → b < t → Contains s.path b → Contains end.last.0 b
  not_end b l h = elim (Contains-push_cases end.last.0 t b (subst (λ (xs : List ℕ). Contains xs b) end.last.1 h))
      [ inl before ↦ before | inr same ↦ absurd (omega (arith, same)) ]

  front_below : (b : ℕ) → Contains front b → b < t
  front_below b h = ascending_last front t (subst IsAscending starts_are so.starts_up) b h

  front_start : (b : ℕ) → Contains front b → Contains s.starts b
  front_start b h = subst (λ (xs : List ℕ). Contains xs b) (sym starts_are) (Contains-append_left front (t ∷ []) b h)

  after_listed : (x : ℕ) → At new.marks x Done → IsListed (s.order ++ st.more.0) x
  after_listed x h = elim (st.from x Done h) [
    | inl part ↦ subst (λ (o : List Closed). IsListed o x) st.more.1 (st.listed part.1 x part.2 part.3)
    | inr old ↦ longer (length s.order) (length (s.order ++ st.more.0)) x
        (omega (arith, length-append s.order st.more.0)) (so.listed x old)
  ]

  after_met : (p x : ℕ) → At (take t s.waiting) p x → At new.marks x (Waiting p)
  after_met p x h =
      let w = get-take s.waiting t p x h in
      st.others x (λ q le g. (let same = one_place R s so p q x w.1 g in omega (arith, w.0))) ∙ so.met p x w.1

  after_waits : (p x : ℕ) → At new.marks x (Waiting p) → At (take t s.waiting) p x
  after_waits p x h = elim (st.from x (Waiting p) h) [
    | inl part ↦ absurd (let e = part.0 in waiting_done p (ap (λ (m : Progress). Some m) e))
    | inr old ↦ elim (cases_lt p t) [
      | inl before ↦ slice_get-take s.waiting t p x before (so.waits p x old)
      | inr after ↦ absurd (waiting_done p (sym h ∙ st.done p x after (so.waits p x old)))
    ]
  ]

  after_fresh : (x : ℕ) → At new.marks x New → At s.marks x New
  after_fresh x h =
      elim (st.from x New h) [ inl part ↦ absurd (new_done (ap (λ (m : Progress). Some m) part.0)) | inr old ↦ old ]

  after_all_followed : (p x : ℕ) → At (take t s.waiting) p x → Contains end.last.0 p ⊎ At s.left x 0
  after_all_followed p x h =
      let w = get-take s.waiting t p x h in
      elim (so.all_followed p x w.1) [ inl on ↦ inl (not_end p w.0 on) | inr all ↦ inr all ]

  after_followed : (p x l e y : ℕ) (row : List ℕ) → At (take t s.waiting) p x → At s.left x l → At R x row
      → l ≤ e → At row e y
      → At new.marks y Done ⊎ ((q : ℕ) × At (take t s.waiting) q y × AreJoined front q p)
  after_followed p x l e y row h l_at r_at le y_at =
      let w = get-take s.waiting t p x h in
      elim (so.followed p x l e y row w.1 l_at r_at le y_at) [
        | inl done ↦ inl (keeps_done y done)
        | inr g ↦ elim (cases_lt g.0 t) [
          | inl before ↦ inr (g.0, slice_get-take s.waiting t g.0 y before g.1, λ b i. g.2 b (front_start b i))
          | inr after ↦ inl (st.done g.0 y after g.1)
        ]
      ]

  after_back : (p q x y : ℕ) → AreJoined front p q → p ≤ q → At (take t s.waiting) p x → At (take t s.waiting) q y
      → Reaches (Edge R) y x
  after_back p q x y j le at_p at_q =
      let v = get-take s.waiting t p x at_p in
      let w = get-take s.waiting t q y at_q in
      so.back p q x y (λ b h. elim (Contains-push_cases front t b (subst (λ (xs : List ℕ). Contains xs b) starts_are h))
      [ inl before ↦ j b before | inr same ↦ inr (omega (arith, same, w.0)) ]) le v.1 w.1

  after_closed : (x y : ℕ) → At new.marks x Done → Edge R x y → At new.marks y Done
  after_closed x y h edge = elim (st.from x Done h) [
    | inr old ↦ keeps_done y (so.closed x y old edge)
    | inl part ↦ elim (part_edge part.1 x y part.2 part.3 edge)
        [ inl done ↦ keeps_done y done | inr w ↦ st.done w.0 y w.1 w.2 ]
  ]

  closes_so : IsSearch R
      (record {
        left = s.left;
        marks = new.marks;
        waiting = take t s.waiting;
        path = end.last.0;
        starts = front;
        order =
            s.order ++ st.more.0;
      })
  closes_so = record {
    left_long = so.left_long;
    marks_long = st.marks_long ∙ so.marks_long;
    met = after_met;
    waits = after_waits;
    listed = after_listed;
    fresh = λ x row h r. so.fresh x row (after_fresh x h) r;
    bounded = so.bounded;
    all_followed = after_all_followed;
    followed = after_followed;
    path_up = ascending_front end.last.0 (t ∷ []) (subst IsAscending end.last.1 so.path_up);
    path_in = λ p h. (let l = ascending_last end.last.0 t (subst IsAscending end.last.1 so.path_up) p h in
        omega (arith, short_waiting));
    starts_up = ascending_front front (t ∷ []) (subst IsAscending starts_are so.starts_up);
    starts_in = λ b h. not_end b (front_below b h) (so.starts_in b (front_start b h));
    first = λ some.
        elim (Contains-push_cases front t 0
        (subst (λ (xs : List ℕ). Contains xs 0) starts_are (so.first (omega (arith, t_within))))) [
          | inl before ↦ before
          | inr same ↦ absurd (omega (arith, same, some, short_waiting))
        ];
    onward = λ p q x y le at_p at_q. so.onward p q x y le (get-take s.waiting t p x at_p).1
        (get-take s.waiting t q y at_q).1;
    back = after_back;
    closed = after_closed;
    order = after_order;
  }

  new_is : new ≡ record {
    left = s.left;
    marks = new.marks;
    waiting = take t s.waiting;
    path = end.last.0;
    starts = front;
    order = s.order ++ st.more.0;
  }
  new_is i = record {
    left = st.left i;
    marks = new.marks;
    waiting = st.waiting i;
    path = st.path i;
    starts = st.starts i;
    order = st.more.1 i;
  }

  pub closes : IsSearch R new
  closes = subst (IsSearch R) (sym new_is) closes_so

-- closing one by one, from the last
pub closes_none : (c : Bool) (s : SearchState) → Closes (length s.waiting) c s s
closes_none c s = record {
  left = refl;
  waiting = sym (take_all (length s.waiting) s.waiting (omega arith));
  path = refl;
  starts = refl;
  marks_long = refl;
  done = λ p x le h. absurd (omega (arith, slice_get_within s.waiting p x h));
  others = λ x isnt. refl;
  from = λ x m h. inr h;
  more = ([], sym (append-nil s.order), λ k e h. absurd (none-some e h));
  listed = λ p x le h. absurd (omega (arith, slice_get_within s.waiting p x h));
}

module _ (c : Bool) (old s new : SearchState) (so : Closes (length s.waiting) c old s) (last : ClosesLast c s new)
    (within : last.node < length s.marks) where
  longer_waiting : length s.waiting ≡ length new.waiting + 1
  longer_waiting = ap length last.waiting ∙ length_push new.waiting last.node

  shorter_waiting : new.waiting ≡ take (length new.waiting) old.waiting
  shorter_waiting =
      sym (take_at new.waiting (last.node ∷ []) (length new.waiting) refl)
      ∙ ap (take (length new.waiting)) (sym last.waiting ∙ so.waiting)
      ∙ take-take (length new.waiting) (length s.waiting) old.waiting (omega (arith, longer_waiting))

  last_at : At old.waiting (length new.waiting) last.node
  last_at = (get-take old.waiting (length s.waiting) (length new.waiting) last.node
      (subst (λ (xs : List ℕ). At xs (length new.waiting) last.node) (sym last.waiting ∙ so.waiting)
      (slice_get-append_seam new.waiting last.node []))).1

  more_done : (p x : ℕ) → length new.waiting ≤ p → At old.waiting p x → At new.marks x Done
  more_done p x le h = subst (λ (ms : List Progress). At ms x Done) (sym last.marks)
      (elim (cases_lt (length new.waiting) p) [
        | inl later ↦ get_set_keeps s.marks last.node Done x (so.done p x (omega (arith, longer_waiting)) h)
        | inr same ↦
            let e : length new.waiting ≡ p = omega arith in
            let x_is : last.node ≡ x = get_one old.waiting p last.node x
            (subst (λ k. At old.waiting k last.node) e last_at) h in
            subst (λ v. At (set s.marks last.node Done) v Done) x_is (get-set_same s.marks last.node Done within)
      ])

  more_others : (x : ℕ) → ((p : ℕ) → length new.waiting ≤ p → ¬ (At old.waiting p x))
      → slice_get new.marks x ≡ slice_get old.marks x
  more_others x isnt =
      ap (λ (ms : List Progress). slice_get ms x) last.marks
      ∙ get-set_other s.marks last.node x Done
      (λ e. isnt (length new.waiting) (omega arith) (subst (At old.waiting (length new.waiting)) (sym e) last_at))
      ∙ so.others x (λ p le h. isnt p (omega (arith, longer_waiting)) h)

  more_from : (x : ℕ) (m : Progress) → At new.marks x m
      → ((m ≡ Done) × (p : ℕ) × (length new.waiting ≤ p) × At old.waiting p x) ⊎ At old.marks x m
  more_from x m h =
      elim (get_set_cases s.marks last.node Done x m (subst (λ (ms : List Progress). At ms x m) last.marks h)) [
        | inl same ↦
            inl (
              sym same.1,
              length new.waiting,
              omega arith,
              subst (At old.waiting (length new.waiting)) same.0
                  last_at,
            )
        | inr before ↦ elim (so.from x m before)
            [ inl part ↦ inl (part.0, part.1, omega (arith, part.2, longer_waiting), part.3) | inr first ↦ inr first ]
      ]

  order_is : new.order ≡ old.order ++ (so.more.0 ++ record { node = last.node; cyclic = c } ∷ [])
  order_is = last.order ∙ ap (λ (o : List Closed). o ++ record { node = last.node; cyclic = c } ∷ []) so.more.1
      ∙ append_assoc old.order so.more.0 (record { node = last.node; cyclic = c } ∷ [])

  more_entries : (k : ℕ) (e : Closed) → At (so.more.0 ++ record { node = last.node; cyclic = c } ∷ []) k e
      → (e.cyclic ≡ c) × (p : ℕ) × (length new.waiting ≤ p) × At old.waiting p e.node
  more_entries k e h = elim (slice_get-push_cases so.more.0 (record { node = last.node; cyclic = c }) k e h) [
    | inl before ↦ (let w = so.more.2 k e before in (w.0, w.1, omega (arith, w.2, longer_waiting), w.3))
    | inr at ↦ (
      ap (λ (d : Closed). d.cyclic) (sym at.1),
      length new.waiting,
      omega arith,
      subst (λ (d : Closed). At old.waiting (length new.waiting) d.node) at.1 last_at,
    )
  ]

  longer_order : length new.order ≡ length s.order + 1
  longer_order = ap length last.order ∙ length_push s.order (record { node = last.node; cyclic = c })

  more_listed : (p x : ℕ) → length new.waiting ≤ p → At old.waiting p x → IsListed new.order x
  more_listed p x le h = elim (cases_lt (length new.waiting) p) [
    | inl later ↦
        let b = so.listed p x (omega (arith, longer_waiting)) h in (
          b.0,
          b.1,
          omega (arith, b.2, longer_order),
          subst (λ (o : List Closed). At o b.0 b.1) (sym last.order)
              (slice_get-append s.order (record { node = last.node; cyclic = c } ∷ []) b.0 b.1 b.3),
          b.4,
        )
    | inr same ↦
        let e : length new.waiting ≡ p = omega arith in (
          length s.order,
          record { node = last.node; cyclic = c },
          omega (arith, longer_order),
          subst (λ (o : List Closed). At o (length s.order) (record { node = last.node; cyclic = c })) (sym last.order)
              (slice_get-append_seam s.order (record { node = last.node; cyclic = c }) []),
          get_one old.waiting p last.node x (subst (λ k. At old.waiting k last.node) e last_at) h,
        )
  ]

  pub closes_more : Closes (length new.waiting) c old new
  closes_more = record {
    left = last.left ∙ so.left;
    waiting = shorter_waiting;
    path = last.path ∙ so.path;
    starts = last.starts ∙ so.starts;
    marks_long = ap length last.marks ∙ length-set s.marks last.node Done ∙ so.marks_long;
    done = more_done;
    others = more_others;
    from = more_from;
    more = (so.more.0 ++ record { node = last.node; cyclic = c } ∷ [], order_is, more_entries);
    listed = more_listed;
  }
