-- What a log tells: the nodes whose phase went down, each once.
use Rattle.std.proofs.Common.{◌≡◌, ℕ, suc, ◌<◌, Bool, true, false, nat_lt, cond, List, [], ◌∷◌, ◌++◌, take, slice_get}
use Rattle.std.proofs.Common.{Option, Some, None, Contains, ◌⊎◌, inl, inr, refl, sym, ap, subst, ◌∙◌, arith}
use Rattle.std.specs.List.{IsDistinct, AllByRecursion, flat_map}
use Rattle.std.specs.Option.{option_to_list}
use Rattle.std.proofs.lemmas.Bool.{ltb-true, lt-ltb}
use Rattle.std.proofs.lemmas.List.{length-map}
use Rattle.std.proofs.lemmas.List.Elements.{Contains-append_left, Contains-append_right, Contains-append_cases}
use Rattle.std.proofs.lemmas.Map.Keys.{IsDistinct-cons}
use Rattle.std.proofs.lemmas.Option.{same_Some, slice_get_within}
use Rattle.hg_changeset.specs.declared.node.Node.{Node}
use Rattle.hg_changeset.specs.Node.{node_eq}
use Rattle.hg_changeset.specs.Contents.{Contents}
use Rattle.hg_changeset.specs.Changeset.{node_of}
use Rattle.hg_changeset.proofs.NodeLemmas.{same_node}
use Rattle.hg_changeset.proofs.ListLemmas.{slice_get_some, slice_get-take, Contains-one}
use Rattle.hg_graph.specs.Graph.{IsGraph, nodes}
use Rattle.hg_graph.proofs.GraphLemmas.{Contains-from_place, place_from_Contains}
use Rattle.hg_graph.proofs.MarkLemmas.{same_place, IsAt-from, get-take}
use Rattle.hg_phases.specs.declared.phase.Phase.{Phase}
use Rattle.hg_phases.specs.declared.lowered.LoweredPlace.{LoweredPlace}
use Rattle.hg_phases.specs.State.{Held, rank, state_of}
use Rattle.hg_phases.specs.Log.{IsLog, node_before}
use Rattle.hg_phases.specs.Lowered.{WentDown, ListsLowered}
use Rattle.hg_phases.proofs.PlaceLemmas.{held-at, parts-at}

pub each_place : {X : Type 0} (P : X → Type 0) (xs : List X) → ((x : X) → Contains xs x → P x) → AllByRecursion P xs
each_place P [] h = tt
each_place P (x ∷ xs) h =
    (h x (0, omega arith, refl), each_place P xs (λ y at. h y (Contains-append_right (x ∷ []) xs y at)))

-- no place is logged twice
abbrev IsOnce : List LoweredPlace → Type 0
IsOnce log = (i j : ℕ) (e f : LoweredPlace) → slice_get log i ≡ Some e → slice_get log j ≡ Some f → e.place ≡ f.place
    → i ≡ j

module _ (ns : List Node) (before : ℕ) where
  abbrev listed : List LoweredPlace → List Node
  listed log = flat_map (node_before ns before) log

  -- the node of an entry, or none
  one_node : (e : LoweredPlace) (n : Node) → e.place < before → slice_get ns e.place ≡ Some n
      → node_before ns before e ≡ n ∷ []
  one_node e n l at = (λ t. cond (lt-ltb e.place before l t) (option_to_list (at t)) [])

  shape : (e : LoweredPlace) → (node_before ns before e ≡ [])
      ⊎ ((n : Node) × (e.place < before) × (slice_get ns e.place ≡ Some n))
  shape e = by (nat_lt e.place before) refl (slice_get ns e.place) refl
    where
      by : (b : Bool) → nat_lt e.place before ≡ b → (o : Option Node) → slice_get ns e.place ≡ o
          → (node_before ns before e ≡ []) ⊎ ((n : Node) × (e.place < before) × (slice_get ns e.place ≡ Some n))
      by false b_is o o_is = inl (λ t. cond (b_is t) (option_to_list (slice_get ns e.place)) [])
      by true b_is None o_is = inl (λ t. cond (b_is t) (option_to_list (o_is t)) [])
      by true b_is (Some n) o_is = inr (n, ltb-true e.place before b_is, o_is)

  listed_from : (log : List LoweredPlace) (n : Node) → Contains (listed log) n
      → (e : LoweredPlace) × Contains log e × (e.place < before) × (slice_get ns e.place ≡ Some n)
  listed_from [] n h = absurd (omega (arith, h.1))
  listed_from (e ∷ log) n h = elim (Contains-append_cases (node_before ns before e) (listed log) n h) [
    | inr x ↦ let f = listed_from log n x in (f.0, Contains-append_right (e ∷ []) log f.0 f.1, f.2, f.3)
    | inl x ↦ elim (shape e) [
      | inl none ↦ absurd (let y = subst (λ ms. Contains ms n) none x in omega (arith, y.1))
      | inr one ↦
          let n_is = Contains-one one.0 n (subst (λ ms. Contains ms n) (one_node e one.0 one.1 one.2) x) in
          (e, (0, omega arith, refl), one.1, one.2 ∙ ap (λ m. Some m) n_is)
    ]
  ]

  listed_of : (log : List LoweredPlace) (e : LoweredPlace) (n : Node) → Contains log e → e.place < before
      → slice_get ns e.place ≡ Some n → Contains (listed log) n
  listed_of [] e n h l at = absurd (omega (arith, h.1))
  listed_of (f ∷ log) e n h l at = elim (Contains-append_cases (f ∷ []) log e h) [
    | inl x ↦
        let e_is = Contains-one f e x in
        Contains-append_left (node_before ns before f) (listed log) n
        (subst (λ g. Contains (node_before ns before g) n) (sym e_is)
        (subst (λ ms. Contains ms n) (sym (one_node e n l at)) (0, omega arith, refl)))
    | inr x ↦ Contains-append_right (node_before ns before f) (listed log) n (listed_of log e n x l at)
  ]

  listed-once : IsDistinct node_eq ns → (log : List LoweredPlace) → IsOnce log → IsDistinct node_eq (listed log)
  unfolding IsDistinct
  listed-once distinct [] once = tt
  listed-once distinct (e ∷ log) once =
      let rest = listed-once distinct log (λ i j f g at_f at_g same. let z = once (suc i) (suc j) f g at_f at_g same in
      omega (arith, z)) in
      elim (shape e) [
        | inl none ↦ subst (λ ms. IsDistinct node_eq (ms ++ listed log)) (sym none) rest
        | inr one ↦ subst (λ ms. IsDistinct node_eq (ms ++ listed log)) (sym (one_node e one.0 one.1 one.2))
            (IsDistinct-cons node_eq one.0 (listed log)
            (each_place (λ y. node_eq one.0 y ≡ false) (listed log) (apart one.0 one.2)) rest)
      ]
    where
      apart : (n : Node) → slice_get ns e.place ≡ Some n → (y : Node) → Contains (listed log) y → node_eq n y ≡ false
      apart n at y in_rest = by (node_eq n y) refl
        where
          by : (b : Bool) → node_eq n y ≡ b → node_eq n y ≡ false
          by false b_is = b_is
          by true b_is =
              let f = listed_from log y in_rest in
              let p = place_from_Contains log f.0 f.1 in
              let n_is : y ≡ n = sym (same_node n y b_is) in
              let same : f.0.place ≡ e.place =
              same_place ns n e.place f.0.place distinct at (f.3 ∙ ap (λ m. Some m) n_is) in
              absurd (let z = once (suc p.0) 0 f.0 e p.1 refl same in omega (arith, z))

-- the nodes of what was logged and stands before a place are those whose phase went down
module _ (cs : List Contents) (before : ℕ) (phase : Phase) (start now : List Phase) (log : List LoweredPlace)
    (graph : IsGraph cs) (l : IsLog phase start now log) where
  abbrev held : List Contents
  held = take before cs

  abbrev had : List Phase
  had = take before start

  went_down : (n : Node) (e : LoweredPlace) → Contains log e → e.place < before → slice_get (nodes cs) e.place ≡ Some n
      → WentDown (state_of held had) (state_of cs now) n
  went_down n e in_log within at =
      let x = l.logged e in_log in
      let p = e.place in
      let c = slice_get_some cs p (subst (λ m. p < m) (length-map cs node_of) (slice_get_within (nodes cs) p n at)) in
      let h : Held = record { changeset = c.0; phase = e.had } in
      let g : Held = record { changeset = c.0; phase = x.0 } in (
        h,
        g,
        Contains-from_place (state_of held had).held p h
            (held-at held had p c.0 e.had (slice_get-take cs before p c.0 within c.1)
            (slice_get-take start before p e.had within x.1)),
        Contains-from_place (state_of cs now).held p g (held-at cs now p c.0 x.0 c.1 x.2),
        refl,
        same_Some (node_of c.0) n (sym (IsAt-from cs p c.0 (node_of c.0) c.1 refl) ∙ at),
        x.3,
      )

  logged_down : (n : Node) → WentDown (state_of held had) (state_of cs now) n
      → (e : LoweredPlace) × Contains log e × (e.place < before) × (slice_get (nodes cs) e.place ≡ Some n)
  logged_down n w =
      let h = w.0 in
      let g = w.1 in
      let p = place_from_Contains (state_of held had).held h w.2 in
      let q = place_from_Contains (state_of cs now).held g w.3 in
      let h_parts = parts-at held had p.0 h p.1 in
      let g_parts = parts-at cs now q.0 g q.1 in
      let h_at = get-take cs before p.0 h.changeset h_parts.0 in
      let had_at = get-take start before p.0 h.phase h_parts.1 in
      let n_at : slice_get (nodes cs) p.0 ≡ Some n = IsAt-from cs p.0 h.changeset n h_at.1 w.5 in
      let same : q.0 ≡ p.0 =
      same_place (nodes cs) n p.0 q.0 graph.distinct n_at
      (IsAt-from cs q.0 g.changeset n g_parts.0 (ap node_of w.4 ∙ w.5)) in
      let now_at : slice_get now p.0 ≡ Some g.phase = subst (λ y. slice_get now y ≡ Some g.phase) same g_parts.1 in
      elim (l.rest p.0) [
        | inl unchanged ↦ absurd (let e = ap rank (same_Some g.phase h.phase (sym now_at ∙ unchanged ∙ had_at.1)) in
            omega (arith, e, w.6))
        | inr x ↦ (
          x.0,
          x.1,
          subst (λ y. y < before) (sym x.2) h_at.0,
          subst (λ y. slice_get (nodes cs) y ≡ Some n) (sym x.2) n_at,
        )
      ]

  pub lowered_are : ListsLowered (state_of (take before cs) (take before start)) (state_of cs now)
      (flat_map (node_before (nodes cs) before) log)
  lowered_are = record {
    once = listed-once (nodes cs) before graph.distinct log l.once;
    each = λ n. (
      λ at. let e = listed_from (nodes cs) before log n at in went_down n e.0 e.1 e.2 e.3,
      λ w. let e = logged_down n w in listed_of (nodes cs) before log e.0 n e.1 e.2 e.3,
    );
  }
