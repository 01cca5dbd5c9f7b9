-- Numbers of nodes, as they are given.
use Rattle.std.proofs.Common.{◌≡◌, ℕ, zero, suc, ◌+◌, ◌<◌, List, [], ◌∷◌, ◌++◌}
use Rattle.std.proofs.Common.{length, take, slice_get, Some, Contains, ◌⊎◌, ◌↔◌, inl, inr, refl, sym, ap, subst, ◌∙◌}
use Rattle.std.proofs.Common.{arith, get_or, Vec, Global}
use Rattle.std.specs.List.{IsDistinct}
use Rattle.std.specs.Option.{option_map_or}
use Rattle.std.proofs.lemmas.List.{append_assoc, append-nil, map-append, take_more, length-map}
use Rattle.std.proofs.lemmas.List.Elements.{Contains-append_left, Contains-push, Contains-push_cases}
use Rattle.std.proofs.lemmas.Option.{slice_get_within, none-some}
use Rattle.hg_changeset.specs.declared.node.Node.{Node}
use Rattle.hg_changeset.specs.Node.{node_eq}
use Rattle.hg_node_set.specs.Keys.{insert_key}
use Rattle.hg_node_set.proofs.CallerLemmas.{Contains-insert_key, Contains-insert_key_kept, Contains-insert_key_cases}
use Rattle.hg_marker.specs.Fields.{Fields}
use Rattle.hg_obsstore.specs.Markers.{ArePlaces}
use Rattle.hg_replica.specs.State.{ReplicaState}
use Rattle.hg_replica.specs.Content.{Content, content_of}
use Rattle.hg_replica.proofs.MarkerLemmas.{holds-from, in_from_holds}
use Rattle.hg_changeset.proofs.ListLemmas.{Contains-none}
use Rattle.hg_graph.proofs.PlaceLemmas.{same_place}
use Rattle.hg_succ.specs.Rows.{At, rows_of}
use Rattle.hg_succ.specs.Successors.{IsRewrittenTo}
use Rattle.hg_succ.specs.Numbered.{successors_at, Adds, IsRow, AreRows, AreOnce}
use Rattle.hg_changeset.proofs.ListLemmas.{slice_get-append, slice_get-push_cases}
use Rattle.hg_graph.proofs.GraphLemmas.{Contains-from_place, place_from_Contains}
use Rattle.hg_succ.proofs.ListLemmas.{get_one}

pub adds_none : (P : Node → Type 0) (nodes : List Node) (row : List ℕ) → ((y : Node) → P y → ⊥)
    → Adds P nodes nodes row row
adds_none P nodes row none = record {
  grows = ([], sym (append-nil nodes));
  kept = λ j h. h;
  listed = λ j h. inl h;
  each = λ y p. absurd (none y p);
}

-- what was put last leaves the others where they are
pub grown : (old new : List Node) → (more : List Node) × (new ≡ old ++ more) → (j : ℕ) (y : Node) → At old j y
    → At new j y
grown old new g j y h = subst (λ (ns : List Node). At ns j y) (sym g.1) (slice_get-append old g.0 j y h)

grown_on : (a b c : List Node) → (more : List Node) × (b ≡ a ++ more) → (more : List Node) × (c ≡ b ++ more)
    → (more : List Node) × (c ≡ a ++ more)
grown_on a b c g h = (g.0 ++ h.0, h.1 ∙ ap (λ (ns : List Node). ns ++ h.0) g.1 ∙ append_assoc a g.0 h.0)

pub adds_one : (P Q : Node → Type 0) (old mid new : List Node) (row longer : List ℕ) (j : ℕ) (x : Node)
    → Adds P old mid row longer → (more : List Node) × (new ≡ mid ++ more) → At new j x
    → ((y : Node) → Q y ↔ (P y ⊎ (x ≡ y))) → Adds Q old new row (longer ++ j ∷ [])
adds_one P Q old mid new row longer j x so g at q = record {
  grows = grown_on old mid new so.grows g;
  kept = λ k h. Contains-append_left longer (j ∷ []) k (so.kept k h);
  listed = λ k h. elim (Contains-push_cases longer j k h) [
    | inl before ↦ elim (so.listed k before) [
      | inl old' ↦ inl old'
      | inr w ↦ inr (w.0, (q w.0).1 (inl w.1), grown mid new g k w.0 w.2)
    ]
    | inr last ↦ inr (x, (q x).1 (inr refl), subst (λ i. At new i x) last at)
  ];
  each = λ y h. elim ((q y).0 h) [
    | inl before ↦
        (let w = so.each y before in (w.0, Contains-append_left longer (j ∷ []) w.0 w.1, grown mid new g w.0 y w.2))
    | inr same ↦ (j, Contains-push longer j, subst (At new j) same at)
  ];
}

pub adds_join : (P Q S : Node → Type 0) (a b c : List Node) (r s t : List ℕ) → Adds P a b r s → Adds Q b c s t
    → ((y : Node) → S y ↔ (P y ⊎ Q y)) → Adds S a c r t
adds_join P Q S a b c r s t f g both = record {
  grows = grown_on a b c f.grows g.grows;
  kept = λ j h. g.kept j (f.kept j h);
  listed = λ j h. elim (g.listed j h) [
    | inl before ↦
        elim (f.listed j before)
        [ inl old ↦ inl old | inr w ↦ inr (w.0, (both w.0).1 (inl w.1), grown b c g.grows j w.0 w.2) ]
    | inr w ↦ inr (w.0, (both w.0).1 (inr w.1), w.2)
  ];
  each = λ y h. elim ((both y).0 h) [
    | inl p ↦ (let w = f.each y p in (w.0, g.kept w.0 w.1, grown b c g.grows w.0 y w.2))
    | inr q ↦ g.each y q
  ];
}

-- one more of a list
pub more_of : {X : Type 0} (xs : List X) (i : ℕ) (x : X) → i < length xs → x ≡ get_or xs i x → (y : X)
    → Contains (take (i + 1) xs) y ↔ (Contains (take i xs) y ⊎ (x ≡ y))
more_of {X} xs i x l e y =
    let split : take (i + 1) xs ≡ take i xs ++ x ∷ [] = take_more xs i x l ∙ ap (λ (z : X). take i xs ++ z ∷ [])
    (sym e) in (
      (λ h. Contains-push_cases (take i xs) x y (subst (λ (ys : List X). Contains ys y) split h)),
      (λ h. subst (λ (ys : List X). Contains ys y) (sym split)
          (elim h [
            | inl before ↦ Contains-append_left (take i xs) (x ∷ []) y before
            | inr same ↦
                subst (Contains (take i xs ++ x ∷ [])) same (Contains-push (take i xs) x)
          ])),
    )

-- what stands at one of these places as a successor
abbrev pub IsAtOneOf : List Fields → List ℕ → Node → Type 0
IsAtOneOf markers places y = (place : ℕ) × Contains places place × Contains (successors_at markers place) y

pub one_place_more : (markers : List Fields) (places : List ℕ) (i place : ℕ) → i < length places
    → place ≡ get_or places i place → (y : Node)
    → IsAtOneOf markers (take (i + 1) places) y
    ↔ (IsAtOneOf markers (take i places) y ⊎ Contains (successors_at markers place) y)
one_place_more markers places i place l e y = (
  (λ h. elim ((more_of places i place l e h.0).0 h.1) [
    | inl before ↦ inl (h.0, before, h.2)
    | inr same ↦
        inr (subst (λ p. Contains (successors_at markers p) y) (sym same) h.2)
  ]),
  (λ h. elim h [
    | inl before ↦ (before.0, (more_of places i place l e before.0).1 (inl before.1), before.2)
    | inr last ↦
        (place, (more_of places i place l e place).1 (inr refl), last)
  ]),
)

-- the marker at a place
pub successors_there : (markers : List Fields) (place : ℕ) (m : Fields) → At markers place m
    → successors_at markers place ≡ m.successors
successors_there markers place m at = ap (λ o. option_map_or (λ (f : Fields). f.successors) o []) at

pub rewritten_places : (s : ReplicaState) (places : List ℕ) (n : Node)
    → ArePlaces (λ m. m.predecessor ≡ n) s.markers places → (y : Node) → IsAtOneOf s.markers places y
    ↔ IsRewrittenTo (content_of s) n y
rewritten_places s places n are y = (
  (λ h.
      let w = (are.exact h.0).0 h.1 in
      let at = Contains-from_place s.markers h.0 w.0 w.1 in (
        w.0,
        holds-from s.markers w.0 at,
        w.2,
        subst (λ (ns : List Node). Contains ns y)
            (successors_there s.markers h.0 w.0 w.1) h.2,
      )),
  (λ h.
      let at = place_from_Contains s.markers h.0 (in_from_holds s.markers h.0 h.1) in (
        at.0,
        (are.exact at.0).1 (h.0, at.1, h.2),
        subst (λ (ns : List Node). Contains ns y)
            (sym (successors_there s.markers at.0 h.0 at.1)) h.3,
      )),
)

pub row_from_adds : (s : ReplicaState) (places : List ℕ) (n : Node)
    → ArePlaces (λ m. m.predecessor ≡ n) s.markers places → (old new : List Node) (row : List ℕ)
    → Adds (IsAtOneOf s.markers places) old new [] row → IsRow (content_of s) new n row
row_from_adds s places n are old new row so = record {
  listed = λ j h. elim (so.listed j h)
      [ inl none ↦ absurd (Contains-none j none) | inr w ↦ (w.0, (rewritten_places s places n are w.0).0 w.1, w.2) ];
  each = λ y h. so.each y ((rewritten_places s places n are y).1 h);
}

-- rows stay right as nodes are put last
row_grows : (f : Content) (old new : List Node) (x : Node) (row : List ℕ) → (more : List Node) × (new ≡ old ++ more)
    → IsRow f old x row → IsRow f new x row
row_grows f old new x row g r = record {
  listed = λ j h. (let w = r.listed j h in (w.0, w.1, grown old new g j w.0 w.2));
  each = λ y h. (let w = r.each y h in (w.0, w.1, grown old new g w.0 y w.2));
}

get_left : (xs ys : List Node) (i : ℕ) (y : Node) → i < length xs → At (xs ++ ys) i y → At xs i y
get_left [] ys i y l h = absurd (omega arith)
get_left (z ∷ xs) ys zero y l h = h
get_left (z ∷ xs) ys (suc i) y l h = get_left xs ys i y (omega arith) h

get_grown : (old new : List Node) → (more : List Node) × (new ≡ old ++ more) → (i : ℕ) (y : Node) → i < length old
    → At new i y → At old i y
get_grown old new g i y l h = get_left old g.0 i y l (subst (λ (ns : List Node). At ns i y) g.1 h)

-- one row more
pub rows_more : (f : Content) (old new : List Node) (rows : List (Vec ℕ Global)) (x : Node) (row : Vec ℕ Global)
    → length rows < length old → (more : List Node) × (new ≡ old ++ more) → At old (length rows) x
    → AreRows f old (rows_of rows) → IsRow f new x row.items → AreRows f new (rows_of (rows ++ row ∷ []))
rows_more f old new rows x row l g at so last i y r node_at row_at =
    let long : length (rows_of rows) ≡ length rows = length-map rows (λ (v : Vec ℕ Global). v.items) in
    let split : rows_of (rows ++ row ∷ []) ≡ rows_of rows ++ row.items ∷ [] = map-append (λ (v : Vec ℕ Global). v.items)
    rows (row ∷ []) in
    elim (slice_get-push_cases (rows_of rows) row.items i r (subst (λ (rs : List (List ℕ)). At rs i r) split row_at)) [
      | inl before ↦
          let inside : i < length old = omega (arith, slice_get_within (rows_of rows) i r before, long, l) in
          let old_at : At old i y = get_grown old new g i y inside node_at in
          row_grows f old new y r g (so i y r old_at before)
      | inr end ↦
          let place : i ≡ length rows = omega (arith, end.0, long) in
          let same : x ≡ y =
          get_one new i x y (subst (λ k. At new k x) (sym place) (grown old new g (length rows) x at)) node_at in
          subst (λ z. IsRow f new z r) same (subst (IsRow f new x) end.1 last)
    ]

pub once : (nodes : List Node) → IsDistinct node_eq nodes → AreOnce nodes
once nodes d i j x at_i at_j = sym (same_place nodes x i j d at_i at_j)

pub no_rows : (f : Content) (nodes : List Node) (rows : List (Vec ℕ Global))
    → rows ≡ [] → AreRows f nodes (rows_of rows)
no_rows f nodes rows e i x row node_at row_at =
    absurd (none-some row (subst (λ (rs : List (Vec ℕ Global)). slice_get (rows_of rs) i ≡ Some row) e row_at))

-- those of some nodes of which something holds
abbrev pub AreAmong : List Node → (Node → Type 0) → List Node → Type 0
AreAmong nodes P found = (n : Node) → Contains found n ↔ (Contains nodes n × P n)

module _ (nodes : List Node) (P : Node → Type 0) (found : List Node) (i : ℕ) (x : Node) (within : i < length nodes)
    (is : x ≡ get_or nodes i x) (those : AreAmong (take i nodes) P found) where
  pub among_found : P x → AreAmong (take (i + 1) nodes) P (insert_key found x)
  among_found p n = (
    λ h. elim (Contains-insert_key_cases found x n h) [
      | inl old ↦ let y = (those n).0 old in ((more_of nodes i x within is n).1 (inl y.0), y.1)
      | inr e ↦ ((more_of nodes i x within is n).1 (inr e), subst P e p)
    ],
    λ h. elim ((more_of nodes i x within is n).0 h.0) [
      | inl old ↦ Contains-insert_key_kept found x n ((those n).1 (old, h.1))
      | inr e ↦ subst (Contains (insert_key found x)) e (Contains-insert_key found x)
    ],
  )

  pub among_other : ¬ (P x) → AreAmong (take (i + 1) nodes) P found
  among_other not n = (
    λ h. let y = (those n).0 h in ((more_of nodes i x within is n).1 (inl y.0), y.1),
    λ h. elim ((more_of nodes i x within is n).0 h.0)
        [ inl old ↦ (those n).1 (old, h.1) | inr e ↦ absurd (not (subst P (sym e) h.1)) ],
  )
