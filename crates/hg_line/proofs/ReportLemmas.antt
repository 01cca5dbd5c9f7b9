-- The rows of a report, and their lines.
use Rattle.std.proofs.Common.{◌≡◌, ℕ, ◌+◌, ◌<◌, ◌≤◌, List, [], ◌∷◌, ◌++◌, map, length, get_or, take, drop}
use Rattle.std.proofs.Common.{slice_get, Bool, Some, All, refl, sym, ap, subst, ◌∙◌, zero, suc}
use Rattle.std.proofs.Common.{add-zero, arith}
use Rattle.std.specs.List.Sorted.{IsPermutation, IsSorted, IsSortedBy}
use Rattle.std.specs.Option.{option_map}
use Rattle.std.specs.Ordering.{is_lt}
use Rattle.std.proofs.lemmas.List.{map-append, length-map, take_more, length-take, drop_more, drop_all}
use Rattle.std.proofs.lemmas.List.Sorted.{IsPermutation-map, All-permutation}
use Rattle.std.proofs.lemmas.Option.{slice_get_within, get_or_from_slice_get, slice_get-map, same_Some}
use Rattle.hg_changeset.specs.declared.node.Node.{Node}
use Rattle.hg_changeset.specs.Contents.{Contents}
use Rattle.hg_changeset.specs.Changeset.{last_line, node_of}
use Rattle.hg_graph.specs.Graph.{nodes}
use Rattle.hg_phases.specs.declared.phase.Phase.{Phase}
use Rattle.hg_phases.specs.State.{Held, changesets}
use Rattle.hg_replica.specs.State.{ReplicaState}
use Rattle.hg_view.specs.Kept.{KeptValue}
use Rattle.hg_view.specs.declared.status.Status.{Status}
use Rattle.hg_view.specs.Status.{IsStatus}
use Rattle.hg_line.specs.Commands.{Text, Word}
use Rattle.hg_line.specs.Reports.{AreRowLines, AreRows, IsRowLine, RowValue, row_cmp, row_line}
use Rattle.hg_line.specs.Reports.{row_values, rows_from}

-- ---- rows

-- one changeset more
rows_from-push : (place : ℕ) (cs : List Contents) (c : Contents)
    → rows_from place (cs ++ c ∷ []) ≡ rows_from place cs ++ (last_line c, place + length cs) ∷ []
rows_from-push place [] c = ap (λ (n : ℕ). (last_line c, n) ∷ []) (sym (add-zero place))
rows_from-push place (d ∷ cs) c =
    let e : place + 1 + length cs ≡ place + length (d ∷ cs) = omega arith in
    ap (λ (rs : List RowValue). (last_line d, place) ∷ rs)
    (rows_from-push (place + 1) cs c ∙ ap (λ (n : ℕ). rows_from (place + 1) cs ++ (last_line c, n) ∷ []) e)

-- the rows so far, and that of the next changeset
pub rows_more : (cs : List Contents) (c : Contents) (rows more : List (Word × ℕ)) (label : Word) (place : ℕ)
    → slice_get cs place ≡ Some c → label.now ≡ last_line c → more ≡ rows ++ (label, place) ∷ []
    → row_values rows ≡ rows_from 0 (take place cs) → row_values more ≡ rows_from 0 (take (place + 1) cs)
rows_more cs c rows more label place at is grown so_far =
    let within = slice_get_within cs place c at in
    let taken : take (place + 1) cs ≡ take place cs ++ c ∷ [] =
    take_more cs place c within ∙ ap (λ (d : Contents). take place cs ++ d ∷ []) (get_or_from_slice_get cs place c c at)
    in
    let count : 0 + length (take place cs) ≡ place = omega (arith, length-take place cs) in
    ap row_values grown ∙ map-append _ rows ((label, place) ∷ [])
    ∙ ap (λ (rs : List RowValue). rs ++ (label.now, place) ∷ []) so_far
    ∙ ap (λ (l : Text). rows_from 0 (take place cs) ++ (l, place) ∷ []) is
    ∙ ap (λ (n : ℕ). rows_from 0 (take place cs) ++ (last_line c, n) ∷ []) (sym count)
    ∙ sym (rows_from-push 0 (take place cs) c) ∙ ap (rows_from 0) (sym taken)

-- ---- order

-- within a list the other answer doesn't matter
get_or-within : {X : Type 0} (xs : List X) (k : ℕ) (d e : X) → k < length xs → get_or xs k d ≡ get_or xs k e
get_or-within [] k d e l = absurd (omega arith)
get_or-within (x ∷ xs) zero d e l = refl
get_or-within (x ∷ xs) (suc k) d e l = get_or-within xs k d e (omega arith)

get_or-mapped : {X Y : Type 0} (f : X → Y) (xs : List X) (k : ℕ) (d : X) → get_or (map f xs) k (f d) ≡ f (get_or xs k d)
get_or-mapped f [] k d = refl
get_or-mapped f (x ∷ xs) zero d = refl
get_or-mapped f (x ∷ xs) (suc k) d = get_or-mapped f xs k d

-- what is in order by a key has its keys in order
IsSortedBy-map : {X Y : Type 0} (f : X → Y) (lt : Y → Y → Bool) (xs : List X)
    → IsSortedBy (λ x y. lt (f x) (f y)) xs → IsSortedBy lt (map f xs)
IsSortedBy-map f lt [] h k d low high = absurd (omega arith)
IsSortedBy-map {X} {Y} f lt (x ∷ xs) h k d low high =
    let within : k + 1 < length (x ∷ xs) = omega (arith, length-map (x ∷ xs) f) in
    let here : k < length (map f (x ∷ xs)) = omega arith in
    let later = get_or-within (map f (x ∷ xs)) (k + 1) d (f x) high ∙ get_or-mapped f (x ∷ xs) (k + 1) x in
    let first = get_or-within (map f (x ∷ xs)) k d (f x) here ∙ get_or-mapped f (x ∷ xs) k x in
    ap (λ (y : Y). lt y (get_or (map f (x ∷ xs)) k d)) later
    ∙ ap (λ (y : Y). lt (f (get_or (x ∷ xs) (k + 1) x)) y) first ∙ h k x low within

-- the rows by place, sorted
pub sorted_rows : (s : ReplicaState) (rows sorted : List (Word × ℕ))
    → row_values rows ≡ rows_from 0 (changesets s.history) → IsPermutation rows sorted
    → IsSorted (λ r s. row_cmp (r.0.now, r.1) (s.0.now, s.1)) sorted → AreRows s (row_values sorted)
sorted_rows s rows sorted by_place moved order = record {
  all = subst (λ (rs : List RowValue). IsPermutation rs (row_values sorted)) by_place
      (IsPermutation-map (λ (r : Word × ℕ). (r.0.now, r.1)) rows sorted moved);
  sorted = IsSortedBy-map (λ (r : Word × ℕ). (r.0.now, r.1)) (λ (r s : RowValue). is_lt (row_cmp r s)) sorted order;
}

-- ---- places

rows_within : (place : ℕ) (cs : List Contents) → All (λ (r : RowValue). r.1 < place + length cs) (rows_from place cs)
rows_within place [] k d l = absurd (omega arith)
rows_within place (c ∷ cs) zero d l = omega arith
rows_within place (c ∷ cs) (suc k) d l = let later = rows_within (place + 1) cs k d (omega arith) in omega arith

-- each row's place is that of a changeset
pub places_within : (s : ReplicaState) (rows : List (Word × ℕ)) → AreRows s (row_values rows)
    → All (λ (r : Word × ℕ). r.1 < length (changesets s.history)) rows
places_within s rows are k d l =
    let cs = changesets s.history in
    let value : Word × ℕ → RowValue = λ r. (r.0.now, r.1) in
    let all = All-permutation (λ (r : RowValue). r.1 < 0 + length cs) (rows_from 0 cs) (row_values rows) are.all
    (rows_within 0 cs) in
    let here = all k (value d) (omega (arith, length-map rows value)) in
    let same : (get_or (row_values rows) k (value d)).1 ≡ (get_or rows k d).1 =
    ap (λ (r : RowValue). r.1) (get_or-mapped value rows k d) in
    omega arith

-- ---- lines

-- the line of the next row, and those of the rows after it
pub next_lines : (s : KeptValue) (rows : List (Word × ℕ)) (i : ℕ) (d : Word × ℕ) (first rest : Text)
    → i < length rows → IsRowLine s ((get_or rows i d).0.now, (get_or rows i d).1) first
    → AreRowLines s (row_values (drop (i + 1) rows)) rest → AreRowLines s (row_values (drop i rows)) (first ++ rest)
next_lines s rows i d first rest within line later =
    subst (λ (rs : List (Word × ℕ)). AreRowLines s (row_values rs) (first ++ rest)) (sym (drop_more rows i d within))
    (first, rest, line, later, refl)

pub no_lines : (s : KeptValue) (rows : List (Word × ℕ)) (i : ℕ) → length rows ≤ i
    → AreRowLines s (row_values (drop i rows)) []
no_lines s rows i past =
    subst (λ (rs : List (Word × ℕ)). AreRowLines s (row_values rs) []) (sym (drop_all i rows past)) refl

-- the changeset at a place has the node that stands there, and is held
pub row_of : (s : KeptValue) (place : ℕ) (node : Node) (phase : Phase) (label text : Text) (status : Status)
    → Some node ≡ slice_get (nodes (changesets s.replica.history)) place
    → (h : Held) × (slice_get s.replica.history.held place ≡ Some h) × (h.phase ≡ phase)
    → IsStatus s node status → text ≡ row_line label phase status
    → IsRowLine s (label, place) text
row_of s place node phase label text status at (h, held, is) told e =
    let cs = changesets s.replica.history in
    let there : slice_get cs place ≡ Some h.changeset =
    slice_get-map (λ (k : Held). k.changeset) s.replica.history.held place
    ∙ ap (option_map (λ (k : Held). k.changeset)) held in
    let node_is : node ≡ node_of h.changeset =
    same_Some node (node_of h.changeset) (at ∙ slice_get-map node_of cs place ∙ ap (option_map node_of) there) in (
      h,
      status,
      held,
      subst (λ (n : Node). IsStatus s n status) node_is told,
      e ∙ ap (λ (k : Phase). row_line label k status) (sym is),
    )
