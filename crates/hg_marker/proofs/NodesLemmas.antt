-- Node ids, one after another.
use Rattle.std.proofs.Common.{◌≡◌, ℕ, zero, suc, ◌-◌, ◌+◌, ◌*◌, ◌≤◌, ◌<◌, Bool, true, false, cond, ltb, List, [], ◌∷◌}
use Rattle.std.proofs.Common.{◌++◌, length, take, drop, Result, Ok, Err, refl, ap, ◌∙◌, sym, arith, append_assoc}
use Rattle.std.specs.Prelude.{◌||◌}
use Rattle.std.specs.List.{list_any}
use Rattle.std.proofs.lemmas.List.{take-take, drop-take, length-drop}
use Rattle.hg_changeset.specs.declared.node.Node.{Node}
use Rattle.hg_changeset.specs.Node.{null_node, node_eq}
use Rattle.hg_marker.specs.Reading.{IsReading, and_then, says, field, nodes, ids_in}
use Rattle.hg_marker.proofs.FaultLemmas.{nodes_is}

-- ---- the ids that are left

-- the first of them, and the others
pub first_left : (count i : ℕ) (bytes : List ℕ) → i < count
    → ids_in (count - i) bytes ≡ record { 0 = take 20 bytes } ∷ ids_in (count - (i + 1)) (drop 20 bytes)
first_left count i bytes lt =
    let k : count - i ≡ suc (count - (i + 1)) = omega arith in
    rw k refl

-- ---- the null id among them

pub null_found : (count i : ℕ) (bytes rest after : List ℕ) (id : Node) → i < count → id ≡ record { 0 = take 20 rest }
    → node_eq null_node id ≡ true
    → list_any (node_eq null_node) (ids_in (count - i) rest) ≡ list_any (node_eq null_node) (ids_in count bytes)
    → true ≡ list_any (node_eq null_node) (ids_in count bytes)
null_found count i bytes rest after id lt is null so_far =
    let first : node_eq null_node (record { 0 = take 20 rest }) ≡ true = ap (node_eq null_node) (sym is) ∙ null in
    let now : list_any (node_eq null_node) (ids_in (count - i) rest) ≡ true =
    ap (list_any (node_eq null_node)) (first_left count i rest lt)
    ∙ ap (λ (b : Bool). b || list_any (node_eq null_node) (ids_in (count - (i + 1)) (drop 20 rest))) first in
    sym now ∙ so_far

pub null_goes_on : (count i : ℕ) (bytes rest after : List ℕ) (id : Node) → i < count → id ≡ record { 0 = take 20 rest }
    → after ≡ drop 20 rest → node_eq null_node id ≡ false
    → list_any (node_eq null_node) (ids_in (count - i) rest) ≡ list_any (node_eq null_node) (ids_in count bytes)
    → list_any (node_eq null_node) (ids_in (count - (i + 1)) after)
    ≡ list_any (node_eq null_node) (ids_in count bytes)
null_goes_on count i bytes rest after id lt is after_is other so_far =
    let first : node_eq null_node (record { 0 = take 20 rest }) ≡ false = ap (node_eq null_node) (sym is) ∙ other in
    let now : list_any (node_eq null_node) (ids_in (count - i) rest)
    ≡ list_any (node_eq null_node) (ids_in (count - (i + 1)) (drop 20 rest)) =
    ap (list_any (node_eq null_node)) (first_left count i rest lt)
    ∙ ap (λ (b : Bool). b || list_any (node_eq null_node) (ids_in (count - (i + 1)) (drop 20 rest))) first in
    ap (λ (b : List ℕ). list_any (node_eq null_node) (ids_in (count - (i + 1)) b)) after_is ∙ sym now ∙ so_far

-- ---- copied one by one

pub copy_goes_on : (count i : ℕ) (bytes rest after : List ℕ) (front : List Node) (id : Node) → i < count
    → id ≡ record { 0 = take 20 rest } → after ≡ drop 20 rest
    → front ++ ids_in (count - i) rest ≡ ids_in count bytes
    → (front ++ id ∷ []) ++ ids_in (count - (i + 1)) after ≡ ids_in count bytes
copy_goes_on count i bytes rest after front id lt is after_is so_far =
    append_assoc front (id ∷ []) (ids_in (count - (i + 1)) after)
    ∙ ap (λ (n : Node). front ++ n ∷ ids_in (count - (i + 1)) after) is
    ∙ ap (λ (b : List ℕ). front ++ record { 0 = take 20 rest } ∷ ids_in (count - (i + 1)) b) after_is
    ∙ ap (λ (ns : List Node). front ++ ns) (sym (first_left count i rest lt))
    ∙ so_far

pub room_left : (count i : ℕ) (rest after : List ℕ) → i < count → after ≡ drop 20 rest → 20 * (count - i) ≤ length rest
    → 20 * (count - (i + 1)) ≤ length after
room_left count i rest after lt after_is room = omega (arith, room, lt, length-drop 20 rest, ap length after_is)

-- ---- as a field

-- bytes behind the ids say nothing of them
ids_front : (n : ℕ) (bytes : List ℕ) → ids_in n (take (20 * n) bytes) ≡ ids_in n bytes
ids_front zero bytes = refl
ids_front (suc n) bytes =
    let more : 20 * suc n ≡ 20 + 20 * n = omega arith in
    let first : take 20 (take (20 * suc n) bytes) ≡ take 20 bytes = take-take 20 (20 * suc n) bytes (omega arith) in
    let others : drop 20 (take (20 * suc n) bytes) ≡ take (20 * n) (drop 20 bytes) =
    ap (λ (k : ℕ). drop 20 (take k bytes)) more ∙ drop-take 20 (20 * n) bytes in
    let later : ids_in n (drop 20 (take (20 * suc n) bytes)) ≡ ids_in n (drop 20 bytes) =
    ap (ids_in n) others ∙ ids_front n (drop 20 bytes) in
    λ i. record { 0 = first i } ∷ later i

ids_read : {F : Type 0} (short : F) (n : ℕ) (bytes : List ℕ)
    → nodes short n bytes ≡ and_then (field short (20 * n) bytes) (λ ids. says (ids_in n ids))
ids_read short n bytes =
    nodes_is short n bytes
    ∙ elim (ltb (length bytes) (20 * n)) as
    (λ b. cond b (Err short) (Ok (ids_in n bytes, drop (20 * n) bytes))
    ≡ and_then (cond b (Err short) (Ok (take (20 * n) bytes, drop (20 * n) bytes))) (λ ids. says (ids_in n ids))) [
      | true ↦ refl
      | false ↦ ap (λ (ns : List Node). Ok (ns, drop (20 * n) bytes)) (sym (ids_front n bytes))
    ]

module _ {F X : Type 0} (short : F) (n : ℕ) (bytes : List ℕ) (view : X → List ℕ × List ℕ) where
  pub as_ids : (r : Result X F) → IsReading view r (field short (20 * n) bytes)
      → IsReading (λ x. (ids_in n (view x).0, (view x).1)) r (nodes short n bytes)
  as_ids (Ok x) e =
      ids_read short n bytes ∙ ap (λ (r : Result (List ℕ × List ℕ) F). and_then r (λ ids. says (ids_in n ids))) e
  as_ids (Err f) e =
      ids_read short n bytes ∙ ap (λ (r : Result (List ℕ × List ℕ) F). and_then r (λ ids. says (ids_in n ids))) e
