-- Answers that stand at the numbers of nodes.
use Rattle.std.proofs.Common.{◌≡◌, ℕ, zero, suc, ◌+◌, cond, List, [], ◌∷◌, length, set, get_or, Option, Some}
use Rattle.std.proofs.Common.{None, ◌⊎◌, inl, inr, refl, sym, ap, subst, ◌∙◌, arith}
use Rattle.std.specs.List.{position, position_from}
use Rattle.std.specs.Option.{option_and_then}
use Rattle.std.proofs.lemmas.Bool.{cases_Bool, cases_eq}
use Rattle.std.proofs.lemmas.Iterator.Adapters.{position_from-zero}
use Rattle.std.proofs.lemmas.List.Quantifiers.{position-Some}
use Rattle.std.proofs.lemmas.Option.{slice_get-get_or, slice_get_within, none-some, same_Some}
use Rattle.hg_changeset.specs.declared.node.Node.{Node}
use Rattle.hg_changeset.specs.Node.{node_eq}
use Rattle.hg_changeset.proofs.NodeLemmas.{same_node, node_itself}
use Rattle.hg_graph.proofs.MarkLemmas.{get-set_same, get-set_other}
use Rattle.hg_succ.specs.declared.families.Solved.{Solved}
use Rattle.hg_succ.specs.Rows.{At}
use Rattle.hg_succ.specs.Numbered.{AreOnce}
use Rattle.hg_succ.specs.Cover.{answer_at}
use Rattle.hg_succ.proofs.ListLemmas.{get_one}

-- ---- the number of a node

number_from : (nodes : List Node) (k i : ℕ) (n : Node) → AreOnce nodes → At nodes i n
    → position_from (node_eq n) k nodes ≡ Some (k + i)
number_from [] k i n once at = absurd (none-some n at)
number_from (x ∷ nodes) k zero n once at =
    ap (λ b. cond b (Some k) (position_from (node_eq n) (k + 1) nodes)) (node_itself n x (sym (same_Some x n at)))
    ∙ ap (λ j. Some j) (let e : k ≡ k + 0 = omega arith in e)
number_from (x ∷ nodes) k (suc i) n once at = elim (cases_Bool (node_eq n x)) [
  | inl same ↦ absurd (let e : 0 ≡ suc i = once 0 (suc i) n (ap (λ y. Some y) (sym (same_node n x same))) at in
      omega (arith, e))
  | inr other ↦
      ap (λ b. cond b (Some k) (position_from (node_eq n) (k + 1) nodes)) other
      ∙ number_from nodes (k + 1) i n (λ a b y at_a at_b. let e : suc a ≡ suc b = once (suc a) (suc b) y at_a at_b in
      omega (arith, e)) at
      ∙ ap (λ j. Some j) (let e : (k + 1) + i ≡ k + suc i = omega arith in e)
]

pub number_at : (nodes : List Node) (i : ℕ) (n : Node) → AreOnce nodes → At nodes i n
    → position (node_eq n) nodes ≡ Some i
number_at nodes i n once at = position_from-zero (node_eq n) nodes ∙ number_from nodes 0 i n once at
    ∙ ap (λ j. Some j) (let e : 0 + i ≡ i = omega arith in e)

at_number : (nodes : List Node) (i : ℕ) (n : Node) → position (node_eq n) nodes ≡ Some i → At nodes i n
at_number nodes i n e =
    let told = position-Some (node_eq n) nodes i n e in
    slice_get-get_or nodes i n told.0 ∙ ap (λ y. Some y) (sym (same_node n (get_or nodes i n) told.1))

-- ---- answers

-- what stands at the number of a node
abbrev pub look : List Node → List (Option Solved) → Node → Option Solved
look nodes answers n = option_and_then (answer_at answers) (position (node_eq n) nodes)

pub look_at : (nodes : List Node) (answers : List (Option Solved)) (i : ℕ) (n : Node) → AreOnce nodes → At nodes i n
    → look nodes answers n ≡ answer_at answers i
look_at nodes answers i n once at = ap (option_and_then (answer_at answers)) (number_at nodes i n once at)

module _ (nodes : List Node) (once : AreOnce nodes) (answers : List (Option Solved))
    (long : length answers ≡ length nodes) (number : ℕ) (node : Node) (at : At nodes number node)
    (v : Option Solved) where
  -- the answer that is written, at its number
  written : answer_at (set answers number v) number ≡ v
  written = ap (option_and_then (λ o. o))
      (get-set_same answers number v (let l = slice_get_within nodes number node at in omega (arith, l, long)))

  pub look_written : look nodes (set answers number v) node ≡ v
  look_written = look_at nodes (set answers number v) number node once at ∙ written

  -- after a write each other node has the answer that it had
  pub look_after : (n : Node) → (node ≡ n) ⊎ (look nodes (set answers number v) n ≡ look nodes answers n)
  look_after n = by (position (node_eq n) nodes) refl
    where
      by : (o : Option ℕ) → position (node_eq n) nodes ≡ o → (node ≡ n)
          ⊎ (look nodes (set answers number v) n ≡ look nodes answers n)
      by None e = inr (ap (option_and_then (answer_at (set answers number v))) e
          ∙ sym (ap (option_and_then (answer_at answers)) e))
      by (Some i) e = elim (cases_eq i number) [
        | inl same ↦ inl (get_one nodes number node n at (subst (λ k. At nodes k n) same (at_number nodes i n e)))
        | inr other ↦ inr (
            ap (option_and_then (answer_at (set answers number v))) e
            ∙ ap (option_and_then (λ o. o)) (get-set_other answers number i v other)
            ∙ sym (ap (option_and_then (answer_at answers)) e)
            )
      ]
