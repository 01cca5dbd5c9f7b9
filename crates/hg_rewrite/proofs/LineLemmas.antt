-- Lines of nodes, as far as a loop has come.
use Rattle.std.proofs.Common.{◌≡◌, ℕ, ◌+◌, ◌-◌, ◌<◌, ◌≤◌, inl, inr, List, length, slice_get, get_or, Some, sym, ap, ◌∙◌}
use Rattle.std.proofs.Common.{arith}
use Rattle.std.proofs.lemmas.Bool.{cases_lt}
use Rattle.std.proofs.lemmas.Option.{slice_get-get_or, get_or_from_slice_get}
use Rattle.hg_changeset.specs.declared.node.Node.{Node}
use Rattle.hg_changeset.specs.Node.{null_node}
use Rattle.hg_phases.specs.State.{State}
use Rattle.hg_rewrite.specs.Reading.{parents_in}
use Rattle.hg_rewrite.specs.Refusals.{IsLinear}

-- the first nodes are a line
abbrev pub IsLinearTo : State → List Node → ℕ → Type 0
IsLinearTo s ns i = (k : ℕ) (a b : Node) → k + 1 < i → slice_get ns k ≡ Some a → slice_get ns (k + 1) ≡ Some b
    → parents_in s b ≡ (a, null_node)

module _ (s : State) (ns : List Node) (i : ℕ) (d : Node) (one : 1 ≤ i) (lt : i < length ns) where
  last_pair : parents_in s (get_or ns i d) ≡ (get_or ns (i - 1) d, null_node) → (k : ℕ) (a b : Node) → k + 1 ≡ i
      → slice_get ns k ≡ Some a → slice_get ns (k + 1) ≡ Some b → parents_in s b ≡ (a, null_node)
  last_pair is k a b e at_a at_b =
      let f : k ≡ i - 1 = omega arith in
      ap (parents_in s) (sym (get_or_from_slice_get ns (k + 1) b d at_b) ∙ ap (λ j. get_or ns j d) e) ∙ is
      ∙ ap (λ (n : Node). (n, null_node)) (ap (λ j. get_or ns j d) (sym f) ∙ get_or_from_slice_get ns k a d at_a)

  pub line_more : IsLinearTo s ns i → parents_in s (get_or ns i d) ≡ (get_or ns (i - 1) d, null_node)
      → IsLinearTo s ns (i + 1)
  line_more before is k a b below at_a at_b = elim (cases_lt (k + 1) i) [
    | inl sooner ↦ before k a b sooner at_a at_b
    | inr last ↦ last_pair is k a b (omega arith) at_a at_b
  ]

  -- a line has each pair
  pub pair_of_line : IsLinear s ns → parents_in s (get_or ns i d) ≡ (get_or ns (i - 1) d, null_node)
  pair_of_line linear =
      let e : i - 1 + 1 ≡ i = omega arith in
      linear (i - 1) (get_or ns (i - 1) d) (get_or ns i d) (slice_get-get_or ns (i - 1) d (omega arith))
      (ap (slice_get ns) e ∙ slice_get-get_or ns i d lt)
