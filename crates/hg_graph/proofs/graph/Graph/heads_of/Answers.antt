use Rattle.std.proofs.Common.{◌≡◌, ◌+◌, ◌-◌, ◌↔◌, false, replicate, Contains, sym, subst, ◌∙◌, arith}
use Rattle.std.specs.List.Sorted.{IsStrictlySortedBy}
use Rattle.std.proofs.lemmas.Result.{IfOk-weaker}
use Rattle.hg_changeset.specs.declared.node.Node.{Node}
use Rattle.hg_changeset.specs.Node.{node_cmp}
use Rattle.hg_changeset.proofs.ListLemmas.{on_err_anyway}
use Rattle.hg_graph.specs.Graph.{IsHeadOfThem}
use Rattle.hg_graph.specs.Places.{IsPlaceOfOne}
use Rattle.hg_graph.specs.Marks.{IsMarked, MarksAlso}
use Rattle.hg_graph.proofs.HeadLemmas.{heads_are, no_heads, one_within, one_held, window_given}
use Rattle.hg_graph.proofs.graph.Graph.heads_of.Goals as goal

pub overflow_sub-last : goal.overflow_sub-last
overflow_sub-last c = (c.in-Some.ensures.2 c.in-Some.first c.in-Some.ensures.0).1

pub overflow_add-last : goal.overflow_add-last
overflow_add-last c =
    omega (
      arith,
      one_within c.args.self.now c.args.nodes.now c.in-Some.last c.in-Some.ensures.1,
      c.is_valid.ensures.places,
    )

pub overflow_add-last-in-Some : goal.overflow_add-last-in-Some
overflow_add-last-in-Some c =
    omega (
      arith,
      one_within c.args.self.now c.args.nodes.now c.in-Some.last c.in-Some.ensures.1,
      c.is_valid.ensures.places,
    )

pub returns-in_err-window-in-Some-clause-memory : goal.returns-in_err-window-in-Some-clause-memory
returns-in_err-window-in-Some-clause-memory c = on_err_anyway c.from_residual.result
    _ (one_held c.args.self.now c.args.nodes.now c.in-Some.first c.in-Some.ensures.0)

pub heads_between-requires-clause-window : goal.heads_between-requires-clause-window
heads_between-requires-clause-window c =
    let order = (c.in-Some.ensures.2 c.in-Some.first c.in-Some.ensures.0).1 in
    omega (arith, order, c.mark_nodes.ensures.0, c.as_mut_slice-marks.ensures.len, c.in_ok-window-in-Some.ensures.len)

pub heads_between-requires-clause-within : goal.heads_between-requires-clause-within
heads_between-requires-clause-within c =
    omega (arith, one_within c.args.self.now c.args.nodes.now c.in-Some.last c.in-Some.ensures.1)

pub returns-in_ok-window-in-Some-clause-exact : goal.returns-in_ok-window-in-Some-clause-exact
returns-in_ok-window-in-Some-clause-exact c =
    let cs = c.args.self.now in
    let ns = c.args.nodes.now in
    let first = c.in-Some.first in
    let last = c.in-Some.last in
    let count = last - first + 1 in
    let order = (c.in-Some.ensures.2 first c.in-Some.ensures.0).1 in
    let marks = c.mark_nodes.new.marks in
    let clear : c.as_mut_slice-marks.result.now ≡ replicate count false =
    c.as_mut_slice-marks.ensures.value ∙ c.in_ok-window-in-Some.ensures.items_if_clones_equal (λ y e. e) in
    let also : MarksAlso first (IsPlaceOfOne cs ns) (replicate count false) marks =
    subst (λ none. MarksAlso first (IsPlaceOfOne cs ns) none marks) clear c.mark_nodes.ensures in
    let given = window_given cs ns (first, last) c.in-Some.ensures count (omega (arith, order)) marks also in
    IfOk-weaker c.heads_between.result
    _ _ (λ heads are. heads_are cs c.alloc-alloc.ensures (Contains ns) (IsMarked first marks) given heads.items are)
    c.heads_between.ensures.exact

pub returns-in_ok-window-in-Some-clause-memory : goal.returns-in_ok-window-in-Some-clause-memory
returns-in_ok-window-in-Some-clause-memory c = on_err_anyway c.heads_between.result
    _ (one_held c.args.self.now c.args.nodes.now c.in-Some.first c.in-Some.ensures.0)

pub returns-in-None-clause-exact : goal.returns-in-None-clause-exact
returns-in-None-clause-exact c =
    subst (λ ns. (n : Node) → Contains ns n ↔ IsHeadOfThem c.args.self.now c.args.nodes.now n) (sym c.new.ensures.items)
    (no_heads c.args.self.now c.args.nodes.now c.in-None.ensures)

pub returns-in-None-clause-ascending : goal.returns-in-None-clause-ascending
unfolding IsStrictlySortedBy
returns-in-None-clause-ascending c = subst (IsStrictlySortedBy node_cmp) (sym c.new.ensures.items) tt
