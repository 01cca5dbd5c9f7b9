use Rattle.std.proofs.Common.{◌≡◌, ◌-◌, ℕ, Contains, false, length, replicate, arith, subst, sym, ap, ◌∙◌, ◌↔◌}
use Rattle.std.proofs.lemmas.Result.{IfOk-weaker}
use Rattle.hg_changeset.specs.declared.node.Node.{Node}
use Rattle.hg_graph.specs.Places.{IsAt, IsHeadPlace, IsParentPlace}
use Rattle.hg_graph.specs.Marks.{IsMarked, MarksAlso}
use Rattle.hg_graph.proofs.HeadLemmas.{head_unmarked, unmarked_heads}
use Rattle.hg_graph.proofs.graph.Graph.heads_between.Goals as goal

pub returns-clause-exact : goal.returns-clause-exact
returns-clause-exact c =
    let cs = c.args.self.now in
    let low = c.args.low in
    let marks = c.args.marks.now in
    let old = c.mark_parents_of.new.above in
    let new = c.sweep.new.marks in
    let count : c.args.high - low ≡ length marks = omega arith in
    let clear : c.as_mut_slice-above.result.now ≡ replicate (length marks) false =
    c.as_mut_slice-above.ensures.value ∙ c.in_ok-window.ensures.items_if_clones_equal (λ y e. e)
    ∙ ap (λ n. replicate n false) count in
    let parents : MarksAlso low (λ k. (j : ℕ) × IsMarked low marks j × IsParentPlace cs j k)
    (replicate (length marks) false) old =
    subst (λ none. MarksAlso low (λ k. (j : ℕ) × IsMarked low marks j × IsParentPlace cs j k) none old) clear
    c.mark_parents_of.ensures in
    let same = head_unmarked cs c.alloc-alloc.ensures low marks old new parents c.sweep.ensures in
    let heads = unmarked_heads cs (IsMarked low marks) low new same c.in_ok-heads.heads.keys c.in_ok-heads.ensures in
    IfOk-weaker c.listed.result
    _ _ (λ list items.
    subst (λ ns. (n : Node) → Contains ns n ↔ ((k : ℕ) × IsAt cs n k × IsHeadPlace cs (IsMarked low marks) k))
    (sym items) heads) c.listed.ensures.all
