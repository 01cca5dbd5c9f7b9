use Rattle.std.proofs.Common.{◌≡◌, List, filter, sym, ap, subst, ◌∙◌, Vec, Global}
use Rattle.std.specs.List.Sorted.{IsStrictlySortedBy}
use Rattle.std.specs.Cmp.Lexicographic.{pointwise, slice_cmp}
use Rattle.std.proofs.lemmas.Result.{IfOk-weaker}
use Rattle.std.proofs.lemmas.List.Filters.{dedup_is}
use Rattle.hg_changeset.specs.declared.node.Node.{Node}
use Rattle.hg_changeset.specs.Node.{node_cmp, node_eq}
use Rattle.hg_succ.specs.Answer.{sets_of}
use Rattle.hg_succ.specs.Unions.{AreLargest, AreAscending, is_largest}
use Rattle.hg_succ.proofs.SetLemmas.{largest_deduped, deduped_sets, deduped_up}
use Rattle.hg_succ.proofs.unions.largest.Goals as goal
use Rattle.hg_succ.proofs.unions.largest.Goals.{After-dedup}

all : (c : After-dedup) → AreLargest (sets_of c.args.found.items)
    (filter (is_largest (sets_of c.dedup.new.self.items)) (sets_of c.dedup.new.self.items))
all c = largest_deduped _ _ _ _ c.in_ok-sets.ensures c.sort_unstable.ensures.permutation
    c.sort_unstable.ensures.sorted (dedup_is (λ (v w : Vec Node Global). pointwise node_eq v.items w.items) _ _
    c.dedup.ensures.filtered)

pub returns-then-are_as_long : goal.returns-then-are_as_long
returns-then-are_as_long c =
    let ws = c.dedup.new.self.items in
    let same : filter (is_largest (sets_of ws)) (sets_of ws) ≡ sets_of ws =
    subst (λ (us : List (Vec Node Global)). filter (is_largest (sets_of us)) (sets_of us) ≡ sets_of us)
    c.deref-2.ensures.value (c.are_as_long.ensures c.if-are_as_long.true) in
    subst (AreLargest (sets_of c.args.found.items)) same (all (goal.at.returns-then-are_as_long c).After-dedup)

pub without_subsets-requires-clause-ascending : goal.without_subsets-requires-clause-ascending
without_subsets-requires-clause-ascending c =
    let are = deduped_sets _ _ _ _ c.in_ok-sets.ensures c.sort_unstable.ensures.permutation
    c.sort_unstable.ensures.sorted (dedup_is (λ (v w : Vec Node Global). pointwise node_eq v.items w.items) _ _
    c.dedup.ensures.filtered) in
    subst (λ (us : List (Vec Node Global)). AreAscending (sets_of us)) (sym c.deref-3.ensures.value)
    (λ set h. (are.from set h).2.ascending)

pub without_subsets-requires-clause-different : goal.without_subsets-requires-clause-different
without_subsets-requires-clause-different c =
    subst (λ (us : List (Vec Node Global)). IsStrictlySortedBy (slice_cmp node_cmp) (sets_of us))
    (sym c.deref-3.ensures.value)
    (deduped_up _ _ _ _ c.in_ok-sets.ensures c.sort_unstable.ensures.permutation c.sort_unstable.ensures.sorted
    (dedup_is (λ (v w : Vec Node Global). pointwise node_eq v.items w.items) _ _ c.dedup.ensures.filtered))

pub returns : goal.returns
returns c =
    IfOk-weaker c.without_subsets.result
    (λ (kept : Vec (Vec Node Global) Global). sets_of kept.items ≡ filter (is_largest (sets_of c.deref-3.result.now))
    (sets_of c.deref-3.result.now))
    (λ (family : Vec (Vec Node Global) Global). AreLargest (sets_of c.args.found.items) (sets_of family.items))
    (λ kept e. subst (AreLargest (sets_of c.args.found.items))
    (sym (e ∙ ap (λ (us : List (Vec Node Global)). filter (is_largest (sets_of us)) (sets_of us))
    c.deref-3.ensures.value)) (all (goal.at.returns c).After-dedup))
    c.without_subsets.ensures
