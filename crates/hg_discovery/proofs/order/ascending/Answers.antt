use Rattle.std.proofs.Common.{◌≡◌, Contains, sym, subst}
use Rattle.std.specs.List.{dedup}
use Rattle.std.specs.List.Sorted.{IsStrictlySortedBy}
use Rattle.std.proofs.lemmas.List.Filters.{dedup_is}
use Rattle.std.proofs.lemmas.List.Kept.{IsStrictlySortedBy-dedup, Contains-dedup, Contains-from_dedup}
use Rattle.std.proofs.lemmas.List.Sorted.{Contains-permutation, IsPermutation-sym}
use Rattle.hg_discovery.specs.contracts.finding.PlacedNodeOrd.TheImpl.Laws.{total-law, matches_eq-law}
use Rattle.hg_discovery.specs.contracts.finding.PlacedNodeEq.TheImpl.Laws.{laws-law}
use Rattle.hg_discovery.specs.Order.{placed_node_cmp}
use Rattle.hg_discovery.proofs.SortLemmas.{placed_node_eq, same_placed_node}
use Rattle.hg_discovery.proofs.order.ascending.Goals as goal

pub returns-clause-same : goal.returns-clause-same
returns-clause-same c x =
    let old = c.args.placed_nodes.items in
    let sorted = c.sort_unstable.new.self.items in
    let new = c.dedup.new.self.items in
    let is : new ≡ dedup placed_node_eq sorted = dedup_is _ _ _ c.dedup.ensures.filtered in
    let moved = c.sort_unstable.ensures.permutation in (
      λ h. Contains-permutation sorted old x (IsPermutation-sym old sorted moved)
          (Contains-from_dedup placed_node_eq sorted x (subst (λ ys. Contains ys x) is h)),
      λ s. subst (λ ys. Contains ys x) (sym is) (Contains-dedup laws-law same_placed_node sorted x
          (Contains-permutation old sorted x moved s)),
    )

pub returns-clause-sorted : goal.returns-clause-sorted
returns-clause-sorted c =
    let sorted = c.sort_unstable.new.self.items in
    let new = c.dedup.new.self.items in
    let is : new ≡ dedup placed_node_eq sorted = dedup_is _ _ _ c.dedup.ensures.filtered in
    let strict : IsStrictlySortedBy placed_node_cmp (dedup placed_node_eq sorted) =
    IsStrictlySortedBy-dedup total-law matches_eq-law sorted c.sort_unstable.ensures.sorted in
    subst (IsStrictlySortedBy placed_node_cmp) (sym is) strict
