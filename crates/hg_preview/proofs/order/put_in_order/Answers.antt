use Rattle.std.proofs.lemmas.List.Sorted.{Contains-permutation, IsPermutation-sym}
use Rattle.hg_preview.proofs.order.put_in_order.Goals as goal

pub returns : goal.returns
returns c =
    let old = c.args.nodes.now.items in
    let new = c.sort_unstable_by_key.new.self.items in
    let moved = c.sort_unstable_by_key.ensures.permutation in
    λ n. (Contains-permutation new old n (IsPermutation-sym old new moved), Contains-permutation old new n moved)
