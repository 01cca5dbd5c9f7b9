use Rattle.std.proofs.Common.{◌≡◌, ◌++◌, ◌∙◌, List, length, take, filter, false, sym, ap, subst}
use Rattle.std.proofs.lemmas.List.{take_all}
use Rattle.std.proofs.lemmas.List.Elements.{Contains-get_or}
use Rattle.hg_discovery.specs.declared.finding.Finding.TheVariants.{Common}
use Rattle.hg_discovery.specs.declared.finding.PlacedNode.{PlacedNode}
use Rattle.hg_discovery.specs.Picking.{is_picked}
use Rattle.hg_discovery.specs.Search.{Search, IsHead, Lists}
use Rattle.hg_discovery.proofs.UnderLemmas.{under_common}
use Rattle.hg_discovery.proofs.DrawLemmas.{heads_are, short_filter}
use Rattle.hg_discovery.proofs.draw.common_heads.Goals as goal

pub pick-requires-clause-within : goal.pick-requires-clause-within
pick-requires-clause-within c k d l = c.requires.placed_nodes.within _ (Contains-get_or c.args.placed_nodes.now k d l)

pub returns : goal.returns
returns c =
    let ds = c.args.decided.now in
    let ps = c.args.parents.now in
    let placed_nodes = c.args.placed_nodes.now in
    let marks = c.in_ok-covered.covered.items in
    let new = c.pick.new.found.items in
    let s : Search = record { parents = ps; placed_nodes = placed_nodes; decided = ds; asked = new } in
    let test = is_picked ds marks Common false in
    let heads : List PlacedNode = filter test placed_nodes in
    let all : new ≡ heads = c.in_ok-pick.ensures
    ∙ ap (λ ms. take (length placed_nodes) (c.new-found.result.items ++ filter
    (is_picked ds ms Common false) placed_nodes))
    c.deref.ensures.value
    ∙ ap (λ zs. take (length placed_nodes) (zs ++ heads)) c.new-found.ensures.items
    ∙ take_all (length placed_nodes) heads (short_filter test placed_nodes) in
    subst (Lists (IsHead s Common)) (sym all) (heads_are s Common marks c.requires.in_order c.requires.placed_nodes
    c.in_ok-covered.ensures
    (λ k m j low high at_k at_j. under_common ps ds c.requires.closed m j high at_j) placed_nodes
    (λ x h. h) (λ x h u. h) c.requires.ascending)
