use Rattle.std.proofs.Common.{◌≡◌, ◌++◌, ◌∙◌, List, arith, length, take, filter, true, false, ap}
use Rattle.std.proofs.lemmas.List.{length-take}
use Rattle.std.proofs.lemmas.List.Elements.{Contains-get_or}
use Rattle.hg_discovery.specs.declared.finding.Finding.TheVariants.{Undecided}
use Rattle.hg_discovery.specs.declared.finding.PlacedNode.{PlacedNode}
use Rattle.hg_discovery.specs.Picking.{is_picked}
use Rattle.hg_discovery.proofs.DrawLemmas.{take_front}
use Rattle.hg_discovery.proofs.SampleLemmas.{drawn_sample}
use Rattle.hg_discovery.proofs.draw.sample.Goals as goal
use Rattle.hg_discovery.specs.Limits.{sample_size}

pub pick-requires-clause-within : goal.pick-requires-clause-within
pick-requires-clause-within c k d l = c.requires.placed_nodes.within _ (Contains-get_or c.args.placed_nodes.now k d l)

pub pick-requires-2-clause-within : goal.pick-requires-2-clause-within
pick-requires-2-clause-within c k d l = c.requires.placed_nodes.within _ (Contains-get_or c.args.placed_nodes.now k d l)

pub pick-requires-2-clause-limit : goal.pick-requires-2-clause-limit
pick-requires-2-clause-limit c =
    let found = c.pick.new.found in
    let all = c.new-found.result.items ++ filter (is_picked c.args.decided.now c.deref.result.now Undecided false)
    c.args.placed_nodes.now in
    omega (arith, found.ok.0, ap length c.in_ok-pick.ensures, length-take sample_size all)

pub returns : goal.returns
returns c =
    let ds = c.args.decided.now in
    let xs = c.args.placed_nodes.now in
    let marks = c.in_ok-covered.covered.items in
    let heads : List PlacedNode = filter (is_picked ds marks Undecided false) xs in
    let others : List PlacedNode = filter (is_picked ds marks Undecided true) xs in
    let first : c.pick.new.found.items ≡ take sample_size heads = c.in_ok-pick.ensures
    ∙ ap (λ ms. take sample_size (c.new-found.result.items ++ filter (is_picked ds ms Undecided false) xs))
    c.deref.ensures.value
    ∙ ap (λ zs. take sample_size (zs ++ heads)) c.new-found.ensures.items in
    drawn_sample c.args.parents.now ds xs c.pick-2.new.found.items c.requires.len c.requires.in_order c.requires.closed
    c.requires.placed_nodes c.requires.ascending marks c.in_ok-covered.ensures
    (c.in_ok-pick-2.ensures
    ∙ ap (λ ms. take sample_size (c.pick.new.found.items ++ filter (is_picked ds ms Undecided true) xs))
    c.deref-2.ensures.value
    ∙ ap (λ zs. take sample_size (zs ++ others)) first ∙ take_front sample_size heads others)
