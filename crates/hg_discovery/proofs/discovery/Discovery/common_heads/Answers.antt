use Rattle.std.proofs.Common.{◌≡◌, ap, subst, ◌∙◌}
use Rattle.std.proofs.lemmas.Result.{IfOk-weaker}
use Rattle.hg_discovery.specs.Search.{Search, nodes_of}
use Rattle.hg_discovery.specs.Start.{AreCommonHeads}
use Rattle.hg_discovery.proofs.discovery.Discovery.common_heads.Goals as goal

pub common_heads-requires-clause-in_order : goal.common_heads-requires-clause-in_order
common_heads-requires-clause-in_order c = rw c.deref.ensures.value c.self.invariant.0.in_order

pub returns-clause-heads : goal.returns-clause-heads
returns-clause-heads c =
    let heads = c.in_ok-heads.heads.items in
    let lists = rw c.deref.ensures.value at (rw c.deref-2.ensures.value at
    (rw c.deref-3.ensures.value at c.in_ok-heads.ensures)) in
    IfOk-weaker c.nodes.result (λ ns. ns.items ≡ nodes_of c.deref-4.result.now)
    (λ ns. AreCommonHeads c.args.self.now ns.items)
    (λ ns is. subst (λ (s : Search). AreCommonHeads s ns.items) c.self.view_is
    (heads, lists, is ∙ ap nodes_of c.deref-4.ensures.value)) c.nodes.ensures
