use Rattle.std.proofs.Common.{◌≤◌, ◌<◌, ◌+◌, ◌≡◌, ◌∙◌, length, ap, arith}
use Rattle.hg_view.specs.HeadPlaces.{IsAmong}
use Rattle.hg_view.proofs.FlagLemmas.{recomputed-none, recomputed-then, recomputed-from, from-one}
use Rattle.hg_view.proofs.ChangeLemmas.{among-within}
use Rattle.hg_view.proofs.head_updates.recompute_from.Goals as goal

pub loop-place-init : goal.loop-place-init
loop-place-init c =
    recomputed-none _ _ _ (λ k h. omega (arith, h.0, h.1))

pub recompute-requires-clause-len : goal.recompute-requires-clause-len
recompute-requires-clause-len c = c.loop-place.invariant.len ∙ c.requires

pub loop-place-preserved : goal.loop-place-preserved
loop-place-preserved c =
    recomputed-then _ _ _ _ _ _ _ c.loop-place.invariant c.recompute.ensures (from-one _ _ c.loop-place.auto.place)

pub returns : goal.returns
returns c =
    recomputed-from _ _ _ _ _ (λ k q. omega (arith, among-within _ _ _ q, c.requires)) c.loop-place.invariant
    (omega (arith, c.loop-place-test.false, c.len-place-end.ensures.len, ap length c.graph.ensures.graph, c.requires))
