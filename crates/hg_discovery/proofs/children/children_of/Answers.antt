use Rattle.std.proofs.Common.{◌≡◌, ◌∙◌, ◌++◌, arith, length, ap}
use Rattle.hg_discovery.specs.declared.children.Stretch.{Stretch}
use Rattle.hg_discovery.proofs.ChildrenLemmas.{AreChildrenTo-push, AreChildrenTo-end}
use Rattle.hg_discovery.proofs.children.children_of.Goals as goal

pub loop-place-preserved : goal.loop-place-preserved
loop-place-preserved c =
    let cs = c.args.graph.now in
    let i = c.loop-place.place in
    let places = c.loop-place.places.items in
    let stretches = c.loop-place.stretches.items in
    let more = c.children.result.now in
    let grown = c.extend_from_slice.new.self in
    let one : Stretch = record { from = c.len-from.result; to = c.len-to.result } in
    let longer : grown.items ≡ places ++ more = c.in_ok-extend_from_slice.ensures.items in
    let from : one.from ≡ length places = c.len-from.ensures ∙ c.loop-place.places.ok.0 in
    let to : one.to ≡ length (places ++ more) = c.len-to.ensures ∙ grown.ok.0 ∙ ap length longer in
    rw longer (rw c.in_ok-push.ensures.items
    (AreChildrenTo-push cs i places stretches more one c.loop-place.invariant c.children.ensures.exact from to))

pub returns : goal.returns
returns c ps shape =
    AreChildrenTo-end c.args.graph.now c.loop-place.place c.loop-place.places.items c.loop-place.stretches.items
    (omega (arith, c.loop-place.auto.place-end, c.loop-place-test.false, c.len-place-end.ensures.len))
    c.loop-place.invariant ps shape
