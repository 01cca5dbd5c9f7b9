use Rattle.std.proofs.Common.{◌≡◌, ◌+◌, [], arith, take, sym, subst}
use Rattle.std.proofs.lemmas.List.{take_all}
use Rattle.hg_replica.specs.Content.{content_of}
use Rattle.hg_view.specs.Pins.{IsServedUnder}
use Rattle.hg_discovery.specs.Rounds.{AreKnown}
use Rattle.hg_discovery.proofs.KnownLemmas.{known_none, known_more}
use Rattle.hg_discovery.proofs.answers.known_kept.Goals as goal

pub loop-node-init : goal.loop-node-init
loop-node-init c =
    let f = content_of c.args.kept.now.replica in
    let pins = c.args.kept.now.pins in
    subst (AreKnown f pins []) (sym c.in_ok-answers.ensures.items) (known_none (IsServedUnder f pins))

pub loop-node-preserved : goal.loop-node-preserved
loop-node-preserved c =
    let f = content_of c.args.kept.now.replica in
    let pins = c.args.kept.now.pins in
    let i = c.loop-node.node-index in
    subst (AreKnown f pins (take (i + 1) c.args.nodes.now)) (sym c.in_ok-push.ensures.items)
    (known_more (IsServedUnder f pins) c.args.nodes.now c.loop-node.answers.items i
    (record { 0 = [] }) c.is_served.result c.loop-node-test.true c.is_served.ensures c.loop-node.invariant)

pub returns : goal.returns
returns c =
    let all : take c.loop-node.node-index c.args.nodes.now ≡ c.args.nodes.now =
    take_all c.loop-node.node-index c.args.nodes.now (omega (arith, c.loop-node-test.false)) in
    rw all at c.loop-node.invariant
