use Rattle.std.proofs.Common.{[], List, get_or, Contains, subst}
use Rattle.std.proofs.lemmas.List.{get_or_default, take_all}
use Rattle.hg_changeset.specs.declared.node.Node.{Node}
use Rattle.hg_replica.specs.Content.{content_of}
use Rattle.hg_why.specs.Causes.{Adds, IsByOne}
use Rattle.hg_why.specs.Causes.Cause.{several_before}
use Rattle.hg_why.proofs.CauseLemmas.{adds-found, adds-none, adds-same}
use Rattle.hg_why.proofs.causes.add_sets.Goals as goal

pub loop-node-init : goal.loop-node-init
loop-node-init c = adds-none (content_of c.args.replica.now) several_before (λ p. Unit {0}) c.args.reasons.now.items

pub loop-node-preserved : goal.loop-node-preserved
loop-node-preserved c =
    let nodes = c.args.nodes.now in
    let i = c.loop-node.node-index in
    let first : Node = record { 0 = [] } in
    let node = get_or nodes i first in
    adds-found (content_of c.args.replica.now) several_before (λ p. Unit {0}) nodes i node _
    c.loop-node.reasons.items _ c.loop-node-test.true (get_or_default nodes i node first c.loop-node-test.true)
    c.loop-node.invariant tt c.in_ok-add_sets_of.ensures

pub returns : goal.returns
returns c =
    let nodes = c.args.nodes.now in
    let f = content_of c.args.replica.now in
    let all = take_all c.loop-node.node-index nodes c.loop-node-test.false in
    adds-same f (IsByOne several_before (λ p. Contains nodes p × Unit {0})) (IsByOne several_before (Contains nodes))
    c.args.reasons.now.items c.loop-node.reasons.items
    (λ cause. (λ h. (h.0, (h.1, tt), h.2), λ h. (h.0, h.1.0, h.2)))
    (subst (λ (ns : List Node). Adds f (IsByOne several_before (λ p. Contains ns p × Unit {0}))
    c.args.reasons.now.items c.loop-node.reasons.items) all c.loop-node.invariant)
