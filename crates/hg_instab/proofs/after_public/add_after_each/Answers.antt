use Rattle.std.proofs.Common.{◌+◌, List, [], take, get_or, subst}
use Rattle.std.proofs.lemmas.List.{get_or_default, take_all}
use Rattle.hg_changeset.specs.declared.node.Node.{Node}
use Rattle.hg_phases.specs.declared.phase.Phase.TheVariants.{Public}
use Rattle.hg_replica.specs.Content.{content_of}
use Rattle.hg_replica.specs.Evolution.{HasPhase}
use Rattle.hg_instab.specs.AfterPublic.{IsAfterAny, IsRewrittenTo}
use Rattle.hg_instab.specs.Walk.{Adds}
use Rattle.hg_instab.proofs.AfterPublicLemmas.{any-more}
use Rattle.hg_instab.proofs.WalkLemmas.{adds-then}
use Rattle.hg_instab.proofs.after_public.add_after_each.Goals as goal

pub loop-node-preserved : goal.loop-node-preserved
loop-node-preserved c =
    let g = content_of c.args.replica.now in
    let ms = c.args.replica.now.markers in
    let nodes = c.args.nodes.now in
    let i = c.loop-node.node-index in
    let first : Node = record { 0 = [] } in
    let node = get_or nodes i first in
    adds-then (IsAfterAny g ms (take i nodes)) (λ n. HasPhase g node Public × IsRewrittenTo ms node n)
    (IsAfterAny g ms (take (i + 1) nodes)) c.args.seen.now.keys c.loop-node.seen.keys c.add_after.new.seen.keys
    (any-more g ms nodes i node c.loop-node-test.true (get_or_default nodes i node first c.loop-node-test.true))
    c.loop-node.invariant c.in_ok-add_after.ensures

pub returns : goal.returns
returns c = subst (λ (ns : List Node). Adds (IsAfterAny (content_of c.args.replica.now) c.args.replica.now.markers ns)
    c.args.seen.now.keys c.loop-node.seen.keys)
    (take_all c.loop-node.node-index c.args.nodes.now c.loop-node-test.false) c.loop-node.invariant
