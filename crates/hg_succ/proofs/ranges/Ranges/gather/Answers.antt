use Rattle.std.proofs.Common.{◌∷◌, [], List, map, take, get_or, sym, ap, ◌∙◌}
use Rattle.std.proofs.lemmas.List.{take_more, take_all, map-append}
use Rattle.hg_changeset.specs.declared.node.Node.{Node}
use Rattle.hg_succ.specs.Plan.{gathered, gather_all, range_of}
use Rattle.hg_succ.proofs.RangeLemmas.{gather_append}
use Rattle.hg_succ.proofs.ranges.Ranges.gather.Goals as goal

pub loop-node-preserved : goal.loop-node-preserved
loop-node-preserved c =
    let range = range_of c.args.self.now.ranges.items c.args.nodes.now.keys in
    let nodes = c.args.more.now in
    let i = c.loop-node.node-index in
    let x : Node = get_or nodes i (record { 0 = [] }) in
    c.with-all.ensures
    ∙ (λ k. gathered (c.loop-node.invariant k) (c.range.ensures k))
    ∙ sym (gather_append c.args.before (map range (take i nodes)) (range x ∷ []))
    ∙ ap (gather_all c.args.before) (sym (map-append range (take i nodes) (x ∷ [])))
    ∙ ap (λ (ns : List Node). gather_all c.args.before (map range ns))
    (sym (take_more nodes i (record { 0 = [] }) c.loop-node-test.true))

pub returns : goal.returns
returns c = c.loop-node.invariant
    ∙ ap (λ (ns : List Node). gather_all c.args.before (map (range_of c.args.self.now.ranges.items
    c.args.nodes.now.keys) ns)) (take_all c.loop-node.node-index c.args.more.now c.loop-node-test.false)
