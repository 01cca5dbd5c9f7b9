use Rattle.std.proofs.Common.{◌∷◌, [], map, take, get_or, sym, ap, ◌∙◌}
use Rattle.std.proofs.lemmas.List.{take_more, map-append}
use Rattle.hg_changeset.specs.declared.node.Node.{Node}
use Rattle.hg_succ.specs.Cover.{families}
use Rattle.hg_succ.specs.Unions.{choices, with_sets, choices_on}
use Rattle.hg_succ.proofs.SetLemmas.{choices_push}
use Rattle.hg_succ.proofs.families.Table.choices.Goals as goal

pub loop-node-preserved : goal.loop-node-preserved
loop-node-preserved c =
    let t = c.args.self.now in
    let nodes = c.args.nodes.now in
    let i = c.loop-node.node-index in
    let x : Node = get_or nodes i (record { 0 = [] }) in
    c.in_ok-unions.ensures
    ∙ ap (with_sets (families t x)) c.loop-node.invariant
    ∙ sym (choices_push (map (families t) (take i nodes)) (families t x) ([] ∷ []))
    ∙ ap (λ fs. choices_on fs ([] ∷ [])) (sym (map-append (families t) (take i nodes) (x ∷ [])))
    ∙ ap (choices t) (sym (take_more nodes i (record { 0 = [] }) c.loop-node-test.true))
