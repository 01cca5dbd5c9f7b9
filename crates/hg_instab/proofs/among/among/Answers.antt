use Rattle.std.proofs.Common.{take, ◌+◌, [], get_or, Bool, Contains, true, false, sym, ap, subst, ◌∙◌}
use Rattle.std.proofs.lemmas.List.{take_all}
use Rattle.hg_changeset.specs.declared.node.Node.{Node}
use Rattle.hg_changeset.proofs.ListLemmas.{Contains-none}
use Rattle.hg_instab.proofs.AmongLemmas.{AreDivided, divided-none, divided-pushed, divided-other, also-taken}
use Rattle.hg_instab.proofs.among.among.Goals as goal
use Rattle.hg_instab.proofs.among.among.Goals.{then-test+in_ok-push, else-test}

pub loop-node-init : goal.loop-node-init
loop-node-init g c = divided-none (Contains []) (λ n. goal.F-post g c.args.test n true)
    (λ n. goal.F-post g c.args.test n false) _ c.new-found.ensures.items Contains-none

pub loop-node-preserved : goal.loop-node-preserved
loop-node-preserved g c =
    let nodes = c.args.nodes.now in
    let i = c.loop-node.node-index in
    let first : Node = record { 0 = [] } in
    let node = get_or nodes i first in
    let Pass : Node → Type 0 = λ n. goal.F-post g c.args.test n true in
    let Fail : Node → Type 0 = λ n. goal.F-post g c.args.test n false in
    let also = also-taken nodes i first c.loop-node-test.true in
    elim c.if-test.branch [
      | then-test+in_ok-push w ↦
          divided-pushed (Contains (take i nodes)) (Contains (take (i + 1) nodes)) Pass Fail c.loop-node.found.items
          node c.loop-node.invariant also
          (subst (λ (b : Bool). goal.F-post g c.args.test node b) w.if-test.true c.test.ensures)
          _ (ap (λ v. v.items) w.found-is ∙ w.in_ok-push.ensures.items)
      | else-test w ↦
          subst (AreDivided (Contains (take (i + 1) nodes)) Pass Fail) (sym (ap (λ v. v.items) w.found-is))
          (divided-other (Contains (take i nodes)) (Contains (take (i + 1) nodes)) Pass Fail c.loop-node.found.items
          node c.loop-node.invariant also
          (subst (λ (b : Bool). goal.F-post g c.args.test node b) w.if-test.false c.test.ensures))
    ]

pub returns : goal.returns
returns g c =
    subst (λ ns. AreDivided (Contains ns) (λ n. goal.F-post g c.args.test n true)
    (λ n. goal.F-post g c.args.test n false) c.loop-node.found.items)
    (take_all c.loop-node.node-index c.args.nodes.now c.loop-node-test.false) c.loop-node.invariant
