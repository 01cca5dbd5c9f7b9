use Rattle.std.proofs.Common.{◌≡◌, ◌+◌, List, [], take, get_or, true≢false, sym, ap, subst, ◌∙◌}
use Rattle.std.proofs.lemmas.List.{get_or_default, take_all}
use Rattle.std.proofs.lemmas.List.Elements.{Contains-get_or}
use Rattle.hg_changeset.specs.declared.node.Node.{Node}
use Rattle.hg_replica.specs.Content.{content_of}
use Rattle.hg_succ.specs.Successors.{HasSeveral}
use Rattle.hg_succ.proofs.NumberLemmas.{AreAmong, among_found, among_other}
use Rattle.hg_succ.proofs.SolveLemmas.{entry_several}
use Rattle.hg_succ.proofs.successors.several_among.Goals as goal
use Rattle.hg_succ.proofs.successors.several_among.Goals.{then-has_several+in_ok-insert, else-has_several}

pub loop-node-preserved : goal.loop-node-preserved
loop-node-preserved c =
    let f = content_of c.args.replica.now in
    let nodes = c.args.nodes.now in
    let i = c.loop-node.node-index in
    let first : Node = record { 0 = [] } in
    let x = get_or nodes i first in
    let at : x ≡ get_or nodes i x = sym (get_or_default nodes i x first c.loop-node-test.true) in
    let told = entry_several f c.in_ok-table.table c.in_ok-table.ensures.table x
    (c.in_ok-table.ensures.done x (c.in_ok-set_of.ensures x (Contains-get_or nodes i first c.loop-node-test.true))) in
    elim c.if-has_several.branch [
      | then-has_several+in_ok-insert w ↦
          subst (AreAmong (take (i + 1) nodes) (HasSeveral f))
          (sym (ap (λ v. v.keys) w.found-is ∙ w.in_ok-insert.ensures.keys))
          (among_found nodes (HasSeveral f) c.loop-node.found.keys i x c.loop-node-test.true at c.loop-node.invariant
          (told.0 (c.has_several.ensures.0 w.if-has_several.true)))
      | else-has_several w ↦
          subst (AreAmong (take (i + 1) nodes) (HasSeveral f)) (sym (ap (λ v. v.keys) w.found-is))
          (among_other nodes (HasSeveral f) c.loop-node.found.keys i x c.loop-node-test.true at c.loop-node.invariant
          (λ several. true≢false (sym (c.has_several.ensures.1 (told.1 several)) ∙ w.if-has_several.false)))
    ]

pub returns : goal.returns
returns c =
    subst (λ (ns : List Node). AreAmong ns (HasSeveral (content_of c.args.replica.now)) c.loop-node.found.keys)
    (take_all c.loop-node.node-index c.args.nodes.now c.loop-node-test.false) c.loop-node.invariant
