use Rattle.std.proofs.Common.{◌+◌, [], List, get_or, take, Contains, true≢false, sym, subst, ap, ◌∙◌}
use Rattle.std.proofs.lemmas.List.{get_or_default, take_all}
use Rattle.hg_changeset.specs.declared.node.Node.{Node}
use Rattle.hg_phases.specs.declared.phase.Phase.TheVariants.{Public}
use Rattle.hg_replica.specs.Content.{content_of}
use Rattle.hg_replica.specs.Evolution.{HasPhase}
use Rattle.hg_why.specs.declared.reason.Reason.{Reason}
use Rattle.hg_why.specs.Causes.{Adds, IsByOne}
use Rattle.hg_why.specs.Causes.Cause.{public_before}
use Rattle.hg_why.proofs.CauseLemmas.{adds-found, adds-none, adds-other, adds-pushed}
use Rattle.hg_why.proofs.causes.add_public_among.Goals as goal
use Rattle.hg_why.proofs.causes.add_public_among.Goals.{then-has_phase+in_ok-push, else-has_phase}

pub loop-node-init : goal.loop-node-init
loop-node-init c = adds-none (content_of c.args.replica.now) public_before
    (λ p. HasPhase (content_of c.args.replica.now) p Public) c.args.reasons.now.items

pub loop-node-preserved : goal.loop-node-preserved
loop-node-preserved c =
    let f = content_of c.args.replica.now in
    let P : Node → Type 0 = λ p. HasPhase f p Public in
    let nodes = c.args.nodes.now in
    let i = c.loop-node.node-index in
    let first : Node = record { 0 = [] } in
    let node = get_or nodes i first in
    let at = get_or_default nodes i node first c.loop-node-test.true in
    elim c.if-has_phase.branch [
      | then-has_phase+in_ok-push w ↦
          adds-found f public_before P nodes i node c.args.reasons.now.items c.loop-node.reasons.items _
          c.loop-node-test.true at c.loop-node.invariant (c.has_phase.ensures.0 w.if-has_phase.true)
          (adds-pushed f c.loop-node.reasons.items _ _
          (ap (λ v. v.items) w.reasons-is ∙ w.in_ok-push.ensures.items) tt)
      | else-has_phase w ↦
          subst (λ (rs : List Reason). Adds f (IsByOne public_before (λ p. Contains (take (i + 1) nodes) p × P p))
          c.args.reasons.now.items rs) (sym (ap (λ v. v.items) w.reasons-is))
          (adds-other f public_before P nodes i node c.args.reasons.now.items c.loop-node.reasons.items
          c.loop-node-test.true at c.loop-node.invariant
          (λ is. true≢false (sym (c.has_phase.ensures.1 is) ∙ w.if-has_phase.false)))
    ]

pub returns : goal.returns
returns c =
    let f = content_of c.args.replica.now in
    subst (λ (ns : List Node). Adds f (IsByOne public_before (λ p. Contains ns p × HasPhase f p Public))
    c.args.reasons.now.items c.loop-node.reasons.items)
    (take_all c.loop-node.node-index c.args.nodes.now c.loop-node-test.false) c.loop-node.invariant
