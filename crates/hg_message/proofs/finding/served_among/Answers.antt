use Rattle.std.proofs.Common.{[], ◌≡◌, ◌+◌, get_or, take, arith, sym, ap, subst, true≢false, ◌∙◌}
use Rattle.std.proofs.lemmas.List.{get_or_default, take_all}
use Rattle.hg_changeset.specs.declared.node.Node.{Node}
use Rattle.hg_replica.specs.Content.{content_of}
use Rattle.hg_view.specs.Pins.{IsServedUnder}
use Rattle.hg_message.proofs.PickLemmas.{AreSome, some-push, some-skip}
use Rattle.hg_message.proofs.finding.served_among.Goals as goal
use Rattle.hg_message.proofs.finding.served_among.Goals.{then-is_served+in_ok-push, else-is_served}

pub loop-node-preserved : goal.loop-node-preserved
loop-node-preserved c =
    let P : Node → Type 0 = IsServedUnder (content_of c.args.kept.now.replica) c.args.kept.now.pins in
    let ns = c.args.nodes.now in
    let i = c.loop-node.node-index in
    let none : Node = record { 0 = [] } in
    let x = get_or ns i none in
    let there = get_or_default ns i x none c.loop-node-test.true in
    let old = c.loop-node.found.items in
    elim c.if-is_served.branch [
      | then-is_served+in_ok-push w ↦
          subst (AreSome P (take (i + 1) ns)) (sym (ap (λ v. v.items) w.found-is ∙ w.in_ok-push.ensures.items))
          (some-push P ns i x c.loop-node-test.true there old c.loop-node.invariant
          (c.is_served.ensures.0 w.if-is_served.true))
      | else-is_served w ↦
          subst (AreSome P (take (i + 1) ns)) (sym (ap (λ v. v.items) w.found-is))
          (some-skip P ns i x c.loop-node-test.true there old c.loop-node.invariant
          (λ is. true≢false (sym (c.is_served.ensures.1 is) ∙ w.if-is_served.false)))
    ]

pub returns : goal.returns
returns c =
    let ns = c.args.nodes.now in
    let all : take c.loop-node.node-index ns ≡ ns = take_all c.loop-node.node-index ns
    (omega (arith, c.loop-node-test.false)) in
    rw all at c.loop-node.invariant
