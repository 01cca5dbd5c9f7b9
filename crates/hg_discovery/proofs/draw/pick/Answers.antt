use Rattle.std.proofs.Common.{◌≡◌, ◌∙◌, [], arith, length, sym, ap, true≢false}
use Rattle.std.specs.Vec.{vec_len}
use Rattle.hg_discovery.specs.declared.finding.PlacedNode.{PlacedNode}
use Rattle.hg_discovery.specs.Picking.{is_picked}
use Rattle.hg_discovery.proofs.DrawLemmas.{pick_push, pick_skip, pick_full}
use Rattle.hg_discovery.proofs.draw.pick.Goals as goal
use Rattle.hg_discovery.proofs.draw.pick.Goals.{then-len-limit+then-is_picked+in_ok-push, else-len-limit}
use Rattle.hg_discovery.proofs.draw.pick.Goals.{else-len-limit-via-then-len-limit+else-is_picked}
use Rattle.hg_discovery.proofs.draw.pick.Goals.{else-len-limit-via-else-len-limit}

pub is_picked-requires-clause-within : goal.is_picked-requires-clause-within
is_picked-requires-clause-within c =
    c.requires.within c.loop-placed_node.placed_node-index
    (record { node = record { 0 = [] }; place = 0 }) c.loop-placed_node-test.true

pub loop-placed_node-preserved : goal.loop-placed_node-preserved
loop-placed_node-preserved c =
    let xs = c.args.placed_nodes.now in
    let i = c.loop-placed_node.placed_node-index in
    let none : PlacedNode = record { node = record { 0 = [] }; place = 0 } in
    let test = is_picked c.args.decided.now c.args.marks.now c.args.so c.args.covered in
    let found = c.loop-placed_node.found.items in
    let old = c.args.found.now.items in
    let length_is : length found ≡ vec_len c.loop-placed_node.found = sym c.loop-placed_node.found.ok.0 in
    elim c.if-len-limit.branch [
      | then-len-limit+then-is_picked+in_ok-push w ↦
          ap (λ v. v.items) w.found-is ∙ w.in_ok-push.ensures.items
          ∙ pick_push test c.args.limit old xs i none c.loop-placed_node-test.true found c.loop-placed_node.invariant
          (omega (arith, length_is, c.len.ensures, w.if-len-limit.true))
          (w.is_picked.ensures.0 w.if-is_picked.true)
      | else-len-limit w ↦ ap (λ v. v.items) w.found-is ∙ elim w.else-len-limit.branch [
        | else-len-limit-via-then-len-limit+else-is_picked v ↦
            pick_skip test c.args.limit old xs i none c.loop-placed_node-test.true found c.loop-placed_node.invariant
            (λ t. true≢false (sym (v.is_picked.ensures.1 t) ∙ v.if-is_picked.false))
        | else-len-limit-via-else-len-limit v ↦
            pick_full test c.args.limit old xs i none c.loop-placed_node-test.true found c.loop-placed_node.invariant
            (omega (arith, length_is, c.len.ensures, v.if-len-limit.false))
      ]
    ]
