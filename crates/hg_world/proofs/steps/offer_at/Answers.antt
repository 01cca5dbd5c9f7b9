use Rattle.std.proofs.Common.{None, inr, refl, ◌∙◌}
use Rattle.hg_world.proofs.Places.{read_at, pushed, length_bytes}
use Rattle.hg_world.proofs.steps.offer_at.Goals as goal

pub returns-in-Ok-clause-happens : goal.returns-in-Ok-clause-happens
returns-in-Ok-clause-happens g c =
    let there = read_at c.args.nodes.now c.args.at c.index-nodes-at.result c.if-at-nodes.false c.index-nodes-at.is in (
      None,
      (
        c.index-nodes-at.result,
        c.in-Ok.bytes.items,
        there,
        c.in-Ok.ensures.ok,
        c.len-number.ensures ∙ length_bytes c.args.messages.now,
        refl,
        pushed c.args.messages.now c.push.new.self c.in-Ok.bytes (rw c.unwrap.ensures at c.push.ensures.items),
      ),
    )

pub returns-in-Err-clause-happens : goal.returns-in-Err-clause-happens
returns-in-Err-clause-happens g c =
    let there = read_at c.args.nodes.now c.args.at c.index-nodes-at.result c.if-at-nodes.false c.index-nodes-at.is in
    (None, (inr (c.index-nodes-at.result, there, c.in-Err.ensures.err), refl))
