use Rattle.std.proofs.Common.{[], true≢false, get_or, map, refl, sym, subst, arith, ◌∙◌}
use Rattle.hg_rewrite.specs.declared.refusal.Refusal.TheVariants.{AlreadyObsolete}
use Rattle.hg_rewrite.specs.Refusals.{is_obsolete, NoneApplies, IsFirstRefusal}
use Rattle.hg_rewrite.proofs.RowLemmas.{none_more, first_next, none_of_all}
use Rattle.hg_rewrite.proofs.check.check_not_obsolete.Goals as goal

pub returns-then-is_obsolete : goal.returns-then-is_obsolete
returns-then-is_obsolete c =
    let ns = c.rewritten-nodes.result.now in
    let i = c.loop-node.node-index in
    let row = is_obsolete c.args.replica.now in
    subst (λ ms. IsFirstRefusal (map row ms) (AlreadyObsolete (get_or ns i (record { 0 = [] }))))
    c.rewritten-nodes.ensures
    (first_next row ns i (record { 0 = [] }) (AlreadyObsolete (get_or ns i (record { 0 = [] })))
    (omega arith) c.loop-node.invariant (c.is_obsolete.ensures.0 c.if-is_obsolete.true, refl))

pub loop-node-preserved : goal.loop-node-preserved
loop-node-preserved c =
    none_more (is_obsolete c.args.replica.now) c.rewritten-nodes.result.now c.loop-node.node-index (record { 0 = [] })
    (omega arith) c.loop-node.invariant
    (λ r. true≢false (sym (c.is_obsolete.ensures.1 r.1.0) ∙ c.if-is_obsolete.false))

pub returns : goal.returns
returns c =
    let row = is_obsolete c.args.replica.now in
    subst (λ ms. NoneApplies (map row ms)) c.rewritten-nodes.ensures
    (none_of_all row c.rewritten-nodes.result.now c.loop-node.node-index (omega arith) c.loop-node.invariant)
