use Rattle.std.proofs.Common.{[], true≢false, get_or, map, refl, sym, subst, arith, ◌∙◌}
use Rattle.hg_rewrite.specs.declared.refusal.Refusal.TheVariants.{Public}
use Rattle.hg_rewrite.specs.Refusals.{is_public, NoneApplies, IsFirstRefusal}
use Rattle.hg_rewrite.proofs.RowLemmas.{none_more, first_next, none_of_all}
use Rattle.hg_rewrite.proofs.check.check_not_public.Goals as goal

pub returns-then-is_public : goal.returns-then-is_public
returns-then-is_public c =
    let ns = c.rewritten-nodes.result.now in
    let i = c.loop-node.node-index in
    let row = is_public c.args.replica.now.history in
    subst (λ ms. IsFirstRefusal (map row ms) (Public (get_or ns i (record { 0 = [] })))) c.rewritten-nodes.ensures
    (first_next row ns i (record { 0 = [] }) (Public (get_or ns i (record { 0 = [] })))
    (omega arith) c.loop-node.invariant (c.is_public.ensures.0 c.if-is_public.true, refl))

pub loop-node-preserved : goal.loop-node-preserved
loop-node-preserved c =
    none_more (is_public c.args.replica.now.history) c.rewritten-nodes.result.now c.loop-node.node-index
    (record { 0 = [] }) (omega arith) c.loop-node.invariant
    (λ r. true≢false (sym (c.is_public.ensures.1 r.1.0) ∙ c.if-is_public.false))

pub returns : goal.returns
returns c =
    let row = is_public c.args.replica.now.history in
    subst (λ ms. NoneApplies (map row ms)) c.rewritten-nodes.ensures
    (none_of_all row c.rewritten-nodes.result.now c.loop-node.node-index (omega arith) c.loop-node.invariant)
