use Rattle.std.proofs.Common.{◌+◌, [], true≢false, sym, ◌∙◌, arith, refl}
use Rattle.std.proofs.lemmas.Option.{slice_get_within}
use Rattle.hg_rewrite.proofs.LineLemmas.{line_more, pair_of_line}
use Rattle.hg_rewrite.proofs.check.is_line.Goals as goal

pub returns-then-not-is_sole_parent : goal.returns-then-not-is_sole_parent
returns-then-not-is_sole_parent c = (
  (λ no. absurd (true≢false (sym no))),
  (λ linear. absurd (true≢false
      (sym (c.is_sole_parent.ensures.1 (pair_of_line c.args.replica.now.history c.args.nodes.now c.loop-i.i
      (record { 0 = [] }) (omega arith) (omega arith) linear)) ∙ c.if-not-is_sole_parent.true))),
)

pub loop-i-preserved : goal.loop-i-preserved
loop-i-preserved c =
    line_more c.args.replica.now.history c.args.nodes.now c.loop-i.i (record { 0 = [] }) (omega arith)
    (omega arith) c.loop-i.invariant (c.is_sole_parent.ensures.0 c.if-not-is_sole_parent.false)

pub returns : goal.returns
returns c = (
  (λ yes k a b at_a at_b. c.loop-i.invariant k a b (omega (arith, slice_get_within c.args.nodes.now (k + 1) b at_b))
      at_a at_b),
  (λ linear. refl),
)
