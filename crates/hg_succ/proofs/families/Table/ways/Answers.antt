use Rattle.std.proofs.Common.{get_or, sym, [], ◌∙◌, ℕ, Option, Some, None, IfNone}
use Rattle.std.proofs.lemmas.List.{get_or_default}
use Rattle.hg_changeset.specs.declared.node.Node.{Node}
use Rattle.hg_succ.specs.Factors.{HasManyWays}
use Rattle.hg_succ.proofs.FactorLemmas.{stops_many, stops_overfull, goes_on}
use Rattle.hg_succ.proofs.families.Table.ways.Goals as goal

pub returns-then-product-gt-UNION_LIMIT-clause-many : goal.returns-then-product-gt-UNION_LIMIT-clause-many
returns-then-product-gt-UNION_LIMIT-clause-many c =
    let nodes = c.args.nodes.now in
    let i = c.loop-node.node-index in
    let x : Node = get_or nodes i (record { 0 = [] }) in
    stops_many c.args.self.now nodes i x c.loop-node-test.true
    (get_or_default nodes i (record { 0 = [] }) x c.loop-node-test.true) c.loop-node.product c.in_ok-factor.factor
    c.loop-node.invariant (sym c.in_ok-factor.ensures) c.saturating_mul-product.result
    c.saturating_mul-product.ensures c.if-product-gt-UNION_LIMIT.true

pub loop-node-preserved : goal.loop-node-preserved
loop-node-preserved c =
    let nodes = c.args.nodes.now in
    let i = c.loop-node.node-index in
    let x : Node = get_or nodes i (record { 0 = [] }) in
    goes_on c.args.self.now nodes i x c.loop-node-test.true
    (get_or_default nodes i (record { 0 = [] }) x c.loop-node-test.true) c.loop-node.product c.in_ok-factor.factor
    c.loop-node.invariant (sym c.in_ok-factor.ensures) c.saturating_mul-product.result
    c.saturating_mul-product.ensures c.if-product-gt-UNION_LIMIT.false

if_none : (o : Option ℕ) (P : Type 0) → P → IfNone o P
if_none None P p = p
if_none (Some k) P p = tt

pub returns-in_err-factor-clause-many : goal.returns-in_err-factor-clause-many
returns-in_err-factor-clause-many c =
    let nodes = c.args.nodes.now in
    let i = c.loop-node.node-index in
    let x : Node = get_or nodes i (record { 0 = [] }) in
    if_none c.from_residual.result (HasManyWays c.args.self.now nodes)
    (stops_overfull c.args.self.now nodes i x c.loop-node-test.true
    (get_or_default nodes i (record { 0 = [] }) x c.loop-node-test.true)
    (sym c.factor.ensures ∙ c.in_err-factor.was))
