use Rattle.std.proofs.Common.{◌<◌, [], inl, inr, not, nat_lt, get_or, sym, ap, arith}
use Rattle.std.proofs.lemmas.Bool.{lt-ltb, cases_Bool, ltb-true}
use Rattle.std.proofs.lemmas.List.{get_or_default}
use Rattle.std.proofs.lemmas.List.Elements.{Contains-get_or}
use Rattle.hg_changeset.specs.declared.node.Node.{Node}
use Rattle.hg_succ.specs.Cover.{count_in, entry}
use Rattle.hg_succ.proofs.SetLemmas.{has_any}
use Rattle.hg_succ.proofs.CountLemmas.{any_more}
use Rattle.hg_succ.proofs.families.Table.have_none.Goals as goal

pub returns-then-count-gt0 : goal.returns-then-count-gt0
returns-then-count-gt0 c =
    let nodes = c.args.nodes.now in
    let x : Node = get_or nodes c.loop-node.node-index (record { 0 = [] }) in
    let l : 0 < count_in (entry c.args.self.now x) = omega (arith, c.count.ensures, c.if-count-gt0.true) in
    sym (ap not (has_any (λ n. nat_lt 0 (count_in (entry c.args.self.now n))) nodes x
    (Contains-get_or nodes c.loop-node.node-index (record { 0 = [] }) c.loop-node-test.true)
    (lt-ltb 0 (count_in (entry c.args.self.now x)) l)))

pub loop-node-preserved : goal.loop-node-preserved
loop-node-preserved c =
    let nodes = c.args.nodes.now in
    let i = c.loop-node.node-index in
    let x : Node = get_or nodes i (record { 0 = [] }) in
    any_more (λ n. nat_lt 0 (count_in (entry c.args.self.now n))) nodes i x c.loop-node-test.true
    (get_or_default nodes i (record { 0 = [] }) x c.loop-node-test.true) c.loop-node.invariant
    (elim (cases_Bool (nat_lt 0 (count_in (entry c.args.self.now x)))) [
      | inl some ↦ absurd (let l = ltb-true 0 (count_in (entry c.args.self.now x)) some in
          omega (arith, l, c.count.ensures, c.if-count-gt0.false))
      | inr less ↦ less
    ])
