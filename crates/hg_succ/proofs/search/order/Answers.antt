use Rattle.std.proofs.Common.{◌≡◌, arith, subst, inl, inr}
use Rattle.std.proofs.lemmas.Bool.{cases_lt}
use Rattle.std.proofs.lemmas.List.{length-map}
use Rattle.hg_succ.specs.declared.search.Progress.TheVariants.{New}
use Rattle.hg_succ.specs.Rows.{rows_of, At}
use Rattle.hg_succ.specs.Search.{state_of}
use Rattle.hg_succ.proofs.SearchLemmas.{all_listed}
use Rattle.hg_succ.proofs.search.order.Goals as goal

pub loop-node-preserved : goal.loop-node-preserved
loop-node-preserved c = record {
  search = c.in_ok-visit.ensures.search;
  waiting = c.in_ok-visit.ensures.waiting;
  met = λ x l new. elim (cases_lt x c.loop-node.node) [
    | inl before ↦ c.loop-node.invariant.met x before (c.in_ok-visit.ensures.met x new)
    | inr last ↦
        (let e : x ≡ c.loop-node.node = omega arith in
        c.in_ok-visit.ensures.done (subst (λ y. At c.visit.new.self.marks.items y New) e new))
  ];
}

pub returns : goal.returns
returns c = record {
  order = c.loop-node.invariant.search.order;
  all = λ x l. all_listed (rows_of c.args.rows.now) (state_of c.loop-node.search) c.loop-node.invariant.search
      c.loop-node.invariant.waiting x
      (omega (arith, l, length-map c.args.rows.now (λ row. row.items)))
      (c.loop-node.invariant.met x (omega (arith, l, c.loop-node-test.false, c.loop-node.auto.node-end)));
}
