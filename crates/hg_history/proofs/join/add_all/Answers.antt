use Rattle.std.proofs.Common.{◌<◌, ◌+◌, length, sym, subst, arith}
use Rattle.hg_history.specs.Steps.{IsAdded}
use Rattle.hg_history.proofs.AddLemmas.{IsAdded-step, stays_added}
use Rattle.hg_history.proofs.JoinLemmas.{missing}
use Rattle.hg_history.proofs.join.add_all.Goals as goal
use Rattle.hg_history.proofs.join.add_all.Goals.{in-Some+in-Ok, in-None}

pub returns-in-Err : goal.returns-in-Err
returns-in-Err c =
    stays_added _ _ _ _ _ _ c.loop-place.invariant _ (sym c.in-Some.ensures) _ _ _ c.in-Err.ensures

pub loop-place-preserved : goal.loop-place-preserved
loop-place-preserved c = elim c.match-changeset_at.branch [
  | in-Some+in-Ok w ↦
      let step = IsAdded-step _ _ _ _ _ _ c.loop-place.invariant _ (sym w.in-Some.ensures) _ _ _ w.in-Ok.ensures in
      subst (λ g. IsAdded c.args.graph.now c.args.phases.now c.args.other.now (c.loop-place.place + 1) g
      c.match-changeset_at.phases) (sym w.graph-is)
      (subst (λ p. IsAdded c.args.graph.now c.args.phases.now c.args.other.now (c.loop-place.place + 1)
      w.add_one.new.graph p) (sym w.phases-is) step)
  | in-None w ↦
      let within : c.loop-place.place < length c.args.other.now =
      omega (arith, c.loop-place-test.true, c.len-place-end.ensures.len) in
      absurd (missing _ _ _ within c.changeset_at.ensures w.in-None.is)
]
