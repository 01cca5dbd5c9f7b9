use Rattle.std.proofs.Common.{◌≡◌, ℕ, List, Option, None, Some, IfNone, get_or, sum, Contains, ap, subst, ◌∙◌, arith}
use Rattle.std.proofs.lemmas.List.{get_or_default, take_all}
use Rattle.hg_changeset.specs.declared.node.Node.{Node}
use Rattle.hg_succ.specs.Numbered.{successors_at}
use Rattle.hg_succ.specs.Cover.{NoneOverfull}
use Rattle.hg_succ.specs.Factors.{HasManyWays, HasWays, ways_at, many_at}
use Rattle.hg_succ.proofs.FactorLemmas.{stops_there, sum_stops, sum_goes_on}
use Rattle.hg_succ.proofs.families.Table.all_ways.Goals as goal

if_none : (o : Option ℕ) (P : Type 0) → P → IfNone o P
if_none None P p = p
if_none (Some k) P p = tt

pub returns-in_err-sum-clause-many : goal.returns-in_err-sum-clause-many
returns-in_err-sum-clause-many c =
    let markers = c.args.markers.now in
    let places = c.args.places.now in
    let i = c.loop-place.place-index in
    let place = get_or places i 0 in
    let ns : c.successors_at.result.now ≡ successors_at markers place = c.successors_at.ensures in
    if_none c.from_residual.result (many_at c.args.self.now markers places)
    (stops_there c.args.self.now markers places i place c.loop-place-test.true
    (get_or_default places i 0 place c.loop-place-test.true)
    (subst (HasManyWays c.args.self.now) ns c.in_err-sum.ensures.many))

pub returns-then-sum-gt-UNION_LIMIT-clause-many : goal.returns-then-sum-gt-UNION_LIMIT-clause-many
returns-then-sum-gt-UNION_LIMIT-clause-many c =
    let markers = c.args.markers.now in
    let places = c.args.places.now in
    let i = c.loop-place.place-index in
    let place = get_or places i 0 in
    let ns : c.successors_at.result.now ≡ successors_at markers place = c.successors_at.ensures in
    sum_stops c.args.self.now markers places i place c.loop-place-test.true
    (get_or_default places i 0 place c.loop-place-test.true) c.loop-place.sum c.in_ok-sum.field-0
    c.loop-place.invariant.so_far
    (subst (λ (xs : List Node). HasWays c.args.self.now xs c.in_ok-sum.field-0) ns c.in_ok-sum.ensures.few)
    c.if-sum-gt-UNION_LIMIT.true

pub loop-place-preserved : goal.loop-place-preserved
loop-place-preserved c =
    let markers = c.args.markers.now in
    let places = c.args.places.now in
    let i = c.loop-place.place-index in
    let place = get_or places i 0 in
    let ns : c.successors_at.result.now ≡ successors_at markers place = c.successors_at.ensures in
    record {
      so_far = sum_goes_on c.args.self.now markers places i place c.loop-place-test.true
          (get_or_default places i 0 place c.loop-place-test.true) c.loop-place.sum c.in_ok-sum.field-0
          c.loop-place.invariant.so_far
          (subst (λ (xs : List Node). HasWays c.args.self.now xs c.in_ok-sum.field-0) ns c.in_ok-sum.ensures.few);
      few = c.if-sum-gt-UNION_LIMIT.false;
    }

pub returns-clause-few : goal.returns-clause-few
returns-clause-few c =
    let markers = c.args.markers.now in
    let places = c.args.places.now in
    let all = take_all c.loop-place.place-index places c.loop-place-test.false in
    let before = c.loop-place.invariant.so_far in
    let e = ap (λ (ps : List ℕ). sum (ways_at c.args.self.now markers ps)) all in
    record {
      few = (
        subst (λ (ps : List ℕ). (p : ℕ) → Contains ps p → NoneOverfull c.args.self.now (successors_at markers p)) all
            before.0,
        (let f = c.loop-place.invariant.few in omega (arith, e, f, before.1)),
      );
      ways = before.1 ∙ e;
    }
