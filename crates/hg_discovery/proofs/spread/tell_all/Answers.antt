use Rattle.std.proofs.Common.{◌≡◌, ◌+◌, ◌++◌, ◌∷◌, ◌∙◌, [], arith, take, get_or, false, refl}
use Rattle.std.proofs.lemmas.List.{take_more, take_all}
use Rattle.hg_discovery.proofs.ToldLemmas.{TakesAnswers-more, told_closed}
use Rattle.hg_discovery.proofs.spread.tell_all.Goals as goal

pub loop-i-init : goal.loop-i-init
loop-i-init c = record {
  told = refl;
  closed = c.requires.closed;
  len = refl;
}

pub loop-i-preserved : goal.loop-i-preserved
loop-i-preserved c =
    let ps = c.args.parents.now in
    let xs = c.args.asked.now in
    let bs = c.args.answers.now in
    let i = c.loop-i.i in
    let x = get_or xs i (record { node = record { 0 = [] }; place = 0 }) in
    let b = get_or bs i false in
    let mid = c.loop-i.decided in
    let new = c.tell.new.decided in
    let more_xs : take (i + 1) xs ≡ take i xs ++ x ∷ [] = take_more xs i _ c.loop-i-test.true in
    let more_bs : take (i + 1) bs ≡ take i bs ++ b ∷ [] = take_more bs i false
    (omega (arith, c.requires.answers, c.loop-i-test.true)) in
    record {
      told = rw more_xs (rw more_bs (TakesAnswers-more ps (take i xs)
          (take i bs) x b c.args.decided.now mid new c.loop-i.invariant.told c.in_ok-tell.ensures.told));
      closed = told_closed ps x.place b mid new (c.loop-i.invariant.len ∙ c.requires.len) c.requires.in_order
          c.loop-i.invariant.closed c.in_ok-tell.ensures.told;
      len = c.tell.ensures.len ∙ c.loop-i.invariant.len;
    }

pub returns-clause-told : goal.returns-clause-told
returns-clause-told c =
    let xs = c.args.asked.now in
    let bs = c.args.answers.now in
    let i = c.loop-i.i in
    let all_xs : take i xs ≡ xs = take_all i xs (omega arith) in
    let all_bs : take i bs ≡ bs = take_all i bs (omega (arith, c.requires.answers)) in
    rw all_bs at (rw all_xs at c.loop-i.invariant.told)
