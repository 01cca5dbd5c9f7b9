use Rattle.std.proofs.Common.{arith, rules}
use Rattle.hgfleet.proofs.NumberLemmas.{given_inside, given_outside, given_none}
use Rattle.hgfleet.proofs.arguments.number_of.Goals as goal

pub returns-in-Some-clause-given : goal.returns-in-Some-clause-given
returns-in-Some-clause-given c =
    given_inside c.args.low c.args.high (search rules) c.args.given.now c.args.name.now c.get_one.result
    c.get_one.ensures.none c.get_one.ensures.value c.in-Some.number c.in-Some.is c.if-low-number.true
    c.if-number-high.true

pub returns-in_default-clause-given : goal.returns-in_default-clause-given
returns-in_default-clause-given c =
    given_outside c.args.low c.args.high (search rules) c.args.given.now c.args.name.now c.get_one.result
    c.get_one.ensures.none c.get_one.ensures.value c.in-Some.number c.in-Some.is
    (λ above below. omega (arith, below, c.if-number-high.false))

pub returns-in_default-2-clause-given : goal.returns-in_default-2-clause-given
returns-in_default-2-clause-given c =
    given_outside c.args.low c.args.high (search rules) c.args.given.now c.args.name.now c.get_one.result
    c.get_one.ensures.none c.get_one.ensures.value c.in-Some.number c.in-Some.is
    (λ above below. omega (arith, above, c.if-low-number.false))

pub returns-in_default-3-clause-given : goal.returns-in_default-3-clause-given
returns-in_default-3-clause-given c =
    given_none c.args.low c.args.high (search rules) c.args.given.now c.args.name.now c.get_one.result
    c.get_one.ensures.none c.get_one.ensures.value c.in_default.is
