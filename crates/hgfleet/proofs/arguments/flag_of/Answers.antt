use Rattle.std.proofs.Common.{ap, unwrap_or, false}
use Rattle.hgfleet.proofs.OptionLemmas.{flag_read}
use Rattle.hgfleet.proofs.arguments.flag_of.Goals as goal

pub returns-in-Some : goal.returns-in-Some
returns-in-Some c =
    flag_read _ c.args.given.now c.args.flag.now c.get_one.result c.get_one.ensures.none c.get_one.ensures.value
    c.in-Some.is_given (ap (λ o. unwrap_or o false) c.in-Some.is)

pub returns-in-None : goal.returns-in-None
returns-in-None c =
    flag_read _ c.args.given.now c.args.flag.now c.get_one.result c.get_one.ensures.none c.get_one.ensures.value
    false (ap (λ o. unwrap_or o false) c.in-None.is)
