use Rattle.hg_trial.proofs.DifferenceLemmas.{not_held_first, not_held_second, told_phases}
use Rattle.hg_trial.proofs.difference.different_phases.Goals as goal

pub returns-in-Some-2 : goal.returns-in-Some-2
returns-in-Some-2 c =
    told_phases c.args.first.now c.args.second.now c.in_ok-here.ensures.valid c.in_ok-there-in-Some.ensures.valid
    c.args.node _ _ c.in-Some.here c.in-Some-2.there c.both_if_different.result c.in_ok-here.ensures.phase
    c.in_ok-there-in-Some.ensures.phase c.in-Some.is c.in-Some-2.is c.both_if_different.ensures

pub returns-in-None-2 : goal.returns-in-None-2
returns-in-None-2 c =
    not_held_second c.args.first.now c.args.second.now c.in_ok-there-in-Some.ensures.valid c.args.node _
    c.in_ok-there-in-Some.ensures.phase c.in-None-2.is

pub returns-in-None : goal.returns-in-None
returns-in-None c =
    not_held_first c.args.first.now c.args.second.now c.in_ok-here.ensures.valid c.args.node _
    c.in_ok-here.ensures.phase c.in-None.is
