use Rattle.hg_race.specs.Turns.{AreTurns}
use Rattle.hg_race.proofs.taking.take_rounds.Given as goal

abbrev pub invariant-loop-round : goal.invariant-loop-round
invariant-loop-round g l =
    AreTurns g.M.Mailbox.taken g.M.Mailbox.FindsNone g.K.NodeName.opening l._round l.fn.own l.fn.pass l.own l.pass
