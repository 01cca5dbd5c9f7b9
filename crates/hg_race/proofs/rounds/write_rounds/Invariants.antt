use Rattle.hg_race.specs.Rounds.{AreRounds}
use Rattle.hg_race.proofs.rounds.write_rounds.Given as goal

abbrev pub invariant-loop-done : goal.invariant-loop-done
invariant-loop-done g l =
    AreRounds g.M.Mailbox.given g.M.Mailbox.FindsNoRoom g.K.NodeName.opening l.done l.fn.next l.next
