use Rattle.std.proofs.Common.{◌≡◌, ◌++◌, List, ℕ}
use Rattle.hg_race.specs.Turns.{AreHanded}
use Rattle.hg_race.proofs.taking.take_all.Given as goal

abbrev pub invariant-loop : goal.invariant-loop
invariant-loop g l =
    (messages : List (List ℕ)) × (g.M.Mailbox.taken l.own ≡ g.M.Mailbox.taken l.fn.own ++ messages)
    × AreHanded g.K.NodeName.opening messages l.fn.pass l.pass
