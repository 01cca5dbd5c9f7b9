use Rattle.std.proofs.Common.{ℕ, subst, arith}
use Rattle.hg_race.specs.Turns.{AreTurns}
use Rattle.hg_race.proofs.TurnLemmas.{no_turns, turn_more}
use Rattle.hg_race.proofs.taking.take_rounds.Goals as goal

pub loop-round-init : goal.loop-round-init
loop-round-init g c = no_turns _ _ _ _ _

pub loop-round-preserved : goal.loop-round-preserved
loop-round-preserved g c = turn_more _ _ _ _ _ _ _ _ _ _ c.loop-round.invariant c.in_ok-take_all.ensures

pub returns : goal.returns
returns g c =
    subst (λ (n : ℕ). AreTurns g.M.Mailbox.taken g.M.Mailbox.FindsNone g.K.NodeName.opening n c.args.own.now
    c.args.pass.now c.loop-round.own c.loop-round.pass)
    (let a = c.loop-round-test.false in let b = c.loop-round.auto._round-end in omega arith) c.loop-round.invariant
