use Rattle.std.proofs.Common.{ℕ, subst, arith}
use Rattle.hg_race.specs.Rounds.{AreRounds}
use Rattle.hg_race.proofs.RoundLemmas.{no_rounds, round_more}
use Rattle.hg_race.proofs.rounds.write_rounds.Goals as goal

pub loop-done-init : goal.loop-done-init
loop-done-init g c = no_rounds _ _ _ _

pub loop-done-preserved : goal.loop-done-preserved
loop-done-preserved g c = round_more _ _ _ _ _ _ _ _ _ c.loop-done.invariant c.in_ok-put_offer.ensures

pub returns : goal.returns
returns g c =
    subst (λ (n : ℕ). AreRounds g.M.Mailbox.given g.M.Mailbox.FindsNoRoom g.K.NodeName.opening n c.args.next.now
    c.loop-done.next)
    (let a = c.loop-done-test.false in let b = c.loop-done.auto.done-end in omega arith) c.loop-done.invariant
