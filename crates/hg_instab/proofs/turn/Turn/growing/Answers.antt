use Rattle.std.proofs.Common.{Contains, subst}
use Rattle.hg_changeset.proofs.ListLemmas.{Contains-none}
use Rattle.hg_instab.proofs.TurnLemmas.{grown}
use Rattle.hg_instab.proofs.turn.Turn.growing.Goals as goal

pub returns-clause-turn : goal.returns-clause-turn
returns-clause-turn c = record {
  come = λ n h. ((c.in_ok-come.ensures n).0 h).1;
  gone = λ n h. absurd (Contains-none n (subst (λ ns. Contains ns n) c.new.ensures.items h));
}

pub returns-clause-then : goal.returns-clause-then
returns-clause-then c = grown c.args.set.now.keys c.args.nodes.now
    (record { come = c.in_ok-come.come; gone = c.new.result }) c.new.ensures.items c.in_ok-come.ensures
