use Rattle.std.proofs.Common.{◌==◌, length, refl, sym, ap, ◌∙◌, true≢false}
use Rattle.std.proofs.lemmas.Result.{on_ok_weaker}
use Rattle.hg_race.proofs.RingLemmas.{runs_none, whole_round}
use Rattle.hg_race.proofs.agreement.go_round.Goals as goal

pub returns-then-is_empty-clause-run : goal.returns-then-is_empty-clause-run
returns-then-is_empty-clause-run c = runs_none c.args.fleet.now c.args.fleet.now refl

pub returns-clause-round : goal.returns-clause-round
returns-clause-round c =
    on_ok_weaker c.end_round.result
    (whole_round c.args.fleet.now.nodes c.end_round.new.fleet.nodes
    (λ e. true≢false (ap (λ k. k == 0) (sym (ap length (c.peers.ensures ∙ e))) ∙ sym c.is_empty.ensures
    ∙ c.if-is_empty.false)))
    c.end_round.ensures.round
