use Rattle.std.proofs.Common.{ap, arith, length}
use Rattle.hg_race.proofs.RingLemmas.{runs_then, same_number}
use Rattle.hg_race.proofs.agreement.share_in_ring.Goals as goal

pub returns-in_err-go_round-2-clause-run : goal.returns-in_err-go_round-2-clause-run
returns-in_err-go_round-2-clause-run c =
    runs_then c.args.fleet.now c.go_round.new.fleet c.go_round-2.new.fleet c.go_round.ensures.run
    c.go_round-2.ensures.run

pub agreeing-requires : goal.agreeing-requires
agreeing-requires c =
    omega (
      arith,
      ap length c.peers.ensures,
      same_number c.args.fleet.now c.go_round.new.fleet c.go_round.ensures.run,
      same_number c.go_round.new.fleet c.go_round-2.new.fleet c.go_round-2.ensures.run,
      c.requires,
    )

pub returns-clause-run : goal.returns-clause-run
returns-clause-run c =
    runs_then c.args.fleet.now c.go_round.new.fleet c.go_round-2.new.fleet c.go_round.ensures.run
    c.go_round-2.ensures.run
