use Rattle.std.proofs.Common.{Option, subst}
use Rattle.std.proofs.lemmas.Result.{on_ok_weaker}
use Rattle.hg_replica.specs.State.{IsValid}
use Rattle.hg_message.specs.declared.scope.Scope.TheVariants.{Whole}
use Rattle.hg_world.proofs.Places.{read_at}
use Rattle.hg_fleet.specs.declared.pulled.Pulled.{Pulled}
use Rattle.hg_fleet.specs.Pulls.{IsPulled}
use Rattle.hg_race.proofs.RingLemmas.{none_absent, runs_none, runs_pulled, shared}
use Rattle.hg_race.proofs.agreement.share.Goals as goal

pub returns-in_err-shared-clause-run : goal.returns-in_err-shared-clause-run
returns-in_err-shared-clause-run c = runs_none c.args.fleet.now c.share.new.self c.in_err-shared.ensures.unchanged

pub unreachable-requires : goal.unreachable-requires
unreachable-requires c =
    none_absent c.args.fleet.now c.args.taker c.args.giver c.requires.taker c.requires.giver
    (subst (λ (p : Option Pulled). IsPulled c.args.fleet.now c.args.taker c.args.giver Whole p c.share.new.self)
    c.in-None.is c.in_ok-shared.ensures.pulled).0

pub returns-clause-run : goal.returns-clause-run
returns-clause-run c =
    runs_pulled c.args.fleet.now c.share.new.self c.args.taker c.args.giver c.in_ok-shared.field-0
    c.in_ok-shared.ensures.pulled

pub returns-clause-shared : goal.returns-clause-shared
returns-clause-shared c =
    let old = c.args.fleet.now in
    let pulls =
    (subst (λ (p : Option Pulled). IsPulled old c.args.taker c.args.giver Whole p c.share.new.self) c.in-Some.is
    c.in_ok-shared.ensures.pulled).0 in
    let s = c.index-peers-taker.result in
    let at = read_at old.nodes c.args.taker s c.requires.taker (rw (← c.peers.ensures) c.index-peers-taker.is) in
    on_ok_weaker c.check_shared.result
    (shared old c.share.new.self c.args.taker c.args.giver s at (subst IsValid c.replica.ensures c.is_valid.ensures)
    c.in-Some.shared.offered c.in-Some.shared.taken pulls)
    c.check_shared.ensures
