use Rattle.std.proofs.Common.{◌≡◌, ◌⊎◌, sym, subst}
use Rattle.hg_phases.specs.State.{state_of}
use Rattle.hg_phases.specs.Least.{part_of}
use Rattle.hg_history.specs.Answer.{IsGrowthBeforeFault}
use Rattle.hg_history.proofs.NothingLemmas.{growth_or_same}
use Rattle.hg_history.proofs.UndoLemmas.{rooted_back}
use Rattle.hg_history.proofs.join.join_and_update.Goals as goal

pub update-requires-clause-rooted : goal.update-requires-clause-rooted
update-requires-clause-rooted c = rooted_back _ _ c.args.kept.now _ _ _ c.len-before.ensures.len
    c.join_logged.ensures.back c.requires.kept.roots

pub returns-in_ok-update-in-Ok-clause-growth : goal.returns-in_ok-update-in-Ok-clause-growth
returns-in_ok-update-in-Ok-clause-growth c =
    let cs = c.args.graph.now in
    let ks = c.args.kept.now.phases in
    let new = c.join_logged.new in
    subst
    (λ ls. IsGrowthBeforeFault (state_of cs ks) (part_of (state_of c.args.other.now c.args.other_phases.now))
    ⊎ (state_of new.graph ls ≡ state_of cs ks)) (sym c.update.ensures.same)
    (growth_or_same cs new.graph ks new.phases new.log c.join_logged.ensures.back c.in-Ok.ensures.growth)
