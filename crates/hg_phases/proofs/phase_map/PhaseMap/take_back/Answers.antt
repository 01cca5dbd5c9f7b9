use Rattle.std.proofs.Common.{◌≡◌, ◌<◌, All, length, take, sym, ap, subst, ◌∙◌}
use Rattle.hg_phases.specs.State.{state_of, IsValid}
use Rattle.hg_phases.specs.Log.{restored}
use Rattle.hg_phases.proofs.LogLemmas.{within_log, length-restored}
use Rattle.hg_phases.proofs.AdmitLemmas.{valid-take}
use Rattle.hg_phases.proofs.phase_map.PhaseMap.take_back.Goals as goal

pub restore-requires : goal.restore-requires
restore-requires c =
    subst (All (λ e. e.place < length c.args.self.now)) (sym c.log.view_is) (within_log _ _ _ _ c.requires.logged.1)

pub returns-clause-valid : goal.returns-clause-valid
returns-clause-valid c =
    let cs = c.args.graph.now in
    let before = restored c.args.self.now c.args.log.now in
    let is : c.truncate.new.self ≡ take c.args.before before = c.truncate.ensures ∙ ap (take c.args.before)
    (c.restore.ensures.restored ∙ ap (restored c.args.self.now) c.log.view_is) in
    subst (λ ks. IsValid (state_of (take c.args.before cs) ks)) (sym is)
    (valid-take c.args.before _ _ (length-restored c.args.self.now c.args.log.now ∙ c.requires.len) c.requires.valid)
