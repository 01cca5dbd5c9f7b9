use Rattle.std.proofs.Common.{◌≡◌, ◌<◌, All, length, sym, ap, subst, ◌∙◌, arith}
use Rattle.std.proofs.lemmas.List.{length-take-le}
use Rattle.hg_phases.specs.Log.{restored}
use Rattle.hg_phases.proofs.LogLemmas.{within_log, length-restored}
use Rattle.hg_phases.proofs.PlaceLemmas.{graph_of_state}
use Rattle.hg_phases.proofs.RootPlaceLemmas.{roots-taken}
use Rattle.hg_phases.proofs.phase_roots.PhaseRoots.take_back.Goals as goal

pub take_back_logged-requires-clause-logged : goal.take_back_logged-requires-clause-logged
take_back_logged-requires-clause-logged c =
    subst (All (λ e. e.place < length c.args.graph.now)) (sym c.log.view_is) (λ k d h. omega
    (arith, within_log _ _ _ _ c.requires.logged.1 k d h, c.requires.kept.len))

pub returns-clause-kept : goal.returns-clause-kept
returns-clause-kept c =
    let cs = c.args.graph.now in
    let now = c.args.self.now.phases in
    let n = c.args.before in
    let back = c.take_back_logged.new.phases in
    let len : length back ≡ length cs =
    ap length c.take_back_logged.ensures.restored ∙ length-restored now c.log.inside.places.items
    ∙ c.requires.kept.len in
    let taken = roots-taken cs (graph_of_state cs now c.requires.kept.len c.requires.valid) back n
    c.take_back_logged.new.roots c.requires.within c.take_back_logged.ensures.rooted in
    record {
      len = ap length c.truncate.ensures ∙ length-take-le n back (omega (arith, c.requires.within, len))
          ∙ sym (length-take-le n cs c.requires.within);
      roots = rw (← c.truncate.ensures, ← c.truncate-2.ensures) at taken;
    }
