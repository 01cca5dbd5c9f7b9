use Rattle.std.proofs.Common.{subst, arith}
use Rattle.std.proofs.lemmas.Option.{slice_get_within}
use Rattle.hg_replica.specs.Content.{content_of}
use Rattle.hg_replica.specs.Evolution.{HasPhase}
use Rattle.hg_instab.proofs.QueryLemmas.{phase_there, held_there, one_phase}
use Rattle.hg_instab.proofs.query.has_phase_at.Goals as goal

pub returns-in-Some : goal.returns-in-Some
returns-in-Some c = λ n at.
    let s = c.args.replica.now in
    let f = content_of s in
    let told = c.in-Some.ensures in
    let its : HasPhase f n c.in-Some.its = subst (HasPhase f n) told.2
    (phase_there s c.is_valid.ensures c.args.place n at told.0 told.1) in (
      λ t. subst (HasPhase f n) (c.is_same.ensures.0 t) its,
      λ h. c.is_same.ensures.1 (one_phase f n c.in-Some.its c.args.phase its h),
    )

pub returns-in-None : goal.returns-in-None
returns-in-None c = λ n at.
    let s = c.args.replica.now in
    let h = held_there s c.is_valid.ensures c.args.place n at in
    let beyond = c.in-None.ensures in
    absurd (omega (arith, slice_get_within s.history.held c.args.place h.0 h.1, beyond))
