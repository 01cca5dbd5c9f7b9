use Rattle.std.proofs.Common.{◌≡◌, length, Some, slice_get, refl, ap, subst, arith}
use Rattle.hg_changeset.proofs.ListLemmas.{slice_get_some}
use Rattle.hg_phases.specs.State.{State, held_of}
use Rattle.hg_phases.proofs.PlaceLemmas.{held-at}
use Rattle.hg_history.proofs.UndoLemmas.{length-held_of}
use Rattle.hg_history.proofs.history.History.phase_at.Goals as goal

pub returns-then-place-len : goal.returns-then-place-len
returns-then-place-len c =
    let cs = c.self.inside.graph in
    let ks = c.self.inside.kept.phases in
    let changeset = slice_get_some cs c.args.place (omega (arith, c.if-place-len.true, c.len.ensures.len)) in (
      record { changeset = changeset.0; phase = c.at.result },
      subst (λ (s : State). slice_get s.held c.args.place
          ≡ Some (record { changeset = changeset.0; phase = c.at.result })) c.self.view_is
          (held-at cs ks c.args.place changeset.0 c.at.result changeset.1 c.at.ensures),
      refl,
    )

pub returns-else-place-len : goal.returns-else-place-len
returns-else-place-len c =
    let cs = c.self.inside.graph in
    let ks = c.self.inside.kept.phases in
    let held : length (held_of cs ks) ≡ length c.args.self.now.held =
    ap (λ (s : State). length s.held) c.self.view_is in
    omega (arith, c.if-place-len.false, c.len.ensures.len, held, length-held_of cs ks c.self.invariant.0.len)
