use Rattle.std.proofs.Common.{◌≡◌, IfOk, subst}
use Rattle.hg_phases.specs.State.{State, state_of}
use Rattle.hg_join.specs.declared.absorbed.Absorbed.{Absorbed}
use Rattle.hg_history.specs.Answer.{part_with}
use Rattle.hg_history.specs.Change.{ChangeValue, IsNothing}
use Rattle.hg_history.specs.Undo.{UndoValue}
use Rattle.hg_history.proofs.NothingLemmas.{nothing_answered}
use Rattle.hg_history.proofs.history.History.absorb_with_undo.Goals as goal

pub returns-clause-nothing : goal.returns-clause-nothing
returns-clause-nothing c =
    let told = c.absorb_or_undo in
    let s : State = state_of c.self.inside.graph c.self.inside.kept.phases in
    let t : State = state_of told.new.graph told.new.kept.phases in
    subst (λ u. IfOk told.result (λ (absorbed : Absorbed ChangeValue UndoValue). IsNothing absorbed.change → t ≡ u))
    c.self.view_is
    (nothing_answered s t (part_with c.args.changesets c.args.bounds.now) told.result told.ensures.answer)
