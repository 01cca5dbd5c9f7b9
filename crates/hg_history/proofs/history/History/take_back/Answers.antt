use Rattle.std.proofs.Common.{◌≡◌, ◌∙◌, sym, subst}
use Rattle.hg_phases.specs.State.{State, IsValid, state_of}
use Rattle.hg_phases.specs.RootPlaces.{ArePhasesAndRoots}
use Rattle.hg_history.specs.Undo.{UndoValue, LeadsBack}
use Rattle.hg_history.proofs.UndoLemmas.{led_within, led_logged, led_state}
use Rattle.hg_history.proofs.history.History.take_back.Goals as goal
use Rattle.hg_history.proofs.history.History.take_back.Goals.{After-drop-log}

-- the undo leads back from what is kept
inside : (t : State) (undo : UndoValue) (now : State) (given : UndoValue) → now ≡ t → given ≡ undo → (s : State)
    → LeadsBack t undo s → LeadsBack now given s
inside t undo now given now_is given_is s back =
    subst (λ u. LeadsBack now u s) (sym given_is) (subst (λ r. LeadsBack r undo s) (sym now_is) back)

pub take_back-requires-clause-within : goal.take_back-requires-clause-within
take_back-requires-clause-within c =
    let undo : UndoValue = record { before = c.undo.inside.before; log = c.undo.inside.log } in
    led_within _ _ c.self.invariant.0.len _ _ (inside _ _ _ _ c.self.view_is c.undo.view_is _ c.requires.1)

pub take_back-requires-clause-logged : goal.take_back-requires-clause-logged
take_back-requires-clause-logged c =
    let undo : UndoValue = record { before = c.undo.inside.before; log = c.undo.inside.log } in
    led_logged _ _ c.self.invariant.0.len _ _ (inside _ _ _ _ c.self.view_is c.undo.view_is _ c.requires.1)

module _ (c : After-drop-log) where
  state_is : (s : State) → LeadsBack c.args.self.now c.args.undo s
      → state_of c.truncate.new.self c.take_back.new.self.phases ≡ s
  state_is s back =
      let cs = c.self.inside.graph in
      let ks = c.self.inside.kept.phases in
      let undo : UndoValue = record { before = c.undo.inside.before; log = c.undo.inside.log } in
      (λ i. state_of (c.truncate.ensures i) (c.take_back.ensures.back i))
      ∙ led_state cs ks c.self.invariant.0.len undo s
      (inside c.args.self.now c.args.undo (state_of cs ks) undo c.self.view_is c.undo.view_is s back)

pub invariant_of-self : goal.invariant_of-self
invariant_of-self c = (
  subst (λ cs. ArePhasesAndRoots cs c.take_back.new.self) (sym c.truncate.ensures) c.take_back.ensures.kept,
  subst IsValid (sym (state_is c c.requires.0 c.requires.1)) c.requires.1.valid,
)

pub returns-clause-back : goal.returns-clause-back
returns-clause-back c s back = state_is c s back

pub returns-clause-still_valid : goal.returns-clause-still_valid
returns-clause-still_valid c = subst IsValid (sym (state_is c c.requires.0 c.requires.1)) c.requires.1.valid
