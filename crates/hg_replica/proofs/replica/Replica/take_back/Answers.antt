use Rattle.std.proofs.Common.{◌≡◌, ◌∙◌, sym, subst}
use Rattle.hg_replica.specs.State.{ReplicaState}
use Rattle.hg_replica.specs.Undo.{UndoValue, LeadsBack}
use Rattle.hg_replica.proofs.replica.Replica.take_back.Goals as goal

-- the undo leads back from what is kept
inside : (t : ReplicaState) (undo : UndoValue) (now : ReplicaState) (given : UndoValue) → now ≡ t → given ≡ undo
    → (s : ReplicaState) → LeadsBack t undo s → LeadsBack now given s
inside t undo now given now_is given_is s back =
    subst (λ u. LeadsBack now u s) (sym given_is) (subst (λ r. LeadsBack r undo s) (sym now_is) back)

pub take_back-requires : goal.take_back-requires
take_back-requires c =
    let now : ReplicaState = record { history = c.self.inside.history; markers = c.self.inside.store } in
    let undo : UndoValue = record { history = c.undo.inside.history; markers = c.undo.inside.markers } in
    let led =
    inside c.args.self.now c.args.undo now undo c.self.view_is c.undo.view_is c.requires.0 c.requires.1 in
    (c.requires.0.history, led.history)

pub returns-clause-back : goal.returns-clause-back
returns-clause-back c s back =
    let now : ReplicaState = record { history = c.self.inside.history; markers = c.self.inside.store } in
    let undo : UndoValue = record { history = c.undo.inside.history; markers = c.undo.inside.markers } in
    let led = inside c.args.self.now c.args.undo now undo c.self.view_is c.undo.view_is s back in
    let history = c.take_back.ensures.back s.history led.history in
    let markers : c.truncate.new.self ≡ s.markers = c.truncate.ensures ∙ sym led.markers in
    λ i. record { history = history i; markers = markers i }
