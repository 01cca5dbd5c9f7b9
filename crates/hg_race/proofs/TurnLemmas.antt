-- Messages that are handed on, and turns, one after the other.
use Rattle.std.proofs.Common.{◌≡◌, ◌++◌, ◌+◌, ◌∙◌, ℕ, List, [], ◌∷◌, refl, sym, ap, subst, add-one, append_assoc}
use Rattle.hg_view.specs.Kept.{KeptValue}
use Rattle.hg_live.specs.NodeViews.{PassView}
use Rattle.hg_race.specs.Turns.{IsHanded, AreHanded, IsTurn, AreTurns}

-- a further message was taken
pub took_more : (before between after messages : List (List ℕ)) (message bytes : List ℕ) →
    between ≡ before ++ messages → after ≡ between ++ message ∷ [] → bytes ≡ message →
    after ≡ before ++ (messages ++ bytes ∷ [])
took_more before between after messages message bytes h k e =
    k ∙ ap (λ (t : List (List ℕ)). t ++ message ∷ []) h ∙ append_assoc before messages (message ∷ [])
    ∙ ap (λ (b : List ℕ). before ++ (messages ++ b ∷ [])) (sym e)

-- a further message was handed on
pub handed_more : (o : KeptValue) (messages : List (List ℕ)) (message : List ℕ) (a b c : PassView) →
    AreHanded o messages a b → IsHanded o message b c → AreHanded o (messages ++ message ∷ []) a c
handed_more o [] message a b c h k = (c, subst (λ (p : PassView). IsHanded o message p c) h k, refl)
handed_more o (m ∷ messages) message a b c h k = (h.0, h.1, handed_more o messages message h.0 b c h.2 k)

-- no turn
pub no_turns : {S : Type 0} (taken : S → List (List ℕ)) (FindsNone : S → S → Type 0) (o : KeptValue) (own : S)
    (pass : PassView) → AreTurns taken FindsNone o 0 own pass own pass
unfolding AreTurns
no_turns taken FindsNone o own pass = (refl, refl)

-- a further turn
pub turn_more : {S : Type 0} (taken : S → List (List ℕ)) (FindsNone : S → S → Type 0) (o : KeptValue) (n : ℕ) (a : S)
    (p : PassView) (b : S) (q : PassView) (c : S) (r : PassView) → AreTurns taken FindsNone o n a p b q →
    IsTurn taken FindsNone o b q c r → AreTurns taken FindsNone o (n + 1) a p c r
unfolding AreTurns
turn_more taken FindsNone o n a p b q c r h k = rw (add-one n) (b, q, h, k)
