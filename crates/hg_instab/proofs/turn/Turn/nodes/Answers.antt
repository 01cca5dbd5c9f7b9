use Rattle.std.proofs.Common.{◌≡◌, ◌++◌, Contains, sym, ap, subst, ◌∙◌}
use Rattle.std.proofs.lemmas.List.Elements.{Contains-append_left, Contains-append_right}
use Rattle.hg_instab.proofs.TurnLemmas.{others-then}
use Rattle.hg_instab.proofs.turn.Turn.nodes.Goals as goal

pub returns : goal.returns
returns c set n not =
    let come = c.args.self.now.come.items in
    let gone = c.args.self.now.gone.items in
    let first : c.extend_from_slice.new.self.items ≡ come =
    c.in_ok-extend_from_slice.ensures.items ∙ ap (λ xs. xs ++ c.deref.result.now) c.new-nodes.ensures.items
    ∙ c.deref.ensures.value in
    let all : c.extend_from_slice-2.new.self.items ≡ come ++ gone =
    c.in_ok-extend_from_slice-2.ensures.items ∙ ap (λ xs. xs ++ c.deref-2.result.now) first
    ∙ ap (λ xs. come ++ xs) c.deref-2.ensures.value in
    let none : Contains (come ++ gone) n → ⊥ = λ h. not (subst (λ xs. Contains xs n) (sym all) h) in
    others-then set c.args.self.now n (λ h. none (Contains-append_left come gone n h))
    (λ h. none (Contains-append_right come gone n h))
