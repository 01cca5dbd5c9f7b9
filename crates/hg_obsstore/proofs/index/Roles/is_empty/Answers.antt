use Rattle.std.proofs.Common.{◌∙◌, sym, ap, List, ℕ, length, ◌==◌, subst, Contains}
use Rattle.std.proofs.lemmas.Bool.{false≢true}
use Rattle.hg_obsstore.specs.declared.index.Role.TheVariants.{Predecessor, Successor, Parent}
use Rattle.hg_obsstore.proofs.EntryLemmas.{first_place}
use Rattle.hg_obsstore.proofs.index.Roles.is_empty.Goals as goal

pub returns-then-is_empty-2-clause-placed : goal.returns-then-is_empty-2-clause-placed
returns-then-is_empty-2-clause-placed c = λ h.
    let e = first_place c.as_slice-then-is_empty-2.result.now (λ none. false≢true (sym h
    ∙ c.is_empty-then-is_empty-2.ensures ∙ ap (λ (xs : List ℕ). length xs == 0) none)) in
    (Parent, e.0, subst (λ ps. Contains ps e.0) c.as_slice-then-is_empty-2.ensures e.1)

pub returns-else-is_empty-2-clause-placed : goal.returns-else-is_empty-2-clause-placed
returns-else-is_empty-2-clause-placed c = λ h. elim c.if-is_empty.branch [
  | goal.then-is_empty w ↦
      let e = first_place w.as_slice-then-is_empty.result.now (λ none. false≢true (sym h ∙ w.value-is
      ∙ w.is_empty-then-is_empty.ensures ∙ ap (λ (xs : List ℕ). length xs == 0) none)) in
      (Successor, e.0, subst (λ ps. Contains ps e.0) w.as_slice-then-is_empty.ensures e.1)
  | goal.else-is_empty w ↦
      let e = first_place c.as_slice.result.now (λ none. false≢true (sym w.if-is_empty.false
      ∙ c.is_empty.ensures ∙ ap (λ (xs : List ℕ). length xs == 0) none)) in
      (Predecessor, e.0, subst (λ ps. Contains ps e.0) c.as_slice.ensures e.1)
]
