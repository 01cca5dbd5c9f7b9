use Rattle.std.proofs.Common.{◌≡◌, ◌<◌, ◌++◌, ◌∷◌, [], ℕ, List, ap, sym, subst, refl, ◌∙◌, inl, inr}
use Rattle.std.proofs.lemmas.List.{append_assoc}
use Rattle.hg_succ.proofs.ListLemmas.{popped}
use Rattle.hg_changeset.proofs.ListLemmas.{Contains-cons_cases}
use Rattle.hg_succ.proofs.search.Search.merge.Goals as goal

pub loop-self-preserved : goal.loop-self-preserved
loop-self-preserved c =
    let old = c.loop-self.self.starts.items in
    let new = c.pop.new.self.items in
    let end = c.loop-self-test.ensures.after refl in
    let before = c.loop-self.invariant.first in
    let front : new ≡ end.1.0 = popped old new end.1.0 c.loop-self.self.starts.len end.0 c.loop-self.self.starts.ok.0
    c.pop.ensures.rest end.1.1 in
    let split : old ≡ new ++ end.0 ∷ [] = end.1.1 ∙ ap (λ (xs : List ℕ). xs ++ end.0 ∷ []) (sym front) in
    record {
      first = (
        end.0 ∷ before.0,
        before.1 ∙ ap (λ (xs : List ℕ). xs ++ before.0) split ∙ append_assoc new (end.0 ∷ []) before.0,
        λ b h. elim (Contains-cons_cases end.0 before.0 b h)
            [ inl same ↦ subst (λ k. c.args.place < k) same end.2 | inr later ↦ before.2 b later ],
      );
      rest = λ i. record (c.loop-self.invariant.rest i) { starts = new };
    }

pub returns-clause-keeps : goal.returns-clause-keeps
returns-clause-keeps c = record { first = c.loop-self.invariant.first; last = c.loop-self-test.ensures.none refl }
