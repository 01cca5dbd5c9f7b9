use Rattle.std.proofs.Common.{◌↔◌, ℕ, [], Some, inl, inr, sym, ap, is_some, true≢false, ◌∙◌, ◌≡◌}
use Rattle.hg_graph.specs.Waiting.{Waits}
use Rattle.hg_graph.proofs.WalkLemmas.{contains_none}
use Rattle.hg_graph.proofs.AscentLemmas.{next_alone, next_alike}
use Rattle.hg_graph.proofs.graph.Graph.next_place.Goals as goal

pub returns-then-is_empty : goal.returns-then-is_empty
returns-then-is_empty c = next_alone _ c.args.waiting.now c.parent_places-parents.result.first empty waited
  where
    empty : c.args.waiting.now ≡ []
    empty = c.is_empty.ensures.0 c.if-is_empty.true

    waited : (k : ℕ) → Waits c.args.self.now c.args.place c.args.waiting.now k
        ↔ (c.parent_places-parents.result.first ≡ Some k)
    waited k = (
      λ w. elim w [
        | inl old ↦ absurd (contains_none c.args.waiting.now k empty old)
        | inr p ↦ elim ((c.parent_places-parents.ensures.places k).0 p)
            [ inl e ↦ e | inr e ↦ absurd (true≢false (sym (ap is_some e) ∙ c.if-is_none.ensures)) ]
      ],
      λ e. inr ((c.parent_places-parents.ensures.places k).1 (inl e)),
    )

pub returns : goal.returns
returns c = next_alike _ _ c.pop_last.new.self c.pop_last.result c.in_ok-insert_parents.ensures c.pop_last.ensures
