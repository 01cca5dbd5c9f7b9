use Rattle.std.proofs.Common.{◌≡◌, ◌+◌, ℕ, List, ◌∷◌, length, sym, subst, true≢false, ◌∙◌, rules, Option}
use Rattle.hg_changeset.specs.declared.node.Node.{Node}
use Rattle.hg_marker.specs.Operation.{parents_entries}
use Rattle.hg_marker.specs.Written.{with_pieces}
use Rattle.hg_marker.proofs.OperationLemmas.{sole_len, both_len}
use Rattle.hg_marker.proofs.note.parents_len.Goals as goal

pub returns-then-is_null-clause-len : goal.returns-then-is_null-clause-len
returns-then-is_null-clause-len c =
    subst (λ (o : Option (Node × Node)). (front : ℕ) (bytes : List ℕ)
    → length (with_pieces (front ∷ bytes) (parents_entries o)) ≡ length (front ∷ bytes) + 44) (sym c.in-Some.is)
    (sole_len (c.in-Some.field-0-0, c.in-Some.second) (c.is_null.ensures.null.0 c.if-is_null.true) (search rules))

pub returns-else-is_null-clause-len : goal.returns-else-is_null-clause-len
returns-else-is_null-clause-len c =
    subst (λ (o : Option (Node × Node)). (front : ℕ) (bytes : List ℕ)
    → length (with_pieces (front ∷ bytes) (parents_entries o)) ≡ length (front ∷ bytes) + 88) (sym c.in-Some.is)
    (both_len (c.in-Some.field-0-0, c.in-Some.second)
    (λ absent. true≢false (sym (c.is_null.ensures.null.1 absent) ∙ c.if-is_null.false)) (search rules) (search rules))
