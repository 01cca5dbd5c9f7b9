-- The entries among notes.
use Rattle.std.proofs.Common.{◌≡◌, [], ◌∷◌, ◌++◌, None, Some, refl, ap, sym, ◌∙◌}
use mathlib.Core.List.{IsPrefix}
use Rattle.hg_journal.specs.Rules.{Notes, entries}

pub entries_append : {E : Type 0} (xs ys : Notes E) → entries (xs ++ ys) ≡ entries xs ++ entries ys
entries_append [] ys = refl
entries_append ((None, key) ∷ xs) ys = entries_append xs ys
entries_append ((Some entry, key) ∷ xs) ys = ap (λ w. entry ∷ w) (entries_append xs ys)

-- notes that begin others have entries that begin theirs
pub entries_prefix : {E : Type 0} (xs ys : Notes E) → IsPrefix xs ys → IsPrefix (entries xs) (entries ys)
entries_prefix xs ys p = (entries p.0, sym (entries_append xs p.0) ∙ ap entries p.1)
