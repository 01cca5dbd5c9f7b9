-- An entry with other extras than its own.
use Rattle.std.specs.Prelude.{ℕ, List, [], ◌∷◌}
use Rattle.std.specs.FinMap.{put}
use Rattle.std.specs.Ordering.{nat_cmp}
use Rattle.std.specs.Cmp.Lexicographic.{slice_cmp}
use Rattle.hg_changeset.specs.declared.extras.Extras.{Extras}
use Rattle.hg_changeset.specs.declared.extras.Extras.TheVariants.{All, One}
use Rattle.hg_changeset.specs.EntryValue.{EntryValue, extra_bytes}

-- the extras that are to be written
abbrev pub listed : Extras → List (List ℕ × List ℕ)
listed (All extra) = extra_bytes extra.now.entries
listed (One key value) = (key.now, value.now) ∷ []

-- the entry with these extras in place of its own
abbrev pub with_extras : List (List ℕ × List ℕ) → EntryValue → EntryValue
with_extras extra e = record e { extra = extra }

-- the entry with this extra alone
abbrev pub noting : List ℕ → List ℕ → EntryValue → EntryValue
noting key value e = with_extras ((key, value) ∷ []) e

-- the entry with this extra beside its own, in place of one with the same key
abbrev pub also_noting : List ℕ → List ℕ → EntryValue → EntryValue
also_noting key value e = with_extras (put (slice_cmp nat_cmp) key value e.extra) e
