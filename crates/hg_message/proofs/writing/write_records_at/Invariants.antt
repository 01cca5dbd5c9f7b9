use Rattle.std.proofs.Common.{◌≡◌, ◌++◌, take}
use Rattle.std.specs.List.{flat_map, AllByRecursion}
use Rattle.hg_changeset.specs.Changeset.{IsChangeset}
use Rattle.hg_obsstore.specs.Places.{picked}
use Rattle.hg_message.specs.Spelling.{record_spelling}
use Rattle.hg_message.proofs.writing.write_records_at.Given as goal

abbrev pub invariant-loop-place : goal.invariant-loop-place
invariant-loop-place l =
    (l.out.items ≡ l.fn.out.items ++ flat_map record_spelling (picked l.graph (take l.place-index l.places)))
    × AllByRecursion IsChangeset (picked l.graph (take l.place-index l.places))
