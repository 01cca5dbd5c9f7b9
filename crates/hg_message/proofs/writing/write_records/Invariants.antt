use Rattle.std.proofs.Common.{◌≡◌, ◌++◌, take}
use Rattle.std.specs.List.{flat_map, AllByRecursion}
use Rattle.hg_changeset.specs.Changeset.{IsChangeset}
use Rattle.hg_message.specs.Spelling.{record_spelling}
use Rattle.hg_message.proofs.writing.write_records.Given as goal

abbrev pub invariant-loop-changeset : goal.invariant-loop-changeset
invariant-loop-changeset l =
    (l.out.items ≡ l.fn.out.items ++ flat_map record_spelling (take l.changeset-index l.changesets))
    × AllByRecursion IsChangeset (take l.changeset-index l.changesets)
