use Rattle.std.proofs.Common.{◌≡◌, ◌++◌, take}
use Rattle.hg_message.specs.Part.{draft_bounds}
use Rattle.hg_message.proofs.copies.draft_bounds_onto.Given as goal

abbrev pub invariant-loop-changeset : goal.invariant-loop-changeset
invariant-loop-changeset l = l.bounds.items ≡ l.fn.bounds.items ++ draft_bounds (take l.changeset-index l.changesets)
