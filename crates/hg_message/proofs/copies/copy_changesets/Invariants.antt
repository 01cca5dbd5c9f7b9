use Rattle.std.proofs.Common.{◌≡◌, take}
use Rattle.hg_message.proofs.copies.copy_changesets.Given as goal

abbrev pub invariant-loop-changeset : goal.invariant-loop-changeset
invariant-loop-changeset l = l.copies.items ≡ take l.changeset-index l.changesets
