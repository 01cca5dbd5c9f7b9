use Rattle.std.proofs.Common.{◌≡◌, ◌++◌, List, length}
use Rattle.hg_changeset.specs.Contents.{Contents}
use Rattle.hg_history.specs.Steps.{IsAdded}
use Rattle.hg_history.proofs.absorb.add_owned_changesets.Given as goal

abbrev pub invariant-loop-changeset : goal.invariant-loop-changeset
invariant-loop-changeset l =
    (gone : List Contents) × (l.fn.changesets.items ≡ gone ++ l.changeset-iterator.rest.items)
    × IsAdded l.fn.graph l.fn.phases l.fn.changesets.items (length gone) l.graph l.phases
