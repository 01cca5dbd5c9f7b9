use Rattle.std.proofs.Common.{◌≡◌, ◌+◌, ◌*◌, ◌≤◌, take, length}
use Rattle.std.specs.Prelude.{sum_by}
use Rattle.hg_changeset.specs.Contents.{Contents}
use Rattle.hg_message.proofs.writing.records_len.Given as goal
use Rattle.hg_message.specs.Limits.{record_limit}

abbrev pub invariant-loop-changeset : goal.invariant-loop-changeset
invariant-loop-changeset l =
    (l.len ≡ sum_by (λ (c : Contents). 64 + length c.text) (take l.changeset-index l.changesets))
    × (l.len ≤ record_limit * l.changeset-index)
