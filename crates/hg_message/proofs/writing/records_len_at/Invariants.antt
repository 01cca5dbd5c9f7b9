use Rattle.std.proofs.Common.{◌≡◌, ◌+◌, ◌*◌, ◌≤◌, take, length}
use Rattle.std.specs.Prelude.{sum_by}
use Rattle.hg_changeset.specs.Contents.{Contents}
use Rattle.hg_obsstore.specs.Places.{picked}
use Rattle.hg_message.proofs.writing.records_len_at.Given as goal
use Rattle.hg_message.specs.Limits.{record_limit}

abbrev pub invariant-loop-place : goal.invariant-loop-place
invariant-loop-place l =
    (l.len ≡ sum_by (λ (c : Contents). 64 + length c.text) (picked l.graph (take l.place-index l.places)))
    × (l.len ≤ record_limit * l.place-index)
