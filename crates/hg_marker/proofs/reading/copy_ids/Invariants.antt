use Rattle.std.proofs.Common.{◌≡◌, ◌≤◌, ◌*◌, ◌-◌, ◌++◌, length}
use Rattle.hg_marker.specs.Reading.{ids_in}
use Rattle.hg_marker.proofs.reading.copy_ids.Given as goal

abbrev pub invariant-loop : goal.invariant-loop
invariant-loop l = (20 * (l.count - l.counter) ≤ length l.rest)
    × (l.nodes.items ++ ids_in (l.count - l.counter) l.rest ≡ ids_in l.count l.ids)
