use Rattle.std.proofs.Common.{◌≡◌, ◌≤◌, ◌*◌, ◌-◌, length}
use Rattle.std.specs.List.{list_any}
use Rattle.hg_changeset.specs.Node.{null_node, node_eq}
use Rattle.hg_marker.specs.Reading.{ids_in}
use Rattle.hg_marker.proofs.reading.holds_null.Given as goal

abbrev pub invariant-loop : goal.invariant-loop
invariant-loop l = (20 * (l.count - l.counter) ≤ length l.rest)
    × (list_any (node_eq null_node) (ids_in (l.count - l.counter) l.rest)
    ≡ list_any (node_eq null_node) (ids_in l.count l.ids))
