use Rattle.std.proofs.Common.{◌≡◌, ◌+◌, ◌≤◌, length, count_by}
use Rattle.std.specs.Str.Lines.{lines}
use Rattle.hg_line.specs.Words.{has_node}
use Rattle.hg_line.proofs.lines.count_nodes.Given as goal

abbrev pub invariant-loop-rest : goal.invariant-loop-rest
invariant-loop-rest l =
    (l.count + count_by has_node (lines l.rest) ≡ count_by has_node (lines l.text))
    × (l.count + length l.rest ≤ length l.text)

abbrev pub decreases-loop-rest : goal.decreases-loop-rest
decreases-loop-rest l = length l.rest
