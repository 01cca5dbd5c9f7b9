use Rattle.std.proofs.Common.{◌≡◌, take}
use Rattle.hg_line.specs.Reports.{row_values, rows_from}
use Rattle.hg_line.proofs.report.rows_by_place.Given as goal

abbrev pub invariant-loop-place : goal.invariant-loop-place
invariant-loop-place l = row_values l.rows.items ≡ rows_from 0 (take l.place l.graph)
