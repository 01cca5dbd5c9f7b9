use Rattle.std.proofs.Common.{◌≡◌, ◌-◌, ◌≤◌, drop}
use Rattle.hg_log.specs.Titles.{behind_empty_line}
use Rattle.hg_log.proofs.titles.behind_empty_line.Given as goal

-- the first empty line is that of the last byte and of those that are left
abbrev pub invariant-loop-index : goal.invariant-loop-index
invariant-loop-index l = (1 ≤ l.index) × (behind_empty_line l.text ≡ behind_empty_line (drop (l.index - 1) l.text))
