use Rattle.std.proofs.Common.{◌≡◌, ◌+◌, drop}
use Rattle.std.specs.List.{position_or_len}
use Rattle.hg_log.specs.Titles.{is_line_feed}
use Rattle.hg_log.proofs.titles.first_line.Given as goal

-- the first LF is that of the bytes that are left
abbrev pub invariant-loop-index : goal.invariant-loop-index
invariant-loop-index l =
    position_or_len is_line_feed l.text ≡ l.index + position_or_len is_line_feed (drop l.index l.text)
