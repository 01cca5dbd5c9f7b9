use Rattle.std.proofs.Common.{◌≡◌, ◌+◌, ◌≤◌, ◌==◌, not, length, take}
use Rattle.std.specs.List.{suffix_len}
use Rattle.hg_changeset.proofs.changeset.start_of_last_line.Given as goal

-- no LF stands from there on
abbrev pub invariant-loop-start : goal.invariant-loop-start
invariant-loop-start l =
    (l.start ≤ length l.text)
    × (l.start + suffix_len (λ b. not (b == 10)) l.text
    ≡ length l.text + suffix_len (λ b. not (b == 10)) (take l.start l.text))

abbrev pub decreases-loop-start : goal.decreases-loop-start
decreases-loop-start l = l.start
