use Rattle.std.proofs.Common.{◌≤◌, length}
use Rattle.hg_expect.proofs.LineLemmas.{IsFront}
use Rattle.hg_expect.proofs.lines.first_lines.Given as goal

abbrev pub invariant-loop : goal.invariant-loop
invariant-loop l = (l.end ≤ length l.text) × IsFront l.text l.end l.counter
