use Rattle.std.proofs.Common.{◌≡◌, ℕ, List, ◌++◌}
use Rattle.hg_line.specs.Outputs.{Printed}
use Rattle.hg_line.proofs.output.write_bytes.Given as goal

-- what isn't left to write was written
abbrev pub invariant-loop : goal.invariant-loop
invariant-loop g l = (done : List ℕ) × (l.bytes ≡ done ++ l.rest)
    × Printed (g.W.Write.contents l.initial.writer) done (g.W.Write.contents l.writer)
