use Rattle.hg_worked_rows.specs.SideBySide.{AreSideBySide}
use Rattle.hg_worked_rows.proofs.forms.go_together.Given as goal

abbrev pub invariant-loop-number : goal.invariant-loop-number
invariant-loop-number l = AreSideBySide l.graph l.map l.kept
