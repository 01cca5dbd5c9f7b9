use Rattle.std.proofs.Common.{◌≡◌, ◌⊎◌, ◌≤◌}
use Rattle.hg_discovery.specs.declared.finding.Finding.TheVariants.{Missing}
use Rattle.hg_discovery.specs.Children.{Stands}
use Rattle.hg_discovery.specs.Queue.{Grows, AreTaken}
use Rattle.hg_discovery.proofs.spread.decide_children.Given as goal

abbrev pub invariant-loop-i : goal.invariant-loop-i
invariant-loop-i l = record {
  grows : Grows (Stands l.children l.fn.stretch.from l.i) Missing l.fn.decided l.fn.queue.items l.decided l.queue.items;
  taken : AreTaken (Stands l.children l.fn.stretch.from l.i) Missing l.fn.decided l.decided;
  from : l.fn.stretch.from ≤ l.i;
  edge : (l.fn.stretch.from ≡ l.i) ⊎ (l.i ≤ l.fn.stretch.to);
}
