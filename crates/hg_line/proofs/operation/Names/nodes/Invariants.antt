use Rattle.std.proofs.Common.{take}
use Rattle.hg_line.specs.Events.{AreIds}
use Rattle.hg_names.specs.Labels.{labelled}
use Rattle.hg_line.proofs.operation.Names.nodes.Given as goal

abbrev pub invariant-loop-label : goal.invariant-loop-label
invariant-loop-label l = AreIds (labelled l.self.labels.now) (take l.label-index l.labels) l.nodes.items
