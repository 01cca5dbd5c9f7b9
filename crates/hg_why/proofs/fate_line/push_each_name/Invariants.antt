use Rattle.std.proofs.Common.{take, codes}
use Rattle.hg_replica.specs.Content.{content_of}
use Rattle.hg_why.specs.Names.{name_of}
use Rattle.hg_why.proofs.DividerLemmas.{AreAppended}
use Rattle.hg_why.proofs.fate_line.push_each_name.Given as goal

abbrev pub invariant-loop-node : goal.invariant-loop-node
invariant-loop-node l =
    AreAppended (codes " ") (name_of (content_of l.replica)) (take l.node-index l.nodes) l.initial.line.items
    l.line.items l.divider
