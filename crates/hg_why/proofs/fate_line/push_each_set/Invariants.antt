use Rattle.std.proofs.Common.{take, codes}
use Rattle.hg_replica.specs.Content.{content_of}
use Rattle.hg_why.specs.FateLines.{set_text}
use Rattle.hg_why.specs.Names.{name_of}
use Rattle.hg_why.proofs.DividerLemmas.{AreAppended}
use Rattle.hg_why.proofs.fate_line.push_each_set.Given as goal

abbrev pub invariant-loop-set : goal.invariant-loop-set
invariant-loop-set l =
    AreAppended (codes " or ") (λ set. set_text (name_of (content_of l.replica)) set.items) (take l.set-index l.family)
    l.initial.line.items l.line.items l.divider
