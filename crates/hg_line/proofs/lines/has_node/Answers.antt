use Rattle.std.proofs.Common.{sym, ◌∙◌}
use Rattle.hg_line.proofs.WordLemmas.{no_node}
use Rattle.hg_line.proofs.lines.has_node.Goals as goal

pub returns-then-not-may_have_node : goal.returns-then-not-may_have_node
returns-then-not-may_have_node c =
    sym (no_node c.args.line.now (sym c.may_have_node.ensures ∙ c.if-not-may_have_node.true))
