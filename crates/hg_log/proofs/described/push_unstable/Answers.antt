use Rattle.hg_log.proofs.DrawingLemmas.{Extends-trans}
use Rattle.hg_log.proofs.TextLemmas.{last_extends}
use Rattle.hg_log.proofs.described.push_unstable.Goals as goal

pub returns : goal.returns
returns c =
    last_extends c.push_where-3.result _ _ _
    (Extends-trans _ _ _ c.in_ok-push_where.ensures c.in_ok-push_where-2.ensures)
    c.push_where-3.ensures
