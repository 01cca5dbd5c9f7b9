use Rattle.std.proofs.Common.{Contains}
use Rattle.hg_instab.proofs.QueryLemmas.{isnt_so}
use Rattle.hg_view.proofs.pins.counts_as_obsolete.Goals as goal

pub returns-then-is_obsolete : goal.returns-then-is_obsolete
returns-then-is_obsolete c =
    let isnt = isnt_so c.is_pinned.result (Contains c.args.pins.now c.args.node) c.is_pinned.ensures in
    (λ t. (c.is_obsolete.ensures.0 c.if-is_obsolete.true, isnt.0 t), λ h. isnt.1 h.1)
