use Rattle.std.proofs.Common.{sym, ◌∙◌, arith, true≢false}
use Rattle.hg_phases.proofs.RootPlaceLemmas.{recompute-root, recompute-other}
use Rattle.hg_phases.proofs.root_places.recompute.Goals as goal

pub returns-then-is_root : goal.returns-then-is_root
returns-then-is_root c =
    recompute-root _ _ _ _ (omega (arith, c.requires.within, c.requires.seats))
    (c.is_root.ensures.0 c.if-is_root.true) _
    c.insert.ensures

pub returns-else-is_root : goal.returns-else-is_root
returns-else-is_root c =
    recompute-other _ _ _ _ (omega (arith, c.requires.within, c.requires.seats))
    (λ root. true≢false (sym (c.is_root.ensures.1 root) ∙ c.if-is_root.false)) _ c.remove.ensures
