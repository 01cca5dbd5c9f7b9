use Rattle.hg_log.proofs.KindLemmas.{any_told, is_so, not_so}
use Rattle.hg_log.proofs.kind.kind_of.Goals as goal

pub returns-then-status : goal.returns-then-status
returns-then-status c =
    let told = c.status-status.ensures in
    (told.visible.0 (is_so _ c.if-not-status.false), told.obsolete.0 c.if-status.true)

pub returns-then-is_unstable : goal.returns-then-is_unstable
returns-then-is_unstable c =
    let told = c.status-status.ensures in
    let any = any_told _ _ _ _ _ _ _ told.orphan told.phase_divergent told.content_divergent c.is_unstable.ensures in (
      told.visible.0 (is_so _ c.if-not-status.false),
      not_so _ _ told.obsolete c.if-status.false,
      any.0 c.if-is_unstable.true,
    )

pub returns : goal.returns
returns c =
    let told = c.status-status.ensures in
    let any = any_told _ _ _ _ _ _ _ told.orphan told.phase_divergent told.content_divergent c.is_unstable.ensures in (
      told.visible.0 (is_so _ c.if-not-status.false),
      not_so _ _ told.obsolete c.if-status.false,
      not_so _ _ any c.if-is_unstable.false,
    )
