use Rattle.std.proofs.Common.{List, subst}
use mathlib.Core.List.{IsPrefix}
use Rattle.hg_live.specs.declared.entry.Entry.{Entry}
use Rattle.hg_journal.proofs.Prefixes.{prefix_trans}
use Rattle.hg_live.proofs.pass.Pass.meet.Goals as goal

pub returns-clause-seen : goal.returns-clause-seen
returns-clause-seen g c =
    rw (c.again.ensures, ← c.self.view_is, ← c.other.view_is) (c.longer-seen.ensures.this, c.longer-seen.ensures.that)

pub returns-clause-told : goal.returns-clause-told
returns-clause-told g c =
    rw (c.again-2.ensures, ← c.self.view_is, ← c.other.view_is) (
      prefix_trans _ _ _ c.longer.ensures.this c.longer-told.ensures.this,
      prefix_trans _ _ _ c.longer.ensures.that c.longer-told.ensures.this,
    )

pub returns-clause-told_seen : goal.returns-clause-told_seen
returns-clause-told_seen g c =
    let within : IsPrefix c.longer-seen.result c.longer-told.result =
    subst (λ (l : List Entry). IsPrefix l c.longer-told.result) c.front.ensures c.longer-told.ensures.that in
    rw (c.again-2.ensures, ← c.self.view_is, ← c.other.view_is) (
      prefix_trans _ _ _ c.longer-seen.ensures.this within,
      prefix_trans _ _ _ c.longer-seen.ensures.that within,
    )
