use Rattle.hg_replica.specs.Content.{content_of}
use Rattle.std.proofs.Common.{◌≡◌, true≢false, sym, ◌∙◌}
use Rattle.hg_why.specs.Causes.{Cause, IsByThis}
use Rattle.hg_why.specs.Causes.Cause.{parent}
use Rattle.hg_why.proofs.CauseLemmas.{adds-nothing, adds-pushed, adds-same, no-parent, this-parent}
use Rattle.hg_why.proofs.causes.add_parent.Goals as goal

pub returns-then-is_null : goal.returns-then-is_null
returns-then-is_null c =
    let f = content_of c.args.kept.now.replica in
    adds-nothing f (IsByThis f c.args.parent) c.args.reasons.now.items
    (λ cause h. h.1 (c.is_null.ensures.null.0 c.if-is_null.true))

pub returns-then-not-is_obsolete_or_orphan : goal.returns-then-not-is_obsolete_or_orphan
returns-then-not-is_obsolete_or_orphan c =
    let f = content_of c.args.kept.now.replica in
    let told = c.status-status.ensures in
    adds-nothing f (IsByThis f c.args.parent) c.args.reasons.now.items
    (no-parent f c.args.parent _ _ told.obsolete told.orphan
    (λ either. true≢false (sym (c.is_obsolete_or_orphan.ensures.1 either) ∙ c.if-not-is_obsolete_or_orphan.true)))

pub returns : goal.returns
returns c =
    let f = content_of c.args.kept.now.replica in
    let told = c.status-status.ensures in
    let is = c.status-status.result.obsolete in
    adds-same f (λ (cause : Cause). parent c.args.parent is ≡ cause) (IsByThis f c.args.parent)
    c.args.reasons.now.items c.push.new.self.items
    (this-parent f c.args.parent is c.status-status.result.orphan told.obsolete told.orphan
    (c.is_obsolete_or_orphan.ensures.0 c.if-not-is_obsolete_or_orphan.false)
    (λ null. true≢false (sym (c.is_null.ensures.null.1 null) ∙ c.if-is_null.false)))
    (adds-pushed f c.args.reasons.now.items c.push.new.self.items _ c.in_ok-push.ensures.items tt)
