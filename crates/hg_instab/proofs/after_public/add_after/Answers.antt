use Rattle.std.proofs.Common.{List, OnOk, true≢false, sym, subst, ◌∙◌}
use Rattle.std.proofs.lemmas.Result.{on_ok_weaker}
use Rattle.hg_marker.specs.Fields.{Fields}
use Rattle.hg_phases.specs.declared.phase.Phase.TheVariants.{Public}
use Rattle.hg_replica.specs.Content.{content_of}
use Rattle.hg_replica.specs.Evolution.{HasPhase}
use Rattle.hg_instab.specs.AfterPublic.{IsRewrittenTo}
use Rattle.hg_instab.specs.Walk.{Adds}
use Rattle.hg_instab.proofs.WalkLemmas.{adds-nothing, adds-same}
use Rattle.hg_instab.proofs.after_public.add_after.Goals as goal

pub returns-then-has_phase : goal.returns-then-has_phase
returns-then-has_phase c =
    let t = c.args.replica.now in
    let node = c.args.node in
    let old = c.args.seen.now.keys in
    let new = c.add_successors.new.seen.keys in
    on_ok_weaker c.add_successors.result
    (λ adds. adds-same (IsRewrittenTo t.markers node)
    (λ n. HasPhase (content_of t) node Public × IsRewrittenTo t.markers node n) old new
    (λ n. (λ h. h.1, λ h. (c.has_phase.ensures.0 c.if-has_phase.true, h))) adds)
    (subst (λ (ms : List Fields). OnOk c.add_successors.result (Adds (IsRewrittenTo ms node) old new)) c.store.ensures
    c.add_successors.ensures)

pub returns : goal.returns
returns c =
    let t = c.args.replica.now in
    adds-nothing (λ n. HasPhase (content_of t) c.args.node Public × IsRewrittenTo t.markers c.args.node n)
    c.args.seen.now.keys
    (λ n h. absurd (true≢false (sym (c.has_phase.ensures.1 h.0) ∙ c.if-has_phase.false)))
