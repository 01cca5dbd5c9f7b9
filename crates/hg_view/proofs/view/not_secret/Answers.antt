use Rattle.std.proofs.Common.{◌≡◌, ◌+◌, ◌↔◌, true, true≢false, sym, subst, arith, ◌∙◌}
use Rattle.hg_changeset.specs.declared.node.Node.{Node}
use Rattle.hg_graph.specs.Graph.{IsGraph, nodes}
use Rattle.hg_graph.specs.Marks.{IsMarkedNode}
use Rattle.hg_graph.specs.Places.{IsAt}
use Rattle.hg_graph.proofs.MarkLemmas.{TellsFirst, tells_none, tells_more, tells_all, mark_at}
use Rattle.hg_graph.proofs.GraphLemmas.{Contains-from_place}
use Rattle.hg_phases.specs.declared.phase.Phase.TheVariants.{Secret}
use Rattle.hg_phases.specs.State.{changesets}
use Rattle.hg_replica.specs.Content.{content_of}
use Rattle.hg_replica.specs.Evolution.{HasPhase}
use Rattle.hg_instab.proofs.QueryLemmas.{isnt_so}
use Rattle.hg_view.proofs.view.not_secret.Goals as goal
use Rattle.hg_view.proofs.view.not_secret.Goals.{then-marks-place, else-marks-place}

pub loop-place-init : goal.loop-place-init
loop-place-init c =
    let s = c.args.replica.now in
    let cs = changesets s.history in
    subst (TellsFirst cs (λ n. IsMarkedNode cs c.args.marks.now n × ¬ (HasPhase (content_of s) n Secret)) 0)
    (sym c.in_ok-found.ensures.items) (tells_none _ _)

pub loop-place-preserved : goal.loop-place-preserved
loop-place-preserved c =
    let s = c.args.replica.now in
    let cs = changesets s.history in
    let graph : IsGraph cs = c.graph-graph.ensures.valid.graph in
    let i = c.loop-place.place in
    let marks = c.args.marks.now in
    let told : (n : Node) → IsAt cs n i → (c.if-marks-place.push ≡ true)
    ↔ (IsMarkedNode cs marks n × ¬ (HasPhase (content_of s) n Secret)) = λ n at.
    let mark = mark_at _ graph _ _ _ c.loop-place-test.true at in
    elim c.if-marks-place.branch [
      | then-marks-place w ↦
          let isnt = isnt_so _ _ (w.has_phase_at.ensures n at) in
          (λ h. (mark.0 w.if-marks-place.true, isnt.0 (sym w.push-is ∙ h)), λ h. w.push-is ∙ isnt.1 h.1)
      | else-marks-place w ↦ (
        λ h. absurd (true≢false (sym h ∙ w.push-is ∙ w.if-marks-place.false)),
        λ h. absurd (true≢false (sym (mark.1 h.0) ∙ w.if-marks-place.false)),
      )
    ] in
    subst (TellsFirst cs (λ n. IsMarkedNode cs marks n × ¬ (HasPhase (content_of s) n Secret)) (i + 1))
    (sym c.in_ok-push.ensures.items) (tells_more _ _ _ _ _ c.loop-place.invariant told)

pub returns-clause-len : goal.returns-clause-len
returns-clause-len c = omega (
  arith,
  c.loop-place.invariant.len,
  c.loop-place.auto.place-end,
  c.loop-place-test.false,
  c.requires,
)

pub returns-clause-exact : goal.returns-clause-exact
returns-clause-exact c n =
    let s = c.args.replica.now in
    let cs = changesets s.history in
    let told = tells_all _ _ _ _ (omega (arith, c.loop-place-test.false, c.requires)) c.loop-place.invariant _ in
    (λ h. (told.0 h).1, λ h. told.1 (Contains-from_place (nodes cs) h.0.0 n h.0.1, h))
