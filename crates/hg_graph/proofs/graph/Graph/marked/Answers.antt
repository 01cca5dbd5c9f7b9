use Rattle.std.proofs.Common.{◌≡◌, take, sym, ap, arith, filter, ◌∙◌, ◌++◌, [], ◌∷◌}
use Rattle.std.proofs.lemmas.List.{take_all, length-map}
use Rattle.hg_changeset.specs.Changeset.{node_of}
use Rattle.hg_graph.specs.Graph.{nodes}
use Rattle.hg_graph.proofs.MarkLemmas.{Selects-marked, mark_of, marked_push, marked_skip, not_past}
use Rattle.hg_graph.proofs.graph.Graph.marked.Goals as goal
use Rattle.hg_graph.proofs.graph.Graph.marked.Goals.{then-marks-i+in-Some+in_ok-push, then-marks-i+in_default}
use Rattle.hg_graph.proofs.graph.Graph.marked.Goals.{else-marks-i}

pub loop-i-preserved : goal.loop-i-preserved
loop-i-preserved c =
    let cs = c.args.self.now in
    let marks = c.args.marks.now in
    let i = c.loop-i.i in
    let graph = c.alloc.ensures in
    let before = c.loop-i.invariant in
    elim c.if-marks-i.branch [
      | then-marks-i+in-Some+in_ok-push w ↦
          ap (λ v. v.items) w.found-is ∙ w.in_ok-push.ensures.items ∙ ap (λ ns. ns ++ w.in-Some.node ∷ []) before
          ∙ sym (marked_push cs marks i graph c.requires c.loop-i-test.true w.in-Some.node
          (sym w.node_at.ensures ∙ w.in-Some.is) w.if-marks-i.true)
      | then-marks-i+in_default w ↦
          absurd (not_past cs marks i graph c.requires c.loop-i-test.true (sym w.node_at.ensures ∙ w.in_default.is))
      | else-marks-i w ↦
          ap (λ v. v.items) w.found-is
          ∙ before ∙ sym (marked_skip cs marks i graph c.requires c.loop-i-test.true w.if-marks-i.false)
    ]

pub returns : goal.returns
returns c =
    let cs = c.args.self.now in
    let all : take c.loop-i.i (nodes cs) ≡ nodes cs = take_all c.loop-i.i (nodes cs)
    (omega (arith, length-map cs node_of, c.requires)) in
    Selects-marked cs c.args.marks.now c.loop-i.found.items c.alloc.ensures c.requires
    (c.loop-i.invariant ∙ ap (filter (mark_of (nodes cs) c.args.marks.now)) all)
