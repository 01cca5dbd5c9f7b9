use Rattle.std.proofs.Common.{◌≡◌, ◌↔◌, length, take, drop, ◌++◌, List, Bool, arith, ap, subst, ◌∙◌}
use Rattle.hg_changeset.specs.declared.node.Node.{Node}
use Rattle.hg_changeset.specs.Contents.{Contents}
use Rattle.hg_graph.specs.Graph.{Reaches}
use Rattle.hg_graph.specs.Marks.{IsMarkedNode}
use Rattle.hg_graph.proofs.MarkLemmas.{written}
use Rattle.hg_phases.specs.State.{changesets}
use Rattle.hg_view.proofs.ViewLemmas.{visible-marked}
use Rattle.hg_view.proofs.view.visible_marks.Goals as goal

all : (c : goal.After-marks-3-1) → length c.add_ancestors.new.marks ≡ c.in_ok-marks.marks.len
all c = omega (
  arith,
  c.add_ancestors.ensures.len,
  c.in_ok-marks.ensures.len,
  ap length c.graph.ensures.graph,
  c.in_ok-marks.marks.ok.0,
)

whole : (c : goal.After-marks-3-1)
    → take c.in_ok-marks.marks.len
    (c.add_ancestors.new.marks ++ drop (length c.add_ancestors.new.marks) c.in_ok-marks.marks.items)
    ≡ c.add_ancestors.new.marks
whole c = written c.in_ok-marks.marks.len c.add_ancestors.new.marks c.in_ok-marks.marks.items (all c)

pub returns-clause-len : goal.returns-clause-len
returns-clause-len c = ap length (whole c) ∙ c.add_ancestors.ensures.len ∙ ap length c.graph.ensures.graph

pub returns-clause-exact : goal.returns-clause-exact
returns-clause-exact c =
    let s = c.args.replica.now in
    let cs = changesets s.history in
    let visible = c.add_ancestors.new.marks in
    let above : (n : Node) → IsMarkedNode cs visible n
    ↔ ((d : Node) × IsMarkedNode cs c.in_ok-marks.marks.items d × Reaches cs n d) =
    subst (λ (marks : List Bool). (n : Node) → IsMarkedNode cs visible n
    ↔ ((d : Node) × IsMarkedNode cs marks d × Reaches cs n d)) c.deref_mut.ensures.value
    (subst (λ (ds : List Contents). (n : Node) → IsMarkedNode ds visible n
    ↔ ((d : Node) × IsMarkedNode ds c.deref_mut.result.now d × Reaches ds n d)) c.graph.ensures.graph
    c.add_ancestors.ensures.marked) in
    rw (whole c)
    (visible-marked s c.graph.ensures.valid c.args.pins.now c.in_ok-marks.marks.items visible
    c.in_ok-marks.ensures.exact above)
