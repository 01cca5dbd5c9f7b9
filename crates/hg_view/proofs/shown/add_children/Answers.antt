use Rattle.std.proofs.Common.{arith, refl}
use Rattle.std.proofs.lemmas.List.{length-map}
use Rattle.std.proofs.lemmas.Option.{slice_get_within}
use Rattle.std.proofs.lemmas.Result.{on_ok_weaker}
use Rattle.hg_changeset.specs.Changeset.{node_of}
use Rattle.hg_graph.specs.Graph.{nodes}
use Rattle.hg_instab.proofs.WalkLemmas.{adds-nothing, adds-same}
use Rattle.hg_view.specs.Shown.{IsChild, IsAtOne}
use Rattle.hg_view.proofs.ShownLemmas.{children-at, childless}
use Rattle.hg_view.proofs.shown.add_children.Goals as goal

pub children-requires : goal.children-requires
children-requires c =
    let cs = c.args.graph.now in
    omega (
      arith,
      slice_get_within (nodes cs) c.in-Some.place c.args.node
          ((c.in-Some.ensures.place c.in-Some.place).1 refl),
      length-map cs node_of,
    )

pub returns-in-Some : goal.returns-in-Some
returns-in-Some c =
    on_ok_weaker c.add_at.result (λ adds. adds-same _ _ _ _
    (children-at _ _ _ _ c.in-Some.ensures.place c.children.ensures.exact) adds) c.add_at.ensures

pub returns-in-None : goal.returns-in-None
returns-in-None c =
    adds-nothing _ _ (λ n child. absurd (childless _ c.in-None.ensures.graph _ c.in-None.ensures.place _ child))
