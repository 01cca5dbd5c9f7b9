use Rattle.std.proofs.Common.{refl, arith}
use Rattle.hg_graph.proofs.PlaceLemmas.{placed_within}
use Rattle.hg_phases.proofs.OpenLemmas.{marked-absent, marked-raised}
use Rattle.hg_phases.proofs.open.mark.Goals as goal

pub raise-requires : goal.raise-requires
raise-requires c =
    omega (
      arith,
      c.requires,
      placed_within c.args.graph.now c.args.root.now.1 c.in-Some.place
          ((c.in-Some.ensures.place c.in-Some.place).1 refl),
    )

pub returns-in-Some : goal.returns-in-Some
returns-in-Some c roots are =
    marked-raised c.args.graph.now roots c.args.root.now c.args.marks.now.items are c.in-Some.place
    c.in-Some.ensures.place c.raise.new.marks.items c.raise.ensures

pub returns-in-None : goal.returns-in-None
returns-in-None c roots are =
    marked-absent c.args.graph.now roots c.args.root.now c.args.marks.now.items are c.in-None.ensures.place
