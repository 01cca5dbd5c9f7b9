use Rattle.std.proofs.Common.{[], List, length, get_or, refl, ap, subst, arith, Some}
use Rattle.std.proofs.lemmas.Option.{slice_get-get_or}
use Rattle.hg_changeset.specs.declared.node.Node.{Node}
use Rattle.hg_replica.specs.Content.{content_of}
use Rattle.hg_graph.proofs.GraphLemmas.{Contains-from_place}
use Rattle.hg_succ.specs.Plan.{Lists}
use Rattle.hg_succ.specs.Rows.{At}
use Rattle.hg_succ.proofs.TableLemmas.{adds_answer, adds_kept}
use Rattle.std.specs.Vec.{with_item}
use Rattle.hg_succ.proofs.families.Table.add.Goals as goal
use Rattle.hg_succ.proofs.families.Table.add.Goals.{After-as_slice}

-- the node that was read stands at its number
abbrev node : After-as_slice → Node
node c = get_or c.as_slice.result.now c.args.number (record { 0 = [] })

at : (c : After-as_slice) → At c.args.self.now.nodes.keys c.args.number (node c)
at c = subst (λ (ns : List Node). At ns c.args.number (node c)) c.as_slice.ensures.keys
    (slice_get-get_or c.as_slice.result.now c.args.number (record { 0 = [] })
    (omega (arith, c.requires.number, ap length c.as_slice.ensures.keys)))

pub solve-requires-clause-row : goal.solve-requires-clause-row
solve-requires-clause-row c =
    let h = (goal.at.solve-requires-clause-row c).After-as_slice in c.requires.row (node h) (at h)

pub solve-requires-clause-cyclic : goal.solve-requires-clause-cyclic
solve-requires-clause-cyclic c =
    let h = (goal.at.solve-requires-clause-cyclic c).After-as_slice in c.requires.cyclic (node h) (at h)

pub solve-requires-clause-below : goal.solve-requires-clause-below
solve-requires-clause-below c off y to =
    let h = (goal.at.solve-requires-clause-below c).After-as_slice in c.requires.below off (node h) y (at h) to

pub solve-requires-clause-held : goal.solve-requires-clause-held
solve-requires-clause-held c =
    let h = (goal.at.solve-requires-clause-held c).After-as_slice in
    Contains-from_place c.args.self.now.nodes.keys c.args.number (node h) (at h)

pub returns-clause-answer : goal.returns-clause-answer
returns-clause-answer c =
    let h = (goal.at.returns-clause-answer c).After-as_slice in
    adds_answer (content_of c.args.replica.now) c.args.self.now c.solve.new.self _ c.args.number (node h)
    c.in_ok-solved.solved c.requires.table (at h) c.in_ok-solved.ensures.solves refl refl refl

pub returns-clause-kept : goal.returns-clause-kept
returns-clause-kept c =
    let h = (goal.at.returns-clause-kept c).After-as_slice in
    adds_kept (content_of c.args.replica.now) c.args.self.now c.solve.new.self
    (record c.solve.new.self {
      answers = with_item c.solve.new.self.answers c.args.number (Some c.in_ok-solved.solved);
    }) c.args.number (node h) c.in_ok-solved.solved c.requires.table (at h) c.in_ok-solved.ensures.solves refl refl refl
    (Lists c.args.plan.now) c.in_ok-solved.ensures.kept c.requires.kept
