use Rattle.std.proofs.Common.{◌<◌, [], length, get_or, arith}
use Rattle.std.proofs.lemmas.Option.{slice_get-get_or}
use Rattle.hg_changeset.specs.declared.node.Node.{Node}
use Rattle.hg_phases.specs.declared.phase.Phase.{Phase}
use Rattle.hg_phases.specs.declared.phase.Phase.TheVariants.{Public}
use Rattle.hg_history.proofs.BoundLemmas.{bound_fault, held-more}
use Rattle.hg_history.proofs.absorb.check_bounds.Goals as goal

any : Node × Phase
any = (record { 0 = [] }, Public)

pub returns-in-Err-clause-fault : goal.returns-in-Err-clause-fault
unfolding any
returns-in-Err-clause-fault c =
    let bounds = c.args.bounds.now in
    let i = c.loop-bound.bound-index in
    let b : Node × Phase = get_or bounds i any in
    let l : i < length bounds = omega arith in
    bound_fault c.args.graph.now bounds i b c.in-Err.fault (slice_get-get_or bounds i any l) c.loop-bound.invariant
    c.in-Err.ensures

pub loop-bound-preserved : goal.loop-bound-preserved
unfolding any
loop-bound-preserved c =
    let bounds = c.args.bounds.now in
    let i = c.loop-bound.bound-index in
    let b : Node × Phase = get_or bounds i any in
    let l : i < length bounds = omega arith in
    held-more c.args.graph.now bounds i b (slice_get-get_or bounds i any l) c.loop-bound.invariant c.in-Ok.ensures
