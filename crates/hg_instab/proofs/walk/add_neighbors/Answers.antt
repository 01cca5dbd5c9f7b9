use Rattle.std.proofs.lemmas.Result.{on_ok_weaker}
use Rattle.hg_instab.specs.declared.walk.Followed.TheVariants.{Every}
use Rattle.hg_instab.specs.declared.walk.Way.TheVariants.{Both}
use Rattle.hg_instab.specs.Walk.{IsFollowed, IsNext, IsBefore, IsStep}
use Rattle.hg_instab.proofs.WalkLemmas.{adds-then}
use Rattle.hg_instab.proofs.walk.add_neighbors.Goals as goal

pub returns : goal.returns
returns c =
    let ms = c.args.store.now in
    let node = c.args.node in
    on_ok_weaker c.add_predecessors.result
    (λ adds. adds-then (IsNext (IsFollowed Every) ms node) (IsBefore ms node) (IsStep Both ms node)
    c.args.seen.now.keys c.add_successors.new.seen.keys c.add_predecessors.new.seen.keys (λ n. (λ h. h, λ h. h))
    c.in_ok-add_successors.ensures adds) c.add_predecessors.ensures
