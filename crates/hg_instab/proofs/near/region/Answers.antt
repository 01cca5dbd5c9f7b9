use Rattle.std.proofs.Common.{List, Contains, ◌↔◌, subst}
use Rattle.std.proofs.lemmas.Result.{IfOk-weaker}
use Rattle.hg_changeset.specs.declared.node.Node.{Node}
use Rattle.hg_marker.specs.Fields.{Fields}
use Rattle.hg_instab.specs.declared.walk.Way.TheVariants.{Both}
use Rattle.hg_instab.specs.Walk.{IsReached, IsStep}
use Rattle.hg_instab.proofs.RegionLemmas.{is-region}
use Rattle.hg_instab.proofs.near.region.Goals as goal

pub returns : goal.returns
returns c =
    let s = c.args.replica.now in
    let starts = c.in_ok-starts.starts.keys in
    IfOk-weaker c.reached.result _ _
    (λ region walked. is-region s starts region.keys
    (subst (λ (ms : List Fields). (n : Node) → Contains region.keys n ↔ IsReached (IsStep Both ms) starts n)
    c.store.ensures walked) c.args.change.now c.args.near.now.keys c.in_ok-starts.ensures) c.reached.ensures
