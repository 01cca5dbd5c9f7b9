use Rattle.std.proofs.Common.{List, length, ◌<◌, inl, inr, sym, subst}
use Rattle.std.proofs.lemmas.Result.{IfOk-weaker}
use Rattle.hg_changeset.specs.Contents.{Contents}
use Rattle.hg_phases.specs.State.{changesets}
use Rattle.hg_instab.specs.declared.waiting.Beside.TheVariants.{Parents}
use Rattle.hg_instab.proofs.WaitingLemmas.{wait-along, wait-within}
use Rattle.hg_instab.proofs.SolutionLemmas.{extinct-settled}
use Rattle.hg_instab.proofs.extinct_walk.turned_extinct.Goals as goal

pub waiting_from-requires : goal.waiting_from-requires
waiting_from-requires c k h =
    subst (λ (xs : List Contents). k < length xs) (sym c.graph-graph.ensures.graph) (c.requires k h)

pub settle_all-requires : goal.settle_all-requires
settle_all-requires c =
    let cs = changesets c.args.replica.now.history in
    let seeds = c.args.seeds.now in
    wait-within Parents cs c.graph-graph.ensures.valid.graph seeds seeds c.in_ok-waiting.waiting c.requires c.requires
    (wait-along Parents c.graph-graph.result.now cs c.graph-graph.ensures.graph seeds seeds c.in_ok-waiting.waiting
    c.in_ok-waiting.ensures)

pub returns : goal.returns
returns c =
    let t = c.args.replica.now in
    let seeds = c.args.seeds.now in
    let starts = c.in_ok-waiting.waiting in
    let from =
    wait-along Parents c.graph-graph.result.now (changesets t.history) c.graph-graph.ensures.graph seeds seeds
    starts c.in_ok-waiting.ensures in
    IfOk-weaker c.settle_all.result _ _
    (λ turned settling s change valid follows given kept. extinct-settled s t change valid
    c.graph-graph.ensures.valid follows seeds given starts (λ k x. (from k).1 (inl x))
    c.args.extinct.now.keys kept (λ k x. (from k).1 (inr x)) turned.keys settling) c.settle_all.ensures
