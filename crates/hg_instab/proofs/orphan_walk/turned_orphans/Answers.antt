use Rattle.std.proofs.Common.{inl, inr, refl}
use Rattle.std.proofs.lemmas.Result.{IfOk-weaker}
use Rattle.hg_phases.specs.State.{changesets}
use Rattle.hg_instab.specs.declared.waiting.Beside.TheVariants.{Children}
use Rattle.hg_instab.proofs.WaitingLemmas.{wait-along, wait-within, placed-along, placed-in}
use Rattle.hg_instab.proofs.SolutionLemmas.{orphans-settled}
use Rattle.hg_instab.proofs.orphan_walk.turned_orphans.Goals as goal

pub waiting_from-requires : goal.waiting_from-requires
waiting_from-requires c = placed-in c.graph-graph.result.now c.graph-graph.result.now refl c.args.turned_obsolete.now
    c.in_ok-others.others.items c.deref.result.now c.deref.ensures.value c.in_ok-others.ensures.answer

pub settle_all-requires : goal.settle_all-requires
settle_all-requires c =
    let cs = changesets c.args.replica.now.history in
    let here = c.graph-graph.ensures.graph in
    let others = c.deref.result.now in
    wait-within Children cs c.graph-graph.ensures.valid.graph c.args.seeds.now others c.in_ok-waiting.waiting c.requires
    (placed-in c.graph-graph.result.now cs here c.args.turned_obsolete.now c.in_ok-others.others.items others
    c.deref.ensures.value c.in_ok-others.ensures.answer)
    (wait-along Children c.graph-graph.result.now cs here c.args.seeds.now others c.in_ok-waiting.waiting
    c.in_ok-waiting.ensures)

pub returns : goal.returns
returns c =
    let t = c.args.replica.now in
    let cs = changesets t.history in
    let here = c.graph-graph.ensures.graph in
    let others = c.deref.result.now in
    let starts = c.in_ok-waiting.waiting in
    let from = wait-along Children c.graph-graph.result.now cs here c.args.seeds.now others starts
    c.in_ok-waiting.ensures in
    let placed = placed-along c.graph-graph.result.now cs here c.args.turned_obsolete.now c.in_ok-others.others.items
    others c.deref.ensures.value c.in_ok-others.ensures.answer in
    IfOk-weaker c.settle_all.result _ _
    (λ turned settling s change valid follows given same kept. orphans-settled s t change valid
    c.graph-graph.ensures.valid follows c.args.seeds.now given starts (λ k x. (from k).1 (inl x))
    c.args.orphan.now.keys kept c.args.turned_obsolete.now same others (λ n k did at. (placed k).1 (n, did, at))
    (λ k x. (from k).1 (inr x)) turned.keys settling) c.settle_all.ensures
