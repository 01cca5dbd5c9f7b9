use Rattle.std.proofs.Common.{OnOk, subst, sym, Contains}
use Rattle.std.proofs.lemmas.Result.{on_ok_weaker}
use Rattle.hg_graph.specs.Places.{IsParentPlace}
use Rattle.hg_graph.specs.Waiting.{Widens}
use Rattle.hg_graph.proofs.QueueLemmas.{widens-same}
use Rattle.hg_instab.specs.declared.waiting.Beside.{Beside}
use Rattle.hg_instab.specs.Settling.{IsBeside}
use Rattle.hg_instab.proofs.waiting.wait_beside_place.Goals as goal

pub returns-in-Children : goal.returns-in-Children
returns-in-Children c =
    let cs = c.args.graph.now in
    let place = c.args.place in
    let old = c.args.waiting.now in
    let new = c.insert_each.new.self in
    subst (λ (b : Beside). OnOk c.insert_each.result (Widens (IsBeside b cs place) old new)) (sym c.in-Children.is)
    (on_ok_weaker c.insert_each.result
    (widens-same (Contains c.children.result.now) (λ k. IsParentPlace cs k place) old new
    (λ k. let x = c.children.ensures.exact k in (x.1, x.0))) c.insert_each.ensures)

pub returns-in-Parents : goal.returns-in-Parents
returns-in-Parents c = subst (λ (b : Beside). OnOk c.insert_parents.result
    (Widens (IsBeside b c.args.graph.now c.args.place) c.args.waiting.now c.insert_parents.new.self))
    (sym c.in-Parents.is) c.insert_parents.ensures
