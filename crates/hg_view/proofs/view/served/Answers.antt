use Rattle.std.proofs.Common.{List, Bool, Contains, ◌↔◌, subst}
use Rattle.std.proofs.lemmas.Result.{IfOk-weaker}
use Rattle.hg_graph.specs.Marks.{IsMarkedNode}
use Rattle.hg_phases.specs.State.{changesets}
use Rattle.hg_instab.proofs.SetLemmas.{along}
use Rattle.hg_view.proofs.view.served.Goals as goal

pub returns : goal.returns
returns c =
    let cs = changesets c.args.replica.now.history in
    IfOk-weaker c.set_at.result _ _
    (λ set told n. along (subst (λ (marks : List Bool). Contains set.keys n ↔ IsMarkedNode cs marks n)
    c.deref.ensures.value (told n)) (c.in_ok-marks.ensures.exact n))
    c.set_at.ensures
