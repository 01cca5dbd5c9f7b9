use Rattle.std.proofs.Common.{arith, sym, subst}
use Rattle.std.proofs.lemmas.Option.{slice_get_within}
use Rattle.hg_graph.proofs.MarkLemmas.{get-set_same}
use Rattle.hg_discovery.specs.declared.finding.Finding.TheVariants.{Undecided}
use Rattle.hg_discovery.specs.Search.{Is}
use Rattle.hg_discovery.proofs.DecidedLemmas.{read_so, read_not_so}
use Rattle.hg_discovery.proofs.WalkLemmas.{Grows-one}
use Rattle.hg_discovery.proofs.spread.decide.Goals as goal
use Rattle.hg_discovery.proofs.spread.decide.Goals.{else-one-decided-via-then-one-decided+else-eq}
use Rattle.hg_discovery.proofs.spread.decide.Goals.{else-one-decided-via-else-one-decided}

pub returns-in_ok-push-clause-grows : goal.returns-in_ok-push-clause-grows
returns-in_ok-push-clause-grows c =
    let old = c.args.decided.now in
    let p = c.args.one in
    let at = read_so old p Undecided Undecided c.eq.result c.if-one-decided.true c.eq.ensures c.if-eq.true in
    rw c.in_ok-push.ensures.items (Grows-one c.args.finding c.requires p old c.args.queue.now.items at)

pub returns-in_ok-push-clause-taken : goal.returns-in_ok-push-clause-taken
returns-in_ok-push-clause-taken c k e u =
    subst (Is _ c.args.finding) e (get-set_same c.args.decided.now c.args.one c.args.finding c.if-one-decided.true)

pub returns-else-one-decided-clause-taken : goal.returns-else-one-decided-clause-taken
returns-else-one-decided-clause-taken c k e u =
    let old = c.args.decided.now in
    let at : Is old Undecided c.args.one = subst (Is old Undecided) (sym e) u in
    elim c.else-one-decided.branch [
      | else-one-decided-via-then-one-decided+else-eq w ↦ absurd
          (read_not_so old c.args.one Undecided Undecided w.eq.result w.eq.ensures w.if-eq.false at)
      | else-one-decided-via-else-one-decided w ↦ let far = w.if-one-decided.false in
          absurd (omega (arith, slice_get_within old c.args.one Undecided at, far))
    ]
