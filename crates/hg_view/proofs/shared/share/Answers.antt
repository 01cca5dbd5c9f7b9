use Rattle.std.proofs.Common.{arith, ap, length}
use Rattle.hg_view.proofs.ShareLemmas.{shares_more, shares_no_more, shares_all}
use Rattle.hg_view.proofs.shared.share.Goals as goal
use Rattle.hg_view.proofs.shared.share.Goals.{in-Some+in_ok-insert, in_default}

pub loop-place-preserved : goal.loop-place-preserved
loop-place-preserved c =
    let s = c.args.replica.now in
    let found = c.loop-place.found in
    let i = c.loop-place.place in
    elim c.match-shared_at.branch [
      | in-Some+in_ok-insert w ↦ rw w.found-is (shares_more s found i c.loop-place.invariant w.insert.new.self
          w.in-Some.node w.in-Some.phase w.in-Some.ensures.0 w.in-Some.ensures.1 w.in_ok-insert.ensures.updates)
      | in_default w ↦ rw w.found-is (shares_no_more s found i c.loop-place.invariant w.in_default.ensures)
    ]

pub returns : goal.returns
returns c =
    shares_all c.args.replica.now c.loop-place.found c.loop-place.place c.loop-place.invariant c.graph.ensures.valid
    (omega (arith, c.loop-place-test.false, c.len-place-end.ensures.len, ap length c.graph.ensures.graph))
