use Rattle.std.proofs.Common.{rules, arith, ◌≡◌, ◌-◌, length, ap, ◌≤◌}
use Rattle.hg_obsstore.specs.Faults.{markers_at, with_place}
use Rattle.hg_obsstore.proofs.FormatLemmas.{goes_on, ends}
use Rattle.hg_obsstore.proofs.format.read_to_end.Goals as goal

pub loop-rest-preserved : goal.loop-rest-preserved
loop-rest-preserved c =
    let shorter : length c.in_ok-marker.after.now ≤ length c.args.bytes.now =
    omega (arith, c.in_ok-marker.ensures.shorter, c.loop-rest.invariant.0) in (
      shorter,
      λ total.
          let so_far = c.loop-rest.invariant.1 total in
          rw c.in_ok-push.ensures.items (goes_on _ _ _ _ _ _ _ c.in_ok-marker.ensures.shorter so_far.1
          (ap (with_place (total - length c.loop-rest.rest.now)) c.in_ok-marker.ensures.marker) so_far.2),
    )

pub returns-clause-read : goal.returns-clause-read
returns-clause-read c = λ total.
    let none : length c.loop-rest.rest.now ≡ 0 = search rules in
    let so_far = c.loop-rest.invariant.1 total in
    ends _ _ _ _ _ none so_far.2
