use Rattle.std.proofs.Common.{◌≡◌, ◌++◌, length, codes, ap, arith, ◌∙◌}
use Rattle.hg_phases.specs.State.{changesets}
use Rattle.hg_replica.specs.State.{ReplicaState}
use Rattle.hg_log.specs.Drawings.{Text}
use Rattle.hg_log.proofs.TextLemmas.{at_ok}
use Rattle.hg_why.proofs.BlockLemmas.{all-written, first-written, next-written}
use Rattle.hg_why.proofs.why.write_why.Goals as goal

pub loop-place-init : goal.loop-place-init
loop-place-init g c =
    let heading = c.push_heading-appended in
    let written = c.in_ok-write_appended.ensures in
    let text = at_ok heading.result written.0 heading.ensures in
    first-written c.args.name.now heading.new.line.items c.args.kept.now _ _
    (text ∙ ap (λ (l : Text). l ++ (codes "why " ++ c.args.name.now)) c.new-line.ensures.items) written.1

pub loop-place-preserved : goal.loop-place-preserved
loop-place-preserved g c = next-written c.args.name.now c.args.kept.now c.loop-place.place _ _ _ c.loop-place.invariant
    c.in_ok-write_at.ensures

pub returns : goal.returns
returns g c =
    let held : c.graph.result.now ≡ changesets c.args.kept.now.replica.history =
    c.graph.ensures.graph ∙ ap (λ (t : ReplicaState). changesets t.history) c.replica.ensures.replica in
    let count : c.len-len.result ≡ length (changesets c.args.kept.now.replica.history) =
    c.len-len.ensures.len ∙ ap length held in
    let all : c.loop-place.place ≡ length (changesets c.args.kept.now.replica.history) =
    omega (arith, count, c.loop-place-test.false, c.loop-place.auto.place-end) in
    all-written c.args.name.now c.args.kept.now c.loop-place.place _ _ all c.loop-place.invariant
