use Rattle.std.proofs.Common.{◌<◌, ℕ, length, Contains, inl, inr, refl}
use Rattle.hg_phases.specs.State.{changesets}
use Rattle.hg_replica.specs.Content.{content_of}
use Rattle.hg_instab.specs.Settling.{IsSoBy, beside_of, IsLater}
use Rattle.hg_graph.proofs.QueueLemmas.{most-falls}
use Rattle.hg_instab.proofs.WaitingLemmas.{left_from, left-some, left-falls}
use Rattle.hg_instab.proofs.SettlingLemmas.{settling-start, settling-step, settling-end, waits-from, place-within}
use Rattle.hg_instab.proofs.SettlingLemmas.{faithful, local, beside-later}
use Rattle.hg_instab.proofs.settling.settle_all.Goals as goal

pub loop-place-init : goal.loop-place-init
loop-place-init c =
    let s = c.args.replica.now in
    settling-start (changesets s.history) (IsSoBy c.args.kind (content_of s)) c.args.set.now.keys c.args.starts
    (faithful c.args.kind (content_of s)) c.requires c.new-turned.result.keys c.new-turned.ensures.empty

pub loop-place-preserved : goal.loop-place-preserved
loop-place-preserved c =
    let s = c.args.replica.now in
    let kind = c.args.kind in
    let v = c.settle_at.ensures.valid in
    settling-step (changesets s.history) (IsSoBy kind (content_of s)) c.args.set.now.keys c.args.starts
    (beside_of kind) v.graph (local kind s v) c.loop-place.turned.keys c.loop-place.waiting
    c.take_next.new.waiting c.in-Some.place c.in-Some.ensures.0 c.loop-place.invariant
    c.settle_at.new.turned.keys c.settle_at.new.waiting c.in_ok-settle_at.ensures.settled

pub loop-place-smaller : goal.loop-place-smaller
loop-place-smaller c =
    let s = c.args.replica.now in
    let cs = changesets s.history in
    let kind = c.args.kind in
    let place = c.in-Some.place in
    let waiting = c.loop-place.waiting in
    let rest = c.take_next.new.waiting in
    let now = c.settle_at.new.waiting in
    let v = c.settle_at.ensures.valid in
    let one = c.in-Some.ensures.0 in
    let within : place < length cs = place-within cs (IsSoBy kind (content_of s)) c.args.set.now.keys
    c.args.starts (beside_of kind) v.graph (local kind s v) c.loop-place.turned.keys waiting rest place one
    c.loop-place.invariant c.settle_at.new.turned.keys now c.in_ok-settle_at.ensures.settled in
    let after : (k : ℕ) → Contains now k → IsLater kind place k =
    λ k h. elim (waits-from cs (IsSoBy kind (content_of s)) c.args.set.now.keys c.args.starts (beside_of kind)
    v.graph (local kind s v) c.loop-place.turned.keys waiting rest place one c.loop-place.invariant
    c.settle_at.new.turned.keys now c.in_ok-settle_at.ensures.settled k h) [
      | inl later ↦ c.in-Some.ensures.1 k later
      | inr stands ↦ beside-later kind cs v.graph place k stands
    ] in
    most-falls (left_from kind (length cs)) waiting now place ((one place).1 (inl refl))
    (left-some kind (length cs) place within) (λ k h. left-falls kind (length cs) place k within (after k h))

pub returns : goal.returns
returns c =
    let s = c.args.replica.now in
    settling-end (changesets s.history) (IsSoBy c.args.kind (content_of s)) c.args.set.now.keys c.args.starts
    c.loop-place.turned.keys c.loop-place.waiting c.in_default.ensures c.loop-place.invariant
