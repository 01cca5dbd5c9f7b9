use Rattle.std.proofs.Common.{◌≡◌, ◌<◌, List, length, Some, MatchOption, inl, inr, sym, subst}
use Rattle.hg_changeset.specs.Contents.{Contents}
use Rattle.hg_graph.specs.Graph.{Holds}
use Rattle.hg_graph.specs.Places.{IsOnlyAt, IsParentPlace}
use Rattle.hg_graph.specs.Waiting.{Widens}
use Rattle.hg_graph.proofs.PlaceLemmas.{placed_within}
use Rattle.hg_graph.proofs.QueueLemmas.{past-falls}
use Rattle.hg_phases.specs.State.{changesets}
use Rattle.hg_instab.proofs.WalkLemmas.{adds-one}
use Rattle.hg_view.specs.Released.{IsLeftAt}
use Rattle.hg_view.proofs.ReleasedLemmas.{releasing-start, releasing-stays, releasing-goes, releasing-end}
use Rattle.hg_view.proofs.released.released.Goals as goal

pub loop-place-init : goal.loop-place-init
loop-place-init c =
    let s = c.args.replica.now in
    let node = c.args.node in
    let upheld = c.args.upheld.now.keys in
    let gone = c.with_keys-gone.result.keys in
    let old = c.new-waiting.result in
    let waiting = c.wait_at.new.waiting in
    let place = c.place.result in
    let there : MatchOption place (¬ (Holds (changesets s.history) node)) (IsOnlyAt (changesets s.history) node) =
    subst (λ (cs : List Contents). MatchOption place (¬ (Holds cs node)) (IsOnlyAt cs node))
    c.graph-graph.ensures.graph c.place.ensures.place in
    releasing-start s c.args.pins.now node upheld gone place old waiting c.requires c.with_keys-gone.ensures there
    (subst (λ (cs : List Contents). Widens (λ k. (place ≡ Some k) × IsLeftAt cs upheld gone k) old waiting)
    c.graph-graph.ensures.graph c.in_ok-wait_at.ensures)

pub wait_parents-requires : goal.wait_parents-requires
wait_parents-requires c =
    let place = c.in-Some.place in
    subst (λ (cs : List Contents). place < length cs) (sym c.graph-graph.ensures.graph) (placed_within _ _ _
    c.in-Some-released_at.ensures.0)

pub loop-place-smaller-in-Continue-branch-3 : goal.loop-place-smaller-in-Continue-branch-3
loop-place-smaller-in-Continue-branch-3 c =
    let rest = c.pop_last.new.self in
    let place = c.in-Some.place in
    let now = c.wait_parents.new.waiting in
    let left = IsLeftAt c.graph-graph.result.now c.args.upheld.now.keys c.insert.new.self.keys in
    let widens : Widens (λ k. IsParentPlace c.graph-graph.result.now place k × left k) rest now =
    c.in_ok-wait_parents-in-Some-released_at.ensures in
    past-falls _ c.graph-graph.ensures.valid.graph _ _ _ _ c.in-Some.ensures (λ k h. elim ((widens k).0 h) [
      | inl more ↦ inl more
      | inr parent ↦ inr (subst (λ (ds : List Contents). IsParentPlace ds place k) c.graph-graph.ensures.graph parent.0)
    ])

pub loop-place-smaller : goal.loop-place-smaller
loop-place-smaller c =
    past-falls _ c.graph-graph.ensures.valid.graph _ _ _ _ c.in-Some.ensures (λ k h. inl h)

pub loop-place-preserved-in-Continue-branch-3 : goal.loop-place-preserved-in-Continue-branch-3
loop-place-preserved-in-Continue-branch-3 c =
    let upheld = c.args.upheld.now.keys in
    let gone_now = c.insert.new.self.keys in
    let rest = c.pop_last.new.self in
    let now = c.wait_parents.new.waiting in
    let place = c.in-Some.place in
    releasing-goes _ _ _ _ _ _ _ _ c.in-Some.ensures c.loop-place.invariant c.graph-graph.ensures.valid _ _ _
    c.in-Some-released_at.ensures.0 c.in-Some-released_at.ensures.1
    (adds-one _ _ _ c.in_ok-insert-in-Some-released_at.ensures.keys)
    (subst (λ (cs : List Contents). Widens (λ k. IsParentPlace cs place k × IsLeftAt cs upheld gone_now k) rest now)
    c.graph-graph.ensures.graph c.in_ok-wait_parents-in-Some-released_at.ensures)

pub loop-place-preserved : goal.loop-place-preserved
loop-place-preserved c =
    releasing-stays _ _ _ _ _ _ _ _ c.in-Some.ensures c.loop-place.invariant c.in-None.ensures

pub returns : goal.returns
returns c =
    releasing-end _ _ _ _ c.graph-graph.ensures.valid _ _ c.requires c.in_default.ensures c.loop-place.invariant
