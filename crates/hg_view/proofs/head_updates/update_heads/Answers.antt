use Rattle.std.proofs.Common.{◌≤◌, ℕ}
use Rattle.hg_graph.specs.Places.{IsPlaceOfOne}
use Rattle.hg_phases.specs.State.{changesets}
use Rattle.hg_view.specs.Flags.{IsParentOfOne, IsTouched}
use Rattle.hg_view.specs.HeadPlaces.{IsAmong}
use Rattle.hg_view.proofs.FlagLemmas.{recomputed-then, taken-then, parents-then}
use Rattle.hg_view.proofs.head_updates.update_heads.Goals as goal

pub returns : goal.returns
returns c =
    let t = c.args.replica.now.history in
    let cs = changesets t in
    let Q : ℕ → Type 0 = IsAmong c.args.among t in
    let R : ℕ → Type 0 = λ k. c.args.first ≤ k in
    let S : ℕ → Type 0 = IsPlaceOfOne cs c.args.nodes.now in
    let T : ℕ → Type 0 = IsTouched cs c.args.first c.args.nodes.now in
    record {
      mid = c.recompute_nodes.new.heads;
      recomputed = recomputed-then Q R S T c.args.heads.now c.recompute_from.new.heads c.recompute_nodes.new.heads
          c.recompute_from.ensures c.recompute_nodes.ensures (λ k. ((λ h. h), (λ h. h)));
      taken = taken-then (IsParentOfOne cs R Q) (IsParentOfOne cs S Q) (IsParentOfOne cs T Q)
          c.recompute_nodes.new.heads
          c.take_out_parents_from.new.heads c.take_out_parents_of_nodes.new.heads c.take_out_parents_from.ensures
          c.take_out_parents_of_nodes.ensures (parents-then cs Q R S T (λ k. ((λ h. h), (λ h. h))));
    }
