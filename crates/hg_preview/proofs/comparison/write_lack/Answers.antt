use Rattle.std.proofs.Common.{◌∙◌, ◌++◌, ℕ, List, ap, ap₂, length, refl, subst}
use Rattle.std.proofs.KnownBytes.{Appends-trans}
use Rattle.hg_marker.specs.Fields.{Fields}
use Rattle.hg_replica.specs.State.{ReplicaState}
use Rattle.hg_trial.specs.Differences.{markers_lacked}
use Rattle.hg_preview.specs.Comparisons.{IsCountText}
use Rattle.hg_preview.proofs.comparison.write_lack.Goals as goal

pub returns : goal.returns
returns g c =
    let nodes = c.in_ok-write_changesets.ensures in
    let markers = c.in_ok-write_count.ensures in
    let lacked : List Fields → List Fields → ℕ = λ lacking having. length (markers_lacked lacking having) in
    let held : ReplicaState → List Fields = λ s. s.markers in
    let lacking = c.store.ensures ∙ ap held c.replica.ensures.replica in
    let having = c.store-2.ensures ∙ ap held c.replica-2.ensures.replica in
    let count = c.markers_lacked-count.ensures ∙ ap₂ lacked lacking having in (
      nodes.0 ++ markers.0,
      (nodes.0, markers.0, nodes.1, subst (λ (k : ℕ). IsCountText k markers.0) count markers.1, refl),
      Appends-trans _ _ _ nodes.0 markers.0 nodes.2 markers.2,
    )
