use Rattle.std.proofs.Common.{rules, ◌≡◌, ◌∷◌, List, sym, ap, subst, ◌∙◌}
use Rattle.hg_changeset.proofs.ListLemmas.{on_err_anyway}
use Rattle.hg_marker.specs.Fields.{Fields}
use Rattle.hg_obsstore.specs.Growth.{StartsWith, united, with_marker}
use Rattle.hg_obsstore.proofs.GrowthLemmas.{next_new, starts_more, united_step, with_added, with_starts}
use Rattle.hg_obsstore.proofs.store.Store.add_owned.Goals as goal

pub loop-marker-preserved : goal.loop-marker-preserved
loop-marker-preserved c =
    let left : c.loop-marker.marker-iterator.rest.items ≡ c.in-Some.marker ∷ c.next.new.self.rest.items =
    search rules in
    let step : c.add.new.self ≡ with_marker c.loop-marker.self c.in-Some.marker =
    with_added _ _ _ _ c.in_ok-add.ensures.ok in (
      starts_more _ _ _ c.loop-marker.invariant.0
          (subst (StartsWith c.loop-marker.self) (sym step) (with_starts _ _)),
      ap (λ (ms : List Fields). united ms c.next.new.self.rest.items) step ∙ united_step _ _ _
          ∙ ap (united c.loop-marker.self) (sym left) ∙ c.loop-marker.invariant.1,
    )

pub returns-in_err-add-clause-memory : goal.returns-in_err-add-clause-memory
returns-in_err-add-clause-memory c =
    let left : c.loop-marker.marker-iterator.rest.items ≡ c.in-Some.marker ∷ c.next.new.self.rest.items =
    search rules in
    on_err_anyway _ _ (next_new _ _ _ _ _
    c.loop-marker.invariant.0 (ap (united c.loop-marker.self) (sym left) ∙ c.loop-marker.invariant.1)
    c.in_err-add.ensures.memory)
