use Rattle.std.proofs.Common.{◌∙◌}
use Rattle.std.specs.FinMap as finite
use Rattle.hg_marker.proofs.TextsLemmas.{stays_sorted, inserted}
use Rattle.hg_marker.proofs.text_map.TextMap.insert.Goals as goal

pub invariant_of-self-2 : goal.invariant_of-self-2
invariant_of-self-2 c =
    stays_sorted _ _ c.in_ok-key.key c.in_ok-value.value c.in_ok-insert.ensures.entries c.self.invariant

pub returns-clause-ok : goal.returns-clause-ok
returns-clause-ok c = inserted _ _ c.in_ok-key.key c.in_ok-value.value c.in_ok-insert.ensures.entries c.self.invariant
    ∙ (λ i. finite.insert (c.self.view_is i) (c.in_ok-key.ensures.items i) (c.in_ok-value.ensures.items i))
