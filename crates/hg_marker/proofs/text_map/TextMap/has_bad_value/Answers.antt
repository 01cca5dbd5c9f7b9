use Rattle.std.proofs.Common.{ap, sym, ◌∙◌}
use Rattle.std.specs.List.{list_any}
use Rattle.std.specs.FinMap.{entries}
use Rattle.hg_marker.specs.Texts.{entry_bytes}
use Rattle.hg_marker.specs.Metadata.{is_nul}
use Rattle.hg_marker.specs.Making.{has_bad_value}
use Rattle.hg_marker.proofs.TextsLemmas.{entries_of}
use Rattle.hg_marker.proofs.WritingLemmas.{bad_value_here, good_value_here}
use Rattle.hg_marker.proofs.text_map.TextMap.has_bad_value.Goals as goal

pub returns-then-has_nul : goal.returns-then-has_nul
returns-then-has_nul c =
    let bad = ap (list_any is_nul) (sym c.deref.ensures.value) ∙ sym c.has_nul.ensures ∙ c.if-has_nul.true in
    let here = bad_value_here c.in-Some.field-0-0.now c.in-Some.value.now c.loop-value.value-iterator c.next.new.self
    c.in-Some.ensures.steps bad in
    let all = ap entries (sym c.self.view_is) ∙ entries_of c.self.inside.texts.entries c.self.invariant
    ∙ ap entry_bytes (sym c.into_iter-value-iterator.ensures.into_iter_gives.0) in
    sym here ∙ c.loop-value.invariant.2 ∙ ap has_bad_value (sym all)

pub loop-value-preserved : goal.loop-value-preserved
loop-value-preserved c =
    let good = ap (list_any is_nul) (sym c.deref.ensures.value) ∙ sym c.has_nul.ensures ∙ c.if-has_nul.false in
    let here = good_value_here c.in-Some.field-0-0.now c.in-Some.value.now c.loop-value.value-iterator c.next.new.self
    c.in-Some.ensures.steps good in
    (tt, tt, sym here ∙ c.loop-value.invariant.2)

pub returns : goal.returns
returns c =
    let all = ap entries (sym c.self.view_is) ∙ entries_of c.self.inside.texts.entries c.self.invariant
    ∙ ap entry_bytes (sym c.into_iter-value-iterator.ensures.into_iter_gives.0) in
    sym (ap (λ es. has_bad_value (entry_bytes es)) c.in-None.ensures.steps.0) ∙ c.loop-value.invariant.2
    ∙ ap has_bad_value (sym all)
