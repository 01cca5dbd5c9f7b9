use Rattle.std.proofs.Common.{ap, sym, ◌∙◌}
use Rattle.std.specs.List.{list_any}
use Rattle.std.specs.FinMap.{entries}
use Rattle.hg_marker.specs.Texts.{entry_bytes}
use Rattle.hg_marker.specs.Making.{has_bad_key, ends_key}
use Rattle.hg_marker.proofs.TextsLemmas.{entries_of}
use Rattle.hg_marker.proofs.WritingLemmas.{bad_key_here, good_key_here}
use Rattle.hg_marker.proofs.text_map.TextMap.has_bad_key.Goals as goal

pub returns-then-ends_key : goal.returns-then-ends_key
returns-then-ends_key c =
    let bad = ap (list_any ends_key) (sym c.deref.ensures.value) ∙ sym c.ends_key.ensures ∙ c.if-ends_key.true in
    let here = bad_key_here c.in-Some.key.now c.in-Some.field-0-1.now c.loop-key.key-iterator c.next.new.self
    c.in-Some.ensures.steps bad in
    let all = ap entries (sym c.self.view_is) ∙ entries_of c.self.inside.texts.entries c.self.invariant
    ∙ ap entry_bytes (sym c.into_iter-key-iterator.ensures.into_iter_gives.0) in
    sym here ∙ c.loop-key.invariant.2 ∙ ap has_bad_key (sym all)

pub loop-key-preserved : goal.loop-key-preserved
loop-key-preserved c =
    let good = ap (list_any ends_key) (sym c.deref.ensures.value) ∙ sym c.ends_key.ensures ∙ c.if-ends_key.false in
    let here = good_key_here c.in-Some.key.now c.in-Some.field-0-1.now c.loop-key.key-iterator c.next.new.self
    c.in-Some.ensures.steps good in
    (tt, tt, sym here ∙ c.loop-key.invariant.2)

pub returns : goal.returns
returns c =
    let all = ap entries (sym c.self.view_is) ∙ entries_of c.self.inside.texts.entries c.self.invariant
    ∙ ap entry_bytes (sym c.into_iter-key-iterator.ensures.into_iter_gives.0) in
    sym (ap (λ es. has_bad_key (entry_bytes es)) c.in-None.ensures.steps.0) ∙ c.loop-key.invariant.2
    ∙ ap has_bad_key (sym all)
