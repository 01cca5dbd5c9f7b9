use Rattle.std.proofs.Common.{◌-◌, ◌^◌, ap, sym, ◌∙◌, arith}
use Rattle.std.specs.FinMap.{entries}
use Rattle.hg_marker.specs.Texts.{entry_bytes}
use Rattle.hg_marker.proofs.ReadLemmas.{weight, weight_written}
use Rattle.hg_marker.proofs.TextsLemmas.{entries_of}
use Rattle.hg_marker.proofs.WritingLemmas.{adds_weight, capped}
use Rattle.hg_marker.proofs.text_map.TextMap.written_len.Goals as goal

pub loop-key-preserved : goal.loop-key-preserved
loop-key-preserved c =
    let more = adds_weight c.in-Some.key.now c.in-Some.text.now c.loop-key.key-iterator c.next.new.self
    c.in-Some.ensures.steps in
    let so_far = rw more at c.loop-key.invariant.1 in
    capped c.loop-key.len c.saturating_add.result c.saturating_add-in-loop-key.result c.saturating_add-len.result _ _ _
    _ (2 ^ 64 - 1) c.loop-key.invariant.0
    (c.saturating_add.ensures ∙ omega (arith, c.len.ensures, c.in-Some.key.now.ok))
    (c.saturating_add-in-loop-key.ensures ∙ omega (arith, c.len-in-loop-key.ensures, c.in-Some.text.now.ok))
    c.saturating_add-len.ensures so_far

pub returns : goal.returns
returns c =
    let all = ap entries (sym c.self.view_is) ∙ entries_of c.self.inside.texts.entries c.self.invariant
    ∙ ap entry_bytes (sym c.into_iter-key-iterator.ensures.into_iter_gives.0) in
    let len = weight_written c.args.self.now ∙ ap (λ es. weight es - 1) all in
    let none = ap (λ es. weight (entry_bytes es)) c.in-None.ensures.steps.0 in
    omega (arith, len, none, c.loop-key.invariant.0, c.loop-key.invariant.1, c.saturating_sub.ensures)
