use Rattle.std.proofs.Common.{ℕ, ◌<◌, ◌++◌, ◌∷◌, [], length, map, take, sym, ap, subst, ◌∙◌, arith}
use Rattle.std.proofs.lemmas.List.{map_more, map-append, take_all}
use Rattle.std.specs.declared.vec.Vec.{Vec}
use Rattle.std.specs.declared.alloc.Global.{Global}
use Rattle.hg_changeset.specs.EntryText.{entry_text}
use Rattle.hg_rewrite.specs.Refusals.{Applies, entry_refused}
use Rattle.hg_rewrite.specs.Answer.{IsRefusal}
use Rattle.hg_rewrite.proofs.RowLemmas.{none_more, none_of_all}
use Rattle.hg_rewrite.proofs.ChainLemmas.{refused_entry, written_entry}
use Rattle.hg_rewrite.proofs.changesets.texts.Goals as goal

pub returns-in-Err : goal.returns-in-Err
returns-in-Err c =
    let es = c.args.entries.now in
    let i = c.loop-entry.entry-index in
    subst (IsRefusal (map entry_refused es)) (sym c.entry_refusal.ensures)
    (refused_entry es i c.entry-item.result c.in-Err.fault (omega arith) c.loop-entry.invariant.0 c.entry-item.is
    c.in-Err.ensures)

pub loop-entry-preserved : goal.loop-entry-preserved
loop-entry-preserved c =
    let es = c.args.entries.now in
    let i = c.loop-entry.entry-index in
    let x = c.entry-item.result in
    let lt : i < length es = omega arith in (
      none_more entry_refused es i x lt c.loop-entry.invariant.0
          (subst (λ e. ¬ (Applies (entry_refused e))) c.entry-item.is (written_entry x c.in-Ok.text c.in-Ok.ensures)),
      ap (λ ts. map (λ (text : Vec ℕ Global). text.items) ts) c.in_ok-push-in-Ok.ensures.items
          ∙ map-append (λ (text : Vec ℕ Global). text.items) c.loop-entry.texts.items (c.in-Ok.text ∷ [])
          ∙ ap (λ ts. ts ++ c.in-Ok.text.items ∷ []) c.loop-entry.invariant.1
          ∙ ap (λ t. map entry_text (take i es) ++ t ∷ []) (c.in-Ok.ensures.2 ∙ ap entry_text c.entry-item.is)
          ∙ sym (map_more entry_text es i x lt),
    )

pub returns : goal.returns
returns c =
    let es = c.args.entries.now in
    let i = c.loop-entry.entry-index in (
      none_of_all entry_refused es i (omega arith) c.loop-entry.invariant.0,
      c.loop-entry.invariant.1 ∙ ap (map entry_text) (take_all i es (omega arith)),
    )
