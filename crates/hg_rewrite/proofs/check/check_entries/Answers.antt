use Rattle.std.proofs.Common.{refl, sym, ap, subst, ◌∙◌, arith}
use Rattle.std.proofs.lemmas.Option.{none-some}
use Rattle.hg_changeset.specs.EntryAnswer.{entry_fault}
use Rattle.hg_rewrite.specs.declared.refusal.Refusal.TheVariants.{Fault}
use Rattle.hg_rewrite.specs.declared.refusal.Cause.TheVariants.{Entry}
use Rattle.hg_rewrite.specs.Refusals.{Applies, entry_refused}
use Rattle.hg_rewrite.proofs.RowLemmas.{none_more, first_next, none_of_all}
use Rattle.hg_rewrite.proofs.check.check_entries.Goals as goal

pub returns-in-Err : goal.returns-in-Err
returns-in-Err c =
    let x = c.entry-item.result in
    let f = c.in-Err.fault in
    first_next entry_refused c.args.entries.now c.loop-entry.entry-index x (Fault (Entry f))
    (omega arith) c.loop-entry.invariant
    (f, sym (ap entry_fault c.entry-item.is) ∙ c.in-Err.ensures.exact, refl)

pub loop-entry-preserved : goal.loop-entry-preserved
loop-entry-preserved c =
    let x = c.entry-item.result in
    none_more entry_refused c.args.entries.now c.loop-entry.entry-index x (omega arith) c.loop-entry.invariant
    (subst (λ e. ¬ (Applies (entry_refused e))) c.entry-item.is
    (λ r. none-some r.1.0 (sym c.in-Ok.ensures.exact ∙ r.1.1)))

pub returns : goal.returns
returns c = none_of_all entry_refused c.args.entries.now c.loop-entry.entry-index (omega arith) c.loop-entry.invariant
