use Rattle.std.proofs.Common.{List, ◌∷◌, [], map, inr, sym, subst, ◌∙◌}
use Rattle.std.proofs.lemmas.Result.{err_from_is_err_and}
use Rattle.hg_changeset.specs.EntryValue.{EntryValue}
use Rattle.hg_changeset.specs.Noted.{also_noting}
use Rattle.hg_rewrite.specs.Parts.{with_extra, written}
use Rattle.hg_rewrite.specs.Refusals.{IsFirstRefusal, entry_refused, changeset_refused, unwritten}
use Rattle.hg_rewrite.proofs.EntryLemmas.{none_counted, refused_noted}
use Rattle.hg_rewrite.proofs.MemoryLemmas.{told, never}
use Rattle.hg_rewrite.proofs.RowLemmas.{sooner}
use Rattle.hg_rewrite.proofs.TableLemmas.{written_tell}
use Rattle.hg_rewrite.proofs.changesets.write_noting.Goals as goal

pub write_noted-requires : goal.write_noted-requires
write_noted-requires c = none_counted c.args.entry.now.extra (sym c.has_no_extra.ensures ∙ c.if-has_no_extra.true)

pub returns-in_err-check_first_noted-clause-memory : goal.returns-in_err-check_first_noted-clause-memory
returns-in_err-check_first_noted-clause-memory c =
    let es = also_noting c.args.key.now c.to_hex-digits.result c.args.entry.now ∷ [] in
    let r = c.in_err-check_first_noted.field-0.0 in
    λ e. never (unwritten es (written c.args.parents es)) r (written_tell es (written c.args.parents es))
    c.in_err-check_first_noted.ensures (told _ r c.from_residual.ensures.1 e)

pub returns-in_err-check_entries-clause-answer : goal.returns-in_err-check_entries-clause-answer
returns-in_err-check_entries-clause-answer c =
    let p = err_from_is_err_and c.from_residual-in_err-check_entries.result
    c.from_residual-in_err-check_entries.ensures.1 in
    let noted = with_extra c.args.key.now c.args.node c.args.entry.now in
    let r = c.in_err-check_entries.field-0.0 in
    rw (p.1, p.2) (sooner (entry_refused noted ∷ []) (map changeset_refused (written c.args.parents (noted ∷ []))) r
    (inr (refused_noted c.args.key.now c.args.node c.args.entry.now r
    (subst (λ (es : List EntryValue). IsFirstRefusal (map entry_refused es) r) c.from_ref.ensures.value
    c.in_err-check_entries.ensures))))
