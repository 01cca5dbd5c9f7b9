use Rattle.std.proofs.Common.{map, inr, subst}
use Rattle.std.proofs.lemmas.Result.{err_from_is_err_and}
use Rattle.hg_rewrite.specs.Parts.{chain, contents_of, written}
use Rattle.hg_rewrite.specs.Refusals.{entry_refused, changeset_refused, unwritten}
use Rattle.hg_rewrite.specs.Answer.{Gives}
use Rattle.hg_rewrite.proofs.MemoryLemmas.{told, never}
use Rattle.hg_rewrite.proofs.RowLemmas.{sooner, gives_later}
use Rattle.hg_rewrite.proofs.TableLemmas.{entries_tell, written_tell}
use Rattle.hg_rewrite.proofs.changesets.write.Goals as goal

pub returns-in_err-check_first-clause-answer : goal.returns-in_err-check_first-clause-answer
returns-in_err-check_first-clause-answer c =
    let p = err_from_is_err_and c.from_residual.result c.from_residual.ensures.1 in
    rw (p.1, p.2) (inr c.in_err-check_first.ensures)

pub returns-in_err-check_first-clause-memory : goal.returns-in_err-check_first-clause-memory
returns-in_err-check_first-clause-memory c =
    let es = c.args.entries.now in
    let r = c.in_err-check_first.field-0.0 in
    λ e. never (unwritten es (written c.args.parents es)) r (written_tell es (written c.args.parents es))
    c.in_err-check_first.ensures (told _ r c.from_residual.ensures.1 e)

pub returns-in_err-check_first-clause-first : goal.returns-in_err-check_first-clause-first
returns-in_err-check_first-clause-first c =
    let es = c.args.entries.now in
    let r = c.in_err-check_first.field-0.0 in
    λ e. never (unwritten es (written c.args.parents es)) r (written_tell es (written c.args.parents es))
    c.in_err-check_first.ensures (told _ r c.from_residual.ensures.1 e)

pub returns-in_err-check_entries-clause-answer : goal.returns-in_err-check_entries-clause-answer
returns-in_err-check_entries-clause-answer c =
    let p = err_from_is_err_and c.from_residual-in_err-check_entries.result
    c.from_residual-in_err-check_entries.ensures.1 in
    rw (p.1, p.2) (sooner (map entry_refused c.args.entries.now)
    (map changeset_refused (written c.args.parents c.args.entries.now)) _ (inr c.in_err-check_entries.ensures))

pub returns-in_err-check_entries-clause-memory : goal.returns-in_err-check_entries-clause-memory
returns-in_err-check_entries-clause-memory c =
    let r = c.in_err-check_entries.field-0.0 in
    λ e. never _ r (entries_tell c.args.entries.now) c.in_err-check_entries.ensures
    (told _ r c.from_residual-in_err-check_entries.ensures.1 e)

pub returns-in_err-texts-clause-answer : goal.returns-in_err-texts-clause-answer
returns-in_err-texts-clause-answer c =
    let p = err_from_is_err_and c.from_residual-in_err-texts.result c.from_residual-in_err-texts.ensures.1 in
    rw (p.1, p.2) (sooner (map entry_refused c.args.entries.now)
    (map changeset_refused (written c.args.parents c.args.entries.now)) _ c.in_err-texts.ensures)

pub returns-clause-answer : goal.returns-clause-answer
returns-clause-answer c =
    let es = c.args.entries.now in
    gives_later (map entry_refused es) (map changeset_refused (written c.args.parents es))
    (map contents_of (written c.args.parents es)) c.chain.result c.in_ok-texts.ensures.0
    (subst (λ ts. Gives (map changeset_refused (chain c.args.parents ts))
    (map contents_of (chain c.args.parents ts)) c.chain.result) c.in_ok-texts.ensures.1 c.chain.ensures.answer)
