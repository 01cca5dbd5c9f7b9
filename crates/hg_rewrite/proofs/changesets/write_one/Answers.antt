use Rattle.std.proofs.Common.{List, inr, subst}
use Rattle.std.proofs.lemmas.Result.{err_from_is_err_and}
use Rattle.hg_changeset.specs.EntryValue.{EntryValue}
use Rattle.hg_rewrite.specs.Parts.{written}
use Rattle.hg_rewrite.specs.Refusals.{NoneApplies, IsFirstRefusal, unwritten}
use Rattle.hg_rewrite.specs.Memory.{refused_first}
use Rattle.hg_rewrite.proofs.MemoryLemmas.{told, never}
use Rattle.hg_rewrite.proofs.TableLemmas.{written_tell}
use Rattle.hg_rewrite.proofs.changesets.write_one.Goals as goal

pub returns-in_err-check_first-clause-answer : goal.returns-in_err-check_first-clause-answer
returns-in_err-check_first-clause-answer c =
    let p = err_from_is_err_and c.from_residual.result c.from_residual.ensures.1 in
    let r = c.in_err-check_first.field-0.0 in
    rw (p.1, p.2) (inr (subst (λ (es : List EntryValue). IsFirstRefusal (unwritten es (written c.args.parents es)) r)
    c.from_ref.ensures.value c.in_err-check_first.ensures))

pub returns-in_err-check_first-clause-memory : goal.returns-in_err-check_first-clause-memory
returns-in_err-check_first-clause-memory c =
    let es = c.from_ref.result.now in
    let r = c.in_err-check_first.field-0.0 in
    λ e. never (unwritten es (written c.args.parents es)) r (written_tell es (written c.args.parents es))
    c.in_err-check_first.ensures (told _ r c.from_residual.ensures.1 e)

pub returns-in_err-check_first-clause-first : goal.returns-in_err-check_first-clause-first
returns-in_err-check_first-clause-first c =
    let es = c.from_ref.result.now in
    let r = c.in_err-check_first.field-0.0 in
    λ e. never (unwritten es (written c.args.parents es)) r (written_tell es (written c.args.parents es))
    c.in_err-check_first.ensures (told _ r c.from_residual.ensures.1 e)

pub returns-clause-first : goal.returns-clause-first
returns-clause-first c = λ e.
    subst (λ (es : List EntryValue). NoneApplies (refused_first (written c.args.parents es))) c.from_ref.ensures.value
    c.in_ok-check_first.ensures
