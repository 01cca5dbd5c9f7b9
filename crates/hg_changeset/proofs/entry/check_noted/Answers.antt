use Rattle.std.proofs.Common.{sym, ◌∙◌}
use Rattle.std.proofs.lemmas.Result.{err_from_is_err_and}
use Rattle.hg_changeset.proofs.NotedLemmas.{fault_kept, fault_of_key, fault_of_noted}
use Rattle.hg_changeset.proofs.entry.check_noted.Goals as goal

pub returns-in_err-check_entry : goal.returns-in_err-check_entry
returns-in_err-check_entry c = λ value.
    let p = err_from_is_err_and c.from_residual.result c.from_residual.ensures.1 in
    rw (p.1, p.2) (fault_kept c.args.key.now value c.args.entry.now _ c.in_err-check_entry.ensures.exact)

pub returns-then-is_bad_key : goal.returns-then-is_bad_key
returns-then-is_bad_key c = λ value.
    fault_of_key c.args.key.now value c.args.entry.now c.in_ok-check_entry.ensures.exact
    (sym c.is_bad_key.ensures ∙ c.if-is_bad_key.true)

pub returns : goal.returns
returns c = λ value.
    fault_of_noted c.args.key.now value c.args.entry.now (sym c.is_bad_key.ensures ∙ c.if-is_bad_key.false)
    ∙ c.in_ok-check_entry.ensures.exact
