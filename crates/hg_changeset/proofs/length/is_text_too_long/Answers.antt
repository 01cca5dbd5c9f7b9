use Rattle.std.proofs.Common.{◌≤◌, ◌-◌, ◌^◌, None, min, ap, sym, subst, ◌∙◌}
use Rattle.std.specs.Prelude.{nat_lt}
use Rattle.std.proofs.lemmas.Bool.{le-ltb}
use Rattle.hg_changeset.specs.Changeset.{text_limit}
use Rattle.hg_changeset.specs.EntryValue.{EntryValue}
use Rattle.hg_changeset.specs.Lengths.{len_without, text_len}
use Rattle.hg_changeset.proofs.LengthLemmas.{all_extras, counted_alike, text_is}
use Rattle.hg_changeset.proofs.length.is_text_too_long.Goals as goal

pub returns-then-not-may_be_too_long : goal.returns-then-not-may_be_too_long
returns-then-not-may_be_too_long c =
    let e = c.args.entry.now in
    let most : min (len_without None e.extra) (2 ^ 64 - 1) ≤ c.extras_len_bound.result =
    subst (λ (v : EntryValue). min (len_without None v.extra) (2 ^ 64 - 1) ≤ c.extras_len_bound.result)
    c.entry.view_is c.extras_len_bound.ensures.most in
    let within = c.may_be_too_long.ensures (len_without None e.extra) most c.if-not-may_be_too_long.true in
    sym (le-ltb text_limit (text_len e (len_without None e.extra)) within)
    ∙ ap (λ n. nat_lt text_limit (text_len e n)) (all_extras e.extra)
    ∙ ap (nat_lt text_limit) (text_is e)

pub returns : goal.returns
returns c =
    let e = c.args.entry.now in
    let extras = len_without None e.extra in
    let known = c.extras_len.ensures
    ∙ ap (λ (v : EntryValue). min (len_without None v.extra) (2 ^ 64 - 1)) c.entry.view_is in
    counted_alike e c.len_with.result c.extras_len.result extras c.len_with.ensures known
    ∙ ap (λ n. nat_lt text_limit (text_len e n)) (all_extras e.extra)
    ∙ ap (nat_lt text_limit) (text_is e)
