use Rattle.std.proofs.Common.{◌≡◌, ◌≤◌, ◌+◌, ◌-◌, ◌^◌, None, Some, length, min, ap, sym, subst, ◌∙◌, arith}
use Rattle.std.specs.Prelude.{nat_lt}
use Rattle.std.proofs.lemmas.Bool.{le-ltb}
use Rattle.hg_changeset.specs.Changeset.{text_limit}
use Rattle.hg_changeset.specs.EntryValue.{EntryValue}
use Rattle.hg_changeset.specs.Extras.{AscendByKey, item}
use Rattle.hg_changeset.specs.Lengths.{len_without, text_len}
use Rattle.hg_changeset.specs.Noted.{also_noting}
use Rattle.hg_changeset.proofs.LengthLemmas.{all_extras, counted_alike, one_put, others_within, text_is}
use Rattle.hg_changeset.proofs.length.is_noted_text_too_long.Goals as goal

pub returns-then-not-may_be_too_long : goal.returns-then-not-may_be_too_long
returns-then-not-may_be_too_long c =
    let e = c.args.entry.now in
    let key = c.args.key in
    let value = c.args.value.now in
    let noted = also_noting key.now value e in
    let extras = len_without (Some key) e.extra + (1 + length (item (key.now, value))) in
    let all : min (len_without None e.extra) (2 ^ 64 - 1) ≤ c.extras_len_bound.result =
    subst (λ (v : EntryValue). min (len_without None v.extra) (2 ^ 64 - 1) ≤ c.extras_len_bound.result)
    c.entry.view_is c.extras_len_bound.ensures.most in
    let ascending : AscendByKey e.extra =
    subst (λ (v : EntryValue). AscendByKey v.extra) c.entry.view_is c.extras_len_bound.ensures.ascending in
    let most : min extras (2 ^ 64 - 1) ≤ c.saturating_add-most.result =
    omega (
      arith,
      all,
      others_within key e.extra,
      c.extra_len_bound.ensures,
      c.saturating_add-most.ensures,
    ) in
    let within = c.may_be_too_long.ensures extras most c.if-not-may_be_too_long.true in
    sym (le-ltb text_limit (text_len e extras) within)
    ∙ ap (λ n. nat_lt text_limit (text_len e n)) (one_put key value e.extra ascending ∙ all_extras noted.extra)
    ∙ ap (nat_lt text_limit) (text_is noted)

pub returns : goal.returns
returns c =
    let e = c.args.entry.now in
    let key = c.args.key in
    let value = c.args.value.now in
    let noted = also_noting key.now value e in
    let others = len_without (Some key) e.extra in
    let own = 1 + length (item (key.now, value)) in
    let known = c.extras_len-others.ensures
    ∙ ap (λ (v : EntryValue). min (len_without (Some key) v.extra) (2 ^ 64 - 1)) c.entry.view_is in
    let ascending : AscendByKey e.extra =
    subst (λ (v : EntryValue). AscendByKey v.extra) c.entry.view_is c.extras_len_bound.ensures.ascending in
    let counted : c.saturating_add.result ≡ min (others + own) (2 ^ 64 - 1) =
    omega (arith, c.saturating_add.ensures, known, c.extra_len.ensures) in
    counted_alike e c.len_with.result c.saturating_add.result (others + own) c.len_with.ensures counted
    ∙ ap (λ n. nat_lt text_limit (text_len e n)) (one_put key value e.extra ascending ∙ all_extras noted.extra)
    ∙ ap (nat_lt text_limit) (text_is noted)
