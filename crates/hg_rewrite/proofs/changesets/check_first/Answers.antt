use Rattle.std.proofs.Common.{◌≡◌, ◌∷◌, List, drop, map, sym, subst, ap, ◌∙◌, arith}
use Rattle.std.proofs.lemmas.List.{drop_more, nil_from_length}
use Rattle.std.proofs.lemmas.Result.{err_from_is_err_and}
use Rattle.hg_changeset.specs.EntryText.{entry_text}
use Rattle.hg_changeset.specs.EntryValue.{EntryValue}
use Rattle.hg_changeset.specs.Changeset.{fault_before_hashing}
use Rattle.hg_rewrite.specs.declared.refusal.Refusal.TheVariants.{Fault}
use Rattle.hg_rewrite.specs.declared.refusal.Cause.TheVariants.{Changeset}
use Rattle.hg_rewrite.specs.Parts.{chain, written}
use Rattle.hg_rewrite.specs.Refusals.{NoneApplies, IsFirstRefusal, entry_refused, changeset_refused, unwritten}
use Rattle.hg_rewrite.specs.Memory.{refused_first}
use Rattle.hg_rewrite.proofs.RowLemmas.{first_sooner}
use Rattle.hg_rewrite.proofs.FirstLemmas.{none_seen, first_seen}
use Rattle.hg_rewrite.proofs.changesets.check_first.Goals as goal
use Rattle.hg_rewrite.proofs.changesets.check_first.Goals.{After-seen_fault}

-- the first entry and the others
divided : (c : After-seen_fault) → c.args.entries.now ≡ c.first-item.result ∷ drop 1 c.args.entries.now
divided c =
    let es = c.args.entries.now in
    drop_more es 0 c.first-item.result (omega (arith, c.in-len1-up.len_at_least))
    ∙ ap (λ (e : EntryValue). e ∷ drop 1 es) (sym c.first-item.is)

-- what was seen is so of its text
seen : (c : After-seen_fault) → c.seen_fault.result ≡ fault_before_hashing c.args.parents.0 c.args.parents.1
    (entry_text c.first-item.result)
seen c = c.seen_fault.ensures (entry_text c.first-item.result) c.is_text_too_long.ensures

pub returns-in-empty : goal.returns-in-empty
unfolding chain
returns-in-empty c =
    subst (λ (es : List EntryValue). NoneApplies (refused_first (written c.args.parents es)))
    (sym (nil_from_length c.args.entries.now (omega (arith, c.in-empty.len_below)))) tt

pub returns-in-None : goal.returns-in-None
returns-in-None c =
    let after = (goal.at.returns-in-None c).After-seen_fault in
    subst (λ (es : List EntryValue). NoneApplies (refused_first (written c.args.parents es))) (sym (divided after))
    (none_seen c.args.parents c.first-item.result (drop 1 c.args.entries.now) (sym (seen after) ∙ c.in-None.is))

pub returns-in_err-check_entries-in-Some : goal.returns-in_err-check_entries-in-Some
returns-in_err-check_entries-in-Some c =
    let es = c.args.entries.now in
    let p = err_from_is_err_and c.from_residual.result c.from_residual.ensures.1 in
    rw (p.1, p.2) (first_sooner (map entry_refused es) (map changeset_refused (written c.args.parents es)) _
    c.in_err-check_entries-in-Some.ensures)

pub returns-in_ok-check_entries-in-Some : goal.returns-in_ok-check_entries-in-Some
returns-in_ok-check_entries-in-Some c =
    let after = (goal.at.returns-in_ok-check_entries-in-Some c).After-seen_fault in
    let f = c.in-Some.fault in
    subst (λ (es : List EntryValue). IsFirstRefusal (unwritten es (written c.args.parents es)) (Fault (Changeset f)))
    (sym (divided after))
    (first_seen c.args.parents c.first-item.result (drop 1 c.args.entries.now)
    (subst (λ (es : List EntryValue). NoneApplies (map entry_refused es)) (divided after)
    c.in_ok-check_entries-in-Some.ensures) f (sym (seen after) ∙ c.in-Some.is))
