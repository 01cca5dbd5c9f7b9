use Rattle.std.proofs.Common.{◌≡◌, [], inl, refl, sym, ◌∙◌}
use Rattle.std.proofs.lemmas.Option.{none-some}
use Rattle.hg_changeset.specs.EntryText.{entry_text}
use Rattle.hg_changeset.specs.Noted.{also_noting}
use Rattle.hg_changeset.specs.Changeset.{fault_before_hashing}
use Rattle.hg_rewrite.proofs.FirstLemmas.{none_seen, first_seen}
use Rattle.hg_rewrite.proofs.changesets.check_first_noted.Goals as goal
use Rattle.hg_rewrite.proofs.changesets.check_first_noted.Goals.{After-seen_fault}

-- what was seen is so of the text with the extra noted
seen : (c : After-seen_fault) → c.seen_fault.result ≡ fault_before_hashing c.args.parents.0 c.args.parents.1
    (entry_text (also_noting c.args.key.now c.args.value.now c.args.entry.now))
seen c =
    c.seen_fault.ensures (entry_text (also_noting c.args.key.now c.args.value.now c.args.entry.now))
    c.is_noted_text_too_long.ensures

pub returns-in-None : goal.returns-in-None
returns-in-None c =
    none_seen c.args.parents (also_noting c.args.key.now c.args.value.now c.args.entry.now) []
    (sym (seen (goal.at.returns-in-None c).After-seen_fault) ∙ c.in-None.is)

pub returns-in-Ok : goal.returns-in-Ok
returns-in-Ok c =
    first_seen c.args.parents (also_noting c.args.key.now c.args.value.now c.args.entry.now) []
    ((λ a. none-some a.1.0 (sym (c.in-Ok.ensures c.args.value.now) ∙ a.1.1)), tt) c.in-Some.fault
    (sym (seen (goal.at.returns-in-Ok c).After-seen_fault) ∙ c.in-Some.is)

pub returns-in-Err : goal.returns-in-Err
returns-in-Err c = inl (c.in-Err.fault, c.in-Err.ensures c.args.value.now, refl)
