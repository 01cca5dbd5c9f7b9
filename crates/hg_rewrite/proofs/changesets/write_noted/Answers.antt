use Rattle.std.proofs.Common.{List, ◌∷◌, [], map, ap, subst, ◌∙◌, Err}
use Rattle.hg_changeset.specs.EntryText.{entry_text}
use Rattle.hg_changeset.specs.Noted.{also_noting}
use Rattle.hg_rewrite.specs.Parts.{NewChangeset, contents_of, on_parents, written}
use Rattle.hg_rewrite.specs.Refusals.{entry_refused, changeset_refused}
use Rattle.hg_rewrite.specs.Answer.{Gives}
use Rattle.hg_rewrite.proofs.ChainLemmas.{chain_of_one, wanting_entry, written_entry}
use Rattle.hg_rewrite.proofs.EntryLemmas.{fine_unnoted}
use Rattle.hg_rewrite.proofs.MemoryLemmas.{told}
use Rattle.hg_rewrite.proofs.RowLemmas.{gives_later}
use Rattle.hg_rewrite.proofs.changesets.write_noted.Goals as goal

pub returns-in-Ok-clause-answer : goal.returns-in-Ok-clause-answer
returns-in-Ok-clause-answer c =
    let e = also_noting c.args.key.now c.args.value.now c.args.entry.now in
    let on = c.args.parents in
    gives_later (entry_refused e ∷ []) (map changeset_refused (written on (e ∷ [])))
    (map contents_of (written on (e ∷ []))) c.chain_one.result (written_entry e c.in-Ok.text c.in-Ok.ensures, tt)
    (subst (λ (ns : List NewChangeset). Gives (map changeset_refused ns) (map contents_of ns) c.chain_one.result)
    (ap (λ t. on_parents on t ∷ []) c.in-Ok.ensures.2 ∙ chain_of_one on (entry_text e)) c.chain_one.ensures.answer)

pub returns-in-Ok-clause-memory : goal.returns-in-Ok-clause-memory
returns-in-Ok-clause-memory c = λ e.
    let key = c.args.key.now in
    let value = c.args.value.now in
    let entry = c.args.entry.now in
    (fine_unnoted key value entry (written_entry (also_noting key value entry) c.in-Ok.text c.in-Ok.ensures), tt)

pub returns-in-Err-clause-memory : goal.returns-in-Err-clause-memory
returns-in-Err-clause-memory c = λ e.
    let key = c.args.key.now in
    let value = c.args.value.now in
    let entry = c.args.entry.now in (
      fine_unnoted key value entry (wanting_entry (also_noting key value entry) c.in-Err.fault c.in-Err.ensures
          (told (Err c.entry_refusal.result) _ c.entry_refusal.ensures e)),
      tt,
    )
