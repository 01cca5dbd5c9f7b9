use Rattle.std.proofs.Common.{◌≡◌, ◌∙◌, ap, refl, [], ◌∷◌}
use Rattle.hg_changeset.specs.EntryValue.{EntryValue}
use Rattle.hg_changeset.specs.EntryText.{trimmed_user}
use Rattle.hg_changeset.specs.Noted.{noting}
use Rattle.hg_changeset.proofs.EntryLemmas.{no_fault, one_ascends, one_fine}
use Rattle.hg_changeset.proofs.entry.noted_text.Goals as goal

pub returns : goal.returns
returns c =
    let key = c.args.key.now in
    let value = c.args.value.now in
    let user : c.trimmed_user-user.result.now ≡ trimmed_user c.args.entry.now.user =
    c.trimmed_user-user.ensures
    ∙ ap trimmed_user (c.deref.ensures.value ∙ ap (λ (e : EntryValue). e.user) c.entry.view_is) in (
      no_fault (noting key value c.args.entry.now) c.trimmed_user-user.result.now ((key, value) ∷ []) user
          c.in_ok-check_user.ensures refl (one_fine key value c.if-is_bad_key.ensures),
      one_ascends key value,
      c.in_ok-write_entry.ensures,
    )
