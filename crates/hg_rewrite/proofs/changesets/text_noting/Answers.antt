use Rattle.std.proofs.Common.{subst}
use Rattle.hg_changeset.specs.EntryValue.{EntryValue}
use Rattle.hg_changeset.specs.EntryAnswer.{EntryAnswer}
use Rattle.hg_rewrite.proofs.EntryLemmas.{noted_alone}
use Rattle.hg_rewrite.proofs.changesets.text_noting.Goals as goal

pub returns : goal.returns
returns c =
    subst (λ (noted : EntryValue). EntryAnswer noted c.noted_text.result)
    (noted_alone c.args.key.now c.args.value.now c.args.entry.now c.requires) c.noted_text.ensures
