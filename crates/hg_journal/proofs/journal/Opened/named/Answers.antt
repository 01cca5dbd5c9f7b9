use Rattle.std.proofs.Common.{◌∙◌, ap, None, [], length}
use Rattle.hg_journal.specs.Rules.{head_of, entries}
use Rattle.hg_journal.proofs.journal.Opened.named.Goals as goal

pub invariant_of-result : goal.invariant_of-result
invariant_of-result g c =
    let i = c.self.invariant in
    let book = c.self.view_is ∙ c.requires in (
      i.0 ∙ ap head_of book,
      book,
      i.1 ∙ book,
      i.2,
      ([], None, i.3),
      ap length i.3,
      ap (λ l. length (entries l)) i.3,
    )
