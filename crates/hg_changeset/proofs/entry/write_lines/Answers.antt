use Rattle.hg_changeset.specs.Noted.{listed, with_extras}
use Rattle.hg_changeset.proofs.EntryLemmas.{entry_lines}
use Rattle.hg_changeset.proofs.entry.write_lines.Goals as goal

pub returns : goal.returns
returns c =
    rw (
      c.in_ok-push_line-2.ensures,
      c.in_ok-push-3.ensures.items,
      c.in_ok-push-2.ensures,
      c.in_ok-push_date_of.ensures,
      c.in_ok-push.ensures.items,
      c.in_ok-push_line.ensures,
      c.in_ok-extend_from_slice.ensures.items,
      c.in_ok-text.ensures.items,
      c.requires.user,
      c.requires.desc,
    ) (entry_lines (with_extras (listed c.args.extras) c.args.entry.now))
