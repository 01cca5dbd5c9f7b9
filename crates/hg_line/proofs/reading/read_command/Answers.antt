use Rattle.std.proofs.Common.{[], ◌-◌, length, take, drop, get_or}
use Rattle.hg_line.specs.Commands.{Word}
use Rattle.hg_line.proofs.WordLemmas.{first_and_rest}
use Rattle.hg_line.proofs.reading.read_command.Goals as goal

abbrev none : Word
none = record { ref_ptr = (0, 0); now = [] }

pub returns-in-Ok : goal.returns-in-Ok
returns-in-Ok c =
    let words = c.args.words.now in (
      get_or words 0 none,
      take (length words - 1) (drop 1 words),
      first_and_rest words none c.in-len1-up.len_at_least,
      c.in-Ok.ensures,
    )

pub returns-in-Err : goal.returns-in-Err
returns-in-Err c =
    let words = c.args.words.now in (
      get_or words 0 none,
      take (length words - 1) (drop 1 words),
      first_and_rest words none c.in-len1-up.len_at_least,
      c.in-Err.ensures,
    )
