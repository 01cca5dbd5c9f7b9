use Rattle.std.proofs.Common.{[]}
use Rattle.std.proofs.KnownBytes.{Appends-nil}
use Rattle.hg_preview.proofs.ComparisonLemmas.{count_text, no_count}
use Rattle.hg_preview.proofs.comparison.write_count.Goals as goal

pub returns-then-count-eq0 : goal.returns-then-count-eq0
returns-then-count-eq0 g c = ([], no_count c.args.count c.if-count-eq0.true, Appends-nil _)

pub returns : goal.returns
returns g c =
    let written = c.in_ok-write_line.ensures.written in (
      written.0,
      count_text c.args.count _ _ written.0 c.if-count-eq0.false c.in_ok-push_count.ensures written.1,
      written.2,
    )
