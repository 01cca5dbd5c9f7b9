use Rattle.std.proofs.Common.{◌≡◌, ◌<◌, length, arith, ◌∷◌, []}
use Rattle.hg_changeset.specs.Bytes.{line_feed}
use Rattle.hg_changeset.specs.WhiteSpace.{trimmed_front}
use Rattle.hg_changeset.proofs.LengthLemmas.{feed_none, feed_front, feed_ends}
use Rattle.hg_changeset.proofs.description.JoinedLen.with_line_feed.Goals as goal

pub returns-then-self-eq0 : goal.returns-then-self-eq0
returns-then-self-eq0 c = λ text measured.
    let none : length (trimmed_front (line_feed ∷ []) text) ≡ 0 = omega (arith, measured.0, c.if-self-eq0.true) in (
      omega (arith, measured.0, none, feed_none text none),
      omega (arith, measured.1, feed_ends text),
    )

pub returns : goal.returns
returns c = λ text measured.
    let some : 0 < length (trimmed_front (line_feed ∷ []) text) = omega (arith, measured.0, c.if-self-eq0.false) in (
      omega (arith, measured.0, c.saturating_add.ensures, feed_front text some),
      omega (arith, measured.1, feed_ends text),
    )
