use Rattle.std.specs.Char.Escape.{escape_ascii}
use Rattle.hg_log.proofs.TextLemmas.{next_pushed}
use Rattle.hg_log.proofs.described.push_label.Goals as goal

pub loop-byte-preserved : goal.loop-byte-preserved
loop-byte-preserved c =
    next_pushed escape_ascii c.args.label.now c.loop-byte.byte-index _ _ _ _ c.loop-byte-test.true
    c.loop-byte.invariant c.in_ok-push_escape.ensures
