use Rattle.hg_log.specs.Json.{byte_text}
use Rattle.hg_log.proofs.TextLemmas.{next_pushed}
use Rattle.hg_log.proofs.json.push_bytes.Goals as goal

pub loop-byte-preserved : goal.loop-byte-preserved
loop-byte-preserved c =
    next_pushed (byte_text c.args.is_text) c.args.bytes.now c.loop-byte.byte-index _ _ _ _ c.loop-byte-test.true
    c.loop-byte.invariant c.in_ok-push_byte.ensures
