use Rattle.std.proofs.lemmas.Result.{on_ok_weaker}
use Rattle.hg_log.proofs.TextLemmas.{at_ok}
use Rattle.hg_why.proofs.ReasonLemmas.{block_of}
use Rattle.hg_why.proofs.why.write_block.Goals as goal

pub returns : goal.returns
returns g c =
    let named = c.push_named-appended in
    let written = c.in_ok-write_appended.ensures in
    on_ok_weaker c.write_reasons.result
    (block_of c.args.node c.args.reasons.now named.new.line.items _ _ _
    (at_ok named.result written.0 named.ensures) written.1)
    c.write_reasons.ensures
