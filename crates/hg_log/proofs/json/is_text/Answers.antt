use Rattle.hg_log.proofs.JsonLemmas.{utf8_told}
use Rattle.hg_log.proofs.json.is_text.Goals as goal

pub returns : goal.returns
returns c = utf8_told _ _ c.args.bytes.now c.from_utf8.result c.is_ok.result c.from_utf8.ensures.cases
    c.is_ok.ensures.value
