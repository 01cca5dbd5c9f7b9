use Rattle.std.proofs.Common.{ap}
use Rattle.std.proofs.lemmas.Result.{IfOk-weaker}
use Rattle.hgfleet.proofs.FileLemmas.{is_read}
use Rattle.hgfleet.proofs.files.read_bytes.Goals as goal

pub returns-in-Ok : goal.returns-in-Ok
returns-in-Ok g c =
    IfOk-weaker c.within_limit.result _ _
    (λ bytes kept. is_read (g.R.Read.remaining c.args.reader.now) (g.R.Read.remaining c.take.result.inner.now)
    c.take.result.limit c.new-bytes.result.items c.read_to_end.new.buf.items bytes.items c.take.ensures.limit
    (ap (λ r. g.R.Read.remaining r.now) c.take.ensures.inner) c.new-bytes.ensures.items c.in-Ok.ensures.bytes kept.0
    kept.1)
    c.within_limit.ensures
