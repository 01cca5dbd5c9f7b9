use Rattle.hg_marker.proofs.NodesLemmas.{as_ids}
use Rattle.hg_marker.proofs.reading.read_ids.Goals as goal

pub returns-clause-ids : goal.returns-clause-ids
returns-clause-ids g c =
    as_ids c.args.short c.args.count c.args.bytes.now (λ x. (x.0.now, x.1.now)) c.read_field.result c.read_field.ensures
