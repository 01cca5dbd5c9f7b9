use Rattle.std.proofs.Common.{rules}
use Rattle.hgfleet.proofs.FlushLemmas.{all_flushed, not_flushed}
use Rattle.hgfleet.proofs.flush_behind.Goals as goal

pub returns-in-Ok-clause-flushed : goal.returns-in-Ok-clause-flushed
returns-in-Ok-clause-flushed g c = all_flushed c.args.done _ (search rules)

pub returns-in-Err-clause-flushed : goal.returns-in-Err-clause-flushed
returns-in-Err-clause-flushed g c = not_flushed c.args.done _ _ c.unflushed.ensures
