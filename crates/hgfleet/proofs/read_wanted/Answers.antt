use Rattle.std.proofs.Common.{map}
use Rattle.hgfleet.proofs.ArgumentLemmas.{answer_within}
use Rattle.hgfleet.proofs.read_wanted.Goals as goal

pub returns : goal.returns
returns g c = answer_within (map (λ s. s.now) c.deref.result.now) c.read_args.result c.read_args.ensures
