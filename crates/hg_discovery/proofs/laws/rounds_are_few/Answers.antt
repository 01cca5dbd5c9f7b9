use Rattle.hg_discovery.proofs.CountLemmas.{rounds_count}
use Rattle.hg_discovery.proofs.laws.rounds_are_few.Goals as goal

pub returns : goal.returns
returns c s t rounds known run = rounds_count rounds s t known run
