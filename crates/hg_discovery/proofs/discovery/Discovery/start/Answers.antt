use Rattle.hg_discovery.proofs.discovery.Discovery.start.Goals as goal

pub sample-requires-clause-in_order : goal.sample-requires-clause-in_order
sample-requires-clause-in_order c = rw c.deref.ensures.value c.in_ok-baseline.ensures.in_order
