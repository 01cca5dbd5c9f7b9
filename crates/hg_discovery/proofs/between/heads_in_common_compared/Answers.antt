use Rattle.hg_discovery.proofs.between.heads_in_common_compared.Goals as goal

pub returns-clause-heads : goal.returns-clause-heads
returns-clause-heads c = rw c.replica-3.ensures.replica at c.ask_in_rounds.ensures.heads
