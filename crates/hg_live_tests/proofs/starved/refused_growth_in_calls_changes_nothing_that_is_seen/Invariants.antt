use Rattle.hg_live_tests.proofs.starved.refused_growth_in_calls_changes_nothing_that_is_seen.Given as goal

abbrev pub ghosts-starve-K-NodeName : goal.ghosts-starve-K-NodeName
ghosts-starve-K-NodeName g a = record { opening = a.blank.opening }

abbrev pub ghosts-starve-K-JournalName : goal.ghosts-starve-K-JournalName
ghosts-starve-K-JournalName g a = record { book = a.blank.opened }

abbrev pub ghosts-starve-K-Ledger : goal.ghosts-starve-K-Ledger
ghosts-starve-K-Ledger g a = record { name = a.blank.tokens.name; parts = a.blank.tokens.parts }
