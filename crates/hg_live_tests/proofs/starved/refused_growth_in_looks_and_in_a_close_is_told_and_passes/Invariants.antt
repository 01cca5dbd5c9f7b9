use Rattle.hg_live_tests.proofs.starved.refused_growth_in_looks_and_in_a_close_is_told_and_passes.Given as goal

abbrev pub ghosts-look_and_close-K-NodeName : goal.ghosts-look_and_close-K-NodeName
ghosts-look_and_close-K-NodeName g a = record { opening = a.blank.opening }

abbrev pub ghosts-look_and_close-K-JournalName : goal.ghosts-look_and_close-K-JournalName
ghosts-look_and_close-K-JournalName g a = record { book = a.blank.opened }

abbrev pub ghosts-look_and_close-K-Ledger : goal.ghosts-look_and_close-K-Ledger
ghosts-look_and_close-K-Ledger g a = record { name = a.blank.tokens.name; parts = a.blank.tokens.parts }
