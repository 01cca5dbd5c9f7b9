use Rattle.hg_live_tests.proofs.crowded.what_threads_see_never_goes_back_and_nothing_is_lost.Given as goal

abbrev pub ghosts-write_and_look-K-NodeName : goal.ghosts-write_and_look-K-NodeName
ghosts-write_and_look-K-NodeName g a = record { opening = a.blank.opening }

abbrev pub ghosts-write_and_look-K-JournalName : goal.ghosts-write_and_look-K-JournalName
ghosts-write_and_look-K-JournalName g a = record { book = a.blank.opened }

abbrev pub ghosts-write_and_look-K-Ledger : goal.ghosts-write_and_look-K-Ledger
ghosts-write_and_look-K-Ledger g a = record { name = a.blank.tokens.name; parts = a.blank.tokens.parts }
