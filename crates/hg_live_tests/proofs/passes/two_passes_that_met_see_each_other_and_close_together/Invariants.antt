use Rattle.hg_live_tests.proofs.passes.two_passes_that_met_see_each_other_and_close_together.Given as goal

abbrev pub ghosts-meet_and_close-K-NodeName : goal.ghosts-meet_and_close-K-NodeName
ghosts-meet_and_close-K-NodeName g a = record { opening = a.blank.opening }

abbrev pub ghosts-meet_and_close-K-JournalName : goal.ghosts-meet_and_close-K-JournalName
ghosts-meet_and_close-K-JournalName g a = record { book = a.blank.opened }

abbrev pub ghosts-meet_and_close-K-Ledger : goal.ghosts-meet_and_close-K-Ledger
ghosts-meet_and_close-K-Ledger g a = record { name = a.blank.tokens.name; parts = a.blank.tokens.parts }
