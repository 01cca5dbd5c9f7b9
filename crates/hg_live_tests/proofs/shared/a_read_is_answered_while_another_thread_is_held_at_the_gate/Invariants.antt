use Rattle.hg_live_tests.proofs.shared.a_read_is_answered_while_another_thread_is_held_at_the_gate.Given as goal

abbrev pub ghosts-hold_and_read-K-NodeName : goal.ghosts-hold_and_read-K-NodeName
ghosts-hold_and_read-K-NodeName g a = record { opening = a.blank.opening }

abbrev pub ghosts-hold_and_read-K-JournalName : goal.ghosts-hold_and_read-K-JournalName
ghosts-hold_and_read-K-JournalName g a = record { book = a.blank.opened }

abbrev pub ghosts-hold_and_read-K-Ledger : goal.ghosts-hold_and_read-K-Ledger
ghosts-hold_and_read-K-Ledger g a = record { name = a.blank.tokens.name; parts = a.blank.tokens.parts }
