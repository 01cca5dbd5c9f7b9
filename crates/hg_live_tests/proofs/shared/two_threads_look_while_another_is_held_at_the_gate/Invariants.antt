use Rattle.hg_live_tests.proofs.shared.two_threads_look_while_another_is_held_at_the_gate.Given as goal

abbrev pub ghosts-hold_and_look-K-NodeName : goal.ghosts-hold_and_look-K-NodeName
ghosts-hold_and_look-K-NodeName g a = record { opening = a.blank.opening }

abbrev pub ghosts-hold_and_look-K-JournalName : goal.ghosts-hold_and_look-K-JournalName
ghosts-hold_and_look-K-JournalName g a = record { book = a.blank.opened }

abbrev pub ghosts-hold_and_look-K-Ledger : goal.ghosts-hold_and_look-K-Ledger
ghosts-hold_and_look-K-Ledger g a = record { name = a.blank.tokens.name; parts = a.blank.tokens.parts }
