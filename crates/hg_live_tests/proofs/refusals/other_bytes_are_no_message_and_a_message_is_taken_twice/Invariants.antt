use Rattle.hg_live_tests.proofs.refusals.other_bytes_are_no_message_and_a_message_is_taken_twice.Given as goal

abbrev pub ghosts-take_bytes-K-NodeName : goal.ghosts-take_bytes-K-NodeName
ghosts-take_bytes-K-NodeName g a = record { opening = a.blank.opening }

abbrev pub ghosts-take_bytes-K-JournalName : goal.ghosts-take_bytes-K-JournalName
ghosts-take_bytes-K-JournalName g a = record { book = a.blank.opened }

abbrev pub ghosts-take_bytes-K-Ledger : goal.ghosts-take_bytes-K-Ledger
ghosts-take_bytes-K-Ledger g a = record { name = a.blank.tokens.name; parts = a.blank.tokens.parts }
