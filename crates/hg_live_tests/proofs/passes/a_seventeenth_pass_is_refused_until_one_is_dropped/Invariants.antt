use Rattle.hg_live_tests.proofs.passes.a_seventeenth_pass_is_refused_until_one_is_dropped.Given as goal

abbrev pub ghosts-ask_for_seventeen-K-NodeName : goal.ghosts-ask_for_seventeen-K-NodeName
ghosts-ask_for_seventeen-K-NodeName g a = record { opening = a.blank.opening }

abbrev pub ghosts-ask_for_seventeen-K-JournalName : goal.ghosts-ask_for_seventeen-K-JournalName
ghosts-ask_for_seventeen-K-JournalName g a = record { book = a.blank.opened }

abbrev pub ghosts-ask_for_seventeen-K-Ledger : goal.ghosts-ask_for_seventeen-K-Ledger
ghosts-ask_for_seventeen-K-Ledger g a = record { name = a.blank.tokens.name; parts = a.blank.tokens.parts }
