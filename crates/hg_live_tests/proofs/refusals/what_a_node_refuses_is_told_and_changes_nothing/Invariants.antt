use Rattle.hg_live_tests.proofs.refusals.what_a_node_refuses_is_told_and_changes_nothing.Given as goal

abbrev pub ghosts-refuse-K-NodeName : goal.ghosts-refuse-K-NodeName
ghosts-refuse-K-NodeName g a = record { opening = a.blank.opening }

abbrev pub ghosts-refuse-K-JournalName : goal.ghosts-refuse-K-JournalName
ghosts-refuse-K-JournalName g a = record { book = a.blank.opened }

abbrev pub ghosts-refuse-K-Ledger : goal.ghosts-refuse-K-Ledger
ghosts-refuse-K-Ledger g a = record { name = a.blank.tokens.name; parts = a.blank.tokens.parts }
