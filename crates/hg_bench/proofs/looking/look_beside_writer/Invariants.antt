use Rattle.hg_bench.proofs.looking.look_beside_writer.Given as goal

abbrev pub ghosts-time_looks-K-NodeName : goal.ghosts-time_looks-K-NodeName
ghosts-time_looks-K-NodeName g a = record { opening = a.blank.opening }

abbrev pub ghosts-time_looks-K-JournalName : goal.ghosts-time_looks-K-JournalName
ghosts-time_looks-K-JournalName g a = record { book = a.blank.opened }

abbrev pub ghosts-time_looks-K-Ledger : goal.ghosts-time_looks-K-Ledger
ghosts-time_looks-K-Ledger g a = record { name = a.blank.tokens.name; parts = a.blank.tokens.parts }
