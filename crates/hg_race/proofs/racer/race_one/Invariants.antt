use Rattle.hg_race.proofs.racer.race_one.Given as goal

abbrev pub ghosts-race_named-K-NodeName : goal.ghosts-race_named-K-NodeName
ghosts-race_named-K-NodeName g a = record { opening = a.blank.opening }

abbrev pub ghosts-race_named-K-JournalName : goal.ghosts-race_named-K-JournalName
ghosts-race_named-K-JournalName g a = record { book = a.blank.opened }

abbrev pub ghosts-race_named-K-Ledger : goal.ghosts-race_named-K-Ledger
ghosts-race_named-K-Ledger g a = record { name = a.blank.tokens.name; parts = a.blank.tokens.parts }
