use Rattle.hg_join_tests.proofs.beginnings.what_was_seen_earlier_begins_what_is_seen_later.Given as goal

abbrev pub ghosts-grown : goal.ghosts-grown
ghosts-grown g a = record { book = a.opened }
