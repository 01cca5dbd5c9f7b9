use Rattle.hg_script.proofs.input.read_script.Given as goal

-- the ledger that was just made
abbrev pub ghosts-count_and_read : goal.ghosts-count_and_read
ghosts-count_and_read g a = record { name = a.blank.name; parts = a.blank.parts }
