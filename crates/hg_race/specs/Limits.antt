-- How many nodes race, and for how many rounds.
use Rattle.std.specs.Prelude.{ℕ}

abbrev pub least_nodes : ℕ
least_nodes = 2

abbrev pub most_nodes : ℕ
most_nodes = 16

abbrev pub most_rounds : ℕ
most_rounds = 1000
