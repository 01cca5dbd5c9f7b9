-- What was put and taken at a station.
use Rattle.std.specs.Prelude.{ℕ, List, map}
use Rattle.hg_race.specs.declared.station.Station.{Station}

-- the messages that were put, in order
abbrev pub given_at : Station → List (List ℕ)
given_at s = map (λ p. p.message) s.seat.puts

-- the messages that were taken, in order
abbrev pub taken_at : Station → List (List ℕ)
taken_at s = map (λ p. p.message) s.seat.takes
