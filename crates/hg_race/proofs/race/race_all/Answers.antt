use Rattle.std.proofs.Common.{rules}
use Rattle.hg_race.proofs.SendLemmas.{racer_send}
use Rattle.hg_race.proofs.race.race_all.Goals as goal

pub map_vec-requires-send-J : goal.map_vec-requires-send-J
map_vec-requires-send-J g c κs within = search (rules, racer_send)
