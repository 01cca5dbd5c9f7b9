use denote.Param.Send.{sendable}
use Rattle.hg_race.proofs.SendLemmas.{station_send}
use Rattle.hg_race.proofs.racer.race_by.Goals as goal

pub race_both-raced-requires-send-M : goal.race_both-raced-requires-send-M
race_both-raced-requires-send-M g c κs within = search (sendable, station_send) depth 20
