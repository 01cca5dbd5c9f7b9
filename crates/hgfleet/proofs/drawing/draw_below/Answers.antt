use Rattle.std.proofs.Common.{◌++◌, refl}
use Rattle.std.proofs.KnownBytes.{Appends-trans}
use Rattle.std.proofs.lemmas.Result.{on_ok_weaker}
use Rattle.hgfleet.specs.Drawings.{log_heading}
use Rattle.hgfleet.proofs.drawing.draw_below.Goals as goal

pub returns : goal.returns
returns g c = on_ok_weaker c.draw_log.result
    (λ d. (
      log_heading c.args.name.now ++ d.0,
      (d.0, d.1, refl),
      Appends-trans _ _ _ (log_heading c.args.name.now) d.0 c.in_ok-write_heading.ensures d.2,
    )) c.draw_log.ensures
