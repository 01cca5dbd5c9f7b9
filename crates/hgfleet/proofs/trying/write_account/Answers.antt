use Rattle.std.proofs.Common.{◌++◌, refl}
use Rattle.std.proofs.KnownBytes.{Appends-trans}
use Rattle.hgfleet.proofs.trying.write_account.Goals as goal

pub returns-clause-written : goal.returns-clause-written
returns-clause-written g c =
    let told = c.in_ok-tried.ensures.written in
    let shown = c.in_ok-show_standing.ensures in (
      told.0 ++ shown.0,
      (told.0, shown.0, told.1, shown.1, refl),
      Appends-trans _ _ _ told.0 shown.0 told.2 shown.2,
    )
