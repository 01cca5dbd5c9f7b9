use Rattle.std.proofs.Common.{◌++◌, refl}
use Rattle.std.proofs.KnownBytes.{Appends-trans}
use Rattle.hg_preview.proofs.comparison.write_comparison.Goals as goal

pub returns-clause-written : goal.returns-clause-written
returns-clause-written g c =
    let a = c.in_ok-write_lack.ensures in
    let b = c.in_ok-write_lack-2.ensures in
    let d = c.in_ok-write_phases.ensures in
    let e = c.in_ok-write_agreement.ensures in (
      a.0 ++ (b.0 ++ (d.0 ++ e.0)),
      record {
        first_lacks = a.0;
        second_lacks = b.0;
        phases = d.0;
        last = e.0;
        of_first = a.1;
        of_second = b.1;
        of_phases = d.1;
        of_last = e.1;
        all = refl;
      },
      Appends-trans _ _ _ a.0 (b.0 ++ (d.0 ++ e.0)) a.2
          (Appends-trans _ _ _ b.0 (d.0 ++ e.0) b.2 (Appends-trans _ _ _ d.0 e.0 d.2 e.2)),
    )
