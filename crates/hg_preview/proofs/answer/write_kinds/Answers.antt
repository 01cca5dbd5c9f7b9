use Rattle.std.proofs.Common.{◌++◌, refl}
use Rattle.std.proofs.KnownBytes.{Appends-trans}
use Rattle.std.proofs.lemmas.Result.{on_ok_weaker}
use Rattle.hg_preview.proofs.answer.write_kinds.Goals as goal

pub returns : goal.returns
returns g c =
    let a = c.in_ok-write_moved.ensures in
    let b = c.in_ok-write_moved-2.ensures in
    let d = c.in_ok-write_moved-3.ensures in
    let e = c.in_ok-write_moved-4.ensures in
    on_ok_weaker c.write_moved-5.result
    (λ x. (
      a.0 ++ (b.0 ++ (d.0 ++ (e.0 ++ x.0))),
      record {
        orphan = a.0;
        phase_divergent = b.0;
        content_divergent = d.0;
        suspended = e.0;
        extinct = x.0;
        of_orphan = a.1;
        of_phase_divergent = b.1;
        of_content_divergent = d.1;
        of_suspended = e.1;
        of_extinct = x.1;
        all = refl;
      },
      Appends-trans _ _ _ a.0 (b.0 ++ (d.0 ++ (e.0 ++ x.0))) a.2
          (Appends-trans _ _ _ b.0 (d.0 ++ (e.0 ++ x.0)) b.2
          (Appends-trans _ _ _ d.0 (e.0 ++ x.0) d.2 (Appends-trans _ _ _ e.0 x.0 e.2 x.2))),
    ))
    c.write_moved-5.ensures
