use Rattle.std.proofs.Common.{List, subst}
use Rattle.hg_marker.specs.Fields.{Fields}
use Rattle.hg_instab.specs.Amend.{IsNamedOnce}
use Rattle.hg_instab.specs.Walk.{IsFork}
use Rattle.hg_instab.proofs.amend.is_plain.Goals as goal

pub returns-then-is_obsolete : goal.returns-then-is_obsolete
returns-then-is_obsolete c t =
    let amend = c.args.amend in
    let alone = subst (λ (ms : List Fields). (¬ (IsFork ms amend.from)) × IsNamedOnce ms amend.to) c.store.ensures
    (c.is_alone.ensures t) in
    record {
      close = c.has.ensures.0 c.if-has.true;
      obsolete = c.is_obsolete.ensures.0 c.if-is_obsolete.true;
      once = alone.0;
      named = alone.1;
    }
