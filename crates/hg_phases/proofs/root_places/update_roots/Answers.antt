use Rattle.std.proofs.Common.{◌-◌, false, length, replicate, take, refl, ap, ◌∙◌, arith}
use Rattle.std.proofs.lemmas.List.{length-append, length-replicate, length-take-le, take_at}
use Rattle.hg_phases.specs.Log.{restored}
use Rattle.hg_phases.proofs.LogLemmas.{within_log}
use Rattle.hg_phases.proofs.RootPlaceLemmas.{roots-updated}
use Rattle.hg_phases.proofs.root_places.update_roots.Goals as goal

pub recompute_logged-requires-clause-logged : goal.recompute_logged-requires-clause-logged
recompute_logged-requires-clause-logged c =
    λ k d h. omega (arith, within_log _ _ _ _ c.requires.logged.1 k d h, c.requires.len)

pub returns-clause-updated : goal.returns-clause-updated
returns-clause-updated c =
    let cs = c.args.graph.now in
    let old = c.args.roots.now in
    let more = replicate (c.len.result - length old) false in
    let grown = c.in_ok-grow.ensures.grown in
    roots-updated _ c.len.ensures.graph _ _ _ _ c.requires.logged.1 _ _ _ _ _ c.requires.within c.requires.rooted
    (omega (
      arith,
      ap length grown,
      length-append old more,
      length-replicate (c.len.result - length old) false,
      c.requires.rooted.len,
      length-take-le c.args.before cs c.requires.within,
      c.requires.within,
      c.len.ensures.len,
    )) (ap (take (length old)) grown ∙ take_at old more (length old) refl) c.recompute_added.ensures
    c.recompute_logged.ensures
