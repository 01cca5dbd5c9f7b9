use Rattle.std.proofs.Common.{ap, sym, ◌∙◌}
use Rattle.std.specs.FinMap.{find}
use Rattle.hg_marker.specs.Texts.{bytes_cmp}
use Rattle.hg_marker.proofs.FormLemmas.{found_here, found_later}
use Rattle.hg_marker.proofs.metadata.value_in.Goals as goal

pub returns-then-eq : goal.returns-then-eq
returns-then-eq c =
    let same = sym c.eq.ensures ∙ c.if-eq.true in
    sym (found_here c.in-Some.found.now c.in-Some.value.now c.args.key.now c.next.new.self same)
    ∙ ap (find bytes_cmp c.args.key.now) (sym c.in-Some.ensures.steps) ∙ c.loop-found.invariant

pub loop-found-preserved : goal.loop-found-preserved
loop-found-preserved c =
    let other = sym c.eq.ensures ∙ c.if-eq.false in
    sym (found_later c.in-Some.found.now c.in-Some.value.now c.args.key.now c.next.new.self other)
    ∙ ap (find bytes_cmp c.args.key.now) (sym c.in-Some.ensures.steps) ∙ c.loop-found.invariant
