use Rattle.std.proofs.Common.{◌≡◌, ◌<◌, ◌+◌, ◌∙◌, arith, length, None, sym, subst, ap}
use Rattle.std.proofs.lemmas.Option.{slice_get-get_or}
use Rattle.hg_discovery.specs.declared.finding.Finding.TheVariants.{Undecided}
use Rattle.hg_graph.proofs.MarkLemmas.{written}
use Rattle.hg_discovery.specs.Under.{IsOneOf}
use Rattle.hg_discovery.specs.Spread.{MarksPlace}
use Rattle.hg_discovery.proofs.DecidedLemmas.{read_so, read_not_so}
use Rattle.hg_discovery.proofs.DrawLemmas.{IsCoveredTo, IsCoveredTo-so, IsCoveredTo-other, IsCoveredTo-end}
use Rattle.hg_discovery.proofs.draw.covered.Goals as goal
use Rattle.hg_discovery.proofs.draw.covered.Goals.{then-eq, else-eq}

pub loop-place-preserved : goal.loop-place-preserved
loop-place-preserved c =
    let ps = c.args.parents.now in
    let ds = c.args.decided.now in
    let i = c.loop-place.place in
    let within : i < length ds = omega (arith, c.requires.len, c.loop-place-test.true) in
    elim c.if-eq.branch [
      | then-eq w ↦
          let v = c.loop-place.marks in
          let new = w.mark_parents.new.marks in
          let from : w.deref_mut.result.now ≡ v.items = w.deref_mut.ensures.value in
          let set : MarksPlace (IsOneOf _) v.items new = subst
          (λ old. MarksPlace (IsOneOf _) old new) from w.mark_parents.ensures in
          let fits : length new ≡ v.len = omega (arith, w.mark_parents.ensures.len, w.deref_mut.ensures.len) in
          subst (IsCoveredTo ps ds c.args.so (i + 1))
          (sym (ap (λ u. u.items) w.marks-is ∙ written v.len new v.items fits))
          (IsCoveredTo-so ps ds c.args.so i v.items new _ c.loop-place.invariant
          (slice_get-get_or ps i (record { first = None; second = None }) (omega (arith, c.requires.len, within)))
          (read_so ds i Undecided c.args.so c.eq.result within c.eq.ensures w.if-eq.true) set)
      | else-eq w ↦ subst (λ v. IsCoveredTo ps ds c.args.so (i + 1) v.items) (sym w.marks-is)
          (IsCoveredTo-other ps ds c.args.so i c.loop-place.marks.items c.loop-place.invariant
          (read_not_so ds i Undecided c.args.so c.eq.result c.eq.ensures w.if-eq.false))
    ]

pub returns : goal.returns
returns c = IsCoveredTo-end c.args.parents.now c.args.decided.now c.args.so c.loop-place.place
    c.loop-place.marks.items (omega arith) c.loop-place.invariant
