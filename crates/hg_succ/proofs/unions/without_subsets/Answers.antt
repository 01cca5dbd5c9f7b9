use Rattle.std.proofs.Common.{◌≡◌, ◌++◌, ◌∷◌, [], Vec, Global, sym, ap, ◌∙◌}
use Rattle.hg_changeset.specs.declared.node.Node.{Node}
use Rattle.hg_succ.specs.Answer.{sets_of}
use Rattle.hg_succ.specs.Unions.{is_largest}
use Rattle.hg_succ.proofs.ListLemmas.{row_at}
use Rattle.hg_succ.proofs.SetLemmas.{filter_with, filter_without, sets_push, some_at}
use Rattle.hg_succ.proofs.unions.without_subsets.Goals as goal
use Rattle.hg_succ.proofs.unions.without_subsets.Goals.{then-is_largest+in_ok-copy+in_ok-push, else-is_largest}

pub loop-place-preserved : goal.loop-place-preserved
loop-place-preserved c =
    let sets = c.args.sets.now in
    let p = is_largest (sets_of sets) in
    let place = c.loop-place.place in
    let x = some_at sets place c.loop-place-test.true in
    let test = c.is_largest.ensures x.0.items (row_at sets place x.0 c.loop-place-test.true x.1) in
    elim c.if-is_largest.branch [
      | then-is_largest+in_ok-copy+in_ok-push w ↦
          let v = w.index-sets-place.result in
          let copy = w.in_ok-copy.copy in
          let same : copy.items ≡ v.items = w.in_ok-copy.ensures.items ∙ w.deref.ensures.value in
          ap (λ (kept : Vec (Vec Node Global) Global). sets_of kept.items) w.kept-is
          ∙ ap sets_of w.in_ok-push.ensures.items
          ∙ sets_push c.loop-place.kept.items copy
          ∙ (λ k. c.loop-place.invariant k ++ same k ∷ [])
          ∙ sym (filter_with p sets place v c.loop-place-test.true w.index-sets-place.is
          (sym (c.is_largest.ensures v.items (row_at sets place v c.loop-place-test.true w.index-sets-place.is))
          ∙ w.if-is_largest.true))
      | else-is_largest w ↦
          ap (λ (kept : Vec (Vec Node Global) Global). sets_of kept.items) w.kept-is ∙ c.loop-place.invariant
          ∙ sym (filter_without p sets place x.0 c.loop-place-test.true x.1 (sym test ∙ w.if-is_largest.false))
    ]
