use Rattle.std.proofs.Common.{◌∷◌, ◌++◌, [], sym, ap, ◌∙◌}
use Rattle.std.specs.Option.{option_copied}
use Rattle.hg_obsstore.proofs.PlaceLemmas.{picked-some, picked-none}
use Rattle.hg_message.proofs.copies.copy_changesets_at.Goals as goal
use Rattle.hg_message.proofs.copies.copy_changesets_at.Goals.{in-Some+in_ok-copy-in-Some+in_ok-push-in-Some, in-None}

pub loop-place-preserved : goal.loop-place-preserved
loop-place-preserved c =
    let xs = c.args.graph.now in
    let places = c.args.places.now in
    let i = c.loop-place.place-index in
    let copies = c.loop-place.copies.items in
    elim c.match-changeset_at.branch [
      | in-Some+in_ok-copy-in-Some+in_ok-push-in-Some w ↦
          let x = w.in-Some.changeset.now in
          ap (λ v. v.items) w.copies-is ∙ w.in_ok-push-in-Some.ensures.items
          ∙ ap (λ y. copies ++ y ∷ []) w.in_ok-copy-in-Some.ensures
          ∙ ap (λ ys. ys ++ x ∷ []) c.loop-place.invariant ∙ sym
          (picked-some xs places i c.loop-place-test.true x
          (sym c.changeset_at.ensures ∙ ap option_copied w.in-Some.is))
      | in-None w ↦
          ap (λ v. v.items) w.copies-is ∙ c.loop-place.invariant
          ∙ sym (picked-none xs places i c.loop-place-test.true
          (sym c.changeset_at.ensures ∙ ap option_copied w.in-None.is))
    ]
