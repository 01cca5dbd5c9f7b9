use Rattle.std.proofs.Common.{◌+◌, ◌≡◌, ℕ, List, take, get_or, slice_get, Some, None, Contains, sym, subst, ap, ◌∙◌}
use Rattle.std.specs.Option.{option_copied}
use Rattle.std.proofs.lemmas.List.{get_or_default, take_all}
use Rattle.hg_marker.specs.Fields.{Fields}
use Rattle.hg_replica.specs.Change.{ChangeValue}
use Rattle.hg_replica.specs.Content.{content_of}
use Rattle.hg_instab.specs.AfterPublic.{HandsOn, IsAfterFresh}
use Rattle.hg_instab.specs.Walk.{Adds}
use Rattle.hg_instab.proofs.AfterPublicLemmas.{fresh-at}
use Rattle.hg_instab.proofs.RegionLemmas.{of-missing}
use Rattle.hg_instab.proofs.WalkLemmas.{IsNextOf, IsNextAt, adds-then, adds-same, of-more}
use Rattle.hg_instab.proofs.after_public.add_after_markers.Goals as goal
use Rattle.hg_instab.proofs.after_public.add_after_markers.Goals.{in-Some+in_ok-hand_on-in-Some, in-None}

pub loop-place-preserved : goal.loop-place-preserved
loop-place-preserved c =
    let ms = c.args.replica.now.markers in
    let Kind = HandsOn (content_of c.args.replica.now) c.args.known.now.keys in
    let places = c.as_slice-place-items.result.now in
    let i = c.loop-place.place-index in
    let k = get_or places i 0 in
    let here : get_or places i k ≡ k = get_or_default places i k 0 c.loop-place-test.true in
    let old = c.args.seen.now.keys in
    let seen = c.loop-place.seen.keys in
    let got = c.get.ensures ∙ ap (λ (xs : List Fields). slice_get xs k) c.store.ensures in
    elim c.match-get.branch [
      | in-Some+in_ok-hand_on-in-Some w ↦
          let m = w.in-Some.marker.now in
          let at : slice_get ms k ≡ Some m = sym got ∙ ap option_copied w.in-Some.is in
          rw w.seen-is (adds-then (IsNextAt Kind ms (take i places)) (λ n. Kind m × Contains m.successors n)
          (IsNextAt Kind ms (take (i + 1) places)) old seen _
          (of-more (IsNextOf Kind) ms places i k m c.loop-place-test.true here at) c.loop-place.invariant
          w.in_ok-hand_on-in-Some.ensures)
      | in-None w ↦
          let none : slice_get ms k ≡ None = sym got ∙ ap option_copied w.in-None.is in
          rw w.seen-is (adds-same (IsNextAt Kind ms (take i places)) (IsNextAt Kind ms (take (i + 1) places)) old seen
          (of-missing (IsNextOf Kind) ms places i k c.loop-place-test.true here none) c.loop-place.invariant)
    ]

pub returns : goal.returns
returns c =
    let ms = c.args.replica.now.markers in
    let g = content_of c.args.replica.now in
    let known = c.args.known.now.keys in
    let change = c.args.change.now in
    let places = c.as_slice-place-items.result.now in
    adds-same (IsNextAt (HandsOn g known) ms change.markers) (IsAfterFresh g change ms known) c.args.seen.now.keys
    c.loop-place.seen.keys (fresh-at g change ms known)
    (subst (λ (ps : List ℕ). Adds (IsNextAt (HandsOn g known) ms ps) c.args.seen.now.keys c.loop-place.seen.keys)
    (take_all c.loop-place.place-index places c.loop-place-test.false ∙ c.as_slice-place-items.ensures
    ∙ ap (λ (x : ChangeValue). x.markers) c.change.view_is)
    c.loop-place.invariant)
