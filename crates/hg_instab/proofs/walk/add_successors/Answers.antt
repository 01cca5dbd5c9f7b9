use Rattle.std.proofs.Common.{◌+◌, ◌≡◌, ℕ, List, take, get_or, slice_get, Some, sym, subst, ap, ◌∙◌}
use Rattle.std.specs.Option.{option_copied}
use Rattle.std.proofs.lemmas.List.{get_or_default, take_all}
use Rattle.std.proofs.lemmas.List.Elements.{Contains-get_or}
use Rattle.std.proofs.lemmas.Option.{none-some}
use Rattle.hg_instab.specs.Walk.{Adds, IsFollowed, IsNext}
use Rattle.hg_instab.proofs.WalkLemmas.{IsNextOf, IsNextAt, adds-then, adds-same, of-more, next-all}
use Rattle.hg_instab.proofs.walk.add_successors.Goals as goal
use Rattle.hg_instab.proofs.walk.add_successors.Goals.{in-Some+in_ok-follow-in-Some, in-None}

pub loop-place-preserved : goal.loop-place-preserved
loop-place-preserved c =
    let ms = c.args.store.now in
    let Kind = IsFollowed c.args.followed in
    let places = c.with_predecessor-place-items.result.now in
    let i = c.loop-place.place-index in
    let k = get_or places i 0 in
    elim c.match-get.branch [
      | in-Some+in_ok-follow-in-Some w ↦
          let m = w.in-Some.marker.now in
          let at : slice_get ms k ≡ Some m = sym c.get.ensures ∙ ap option_copied w.in-Some.is in
          rw w.seen-is (adds-then (IsNextAt Kind ms (take i places)) (IsNextOf Kind m)
          (IsNextAt Kind ms (take (i + 1) places)) c.args.seen.now.keys c.loop-place.seen.keys _
          (of-more (IsNextOf Kind) ms places i k m c.loop-place-test.true
          (get_or_default places i k 0 c.loop-place-test.true) at) c.loop-place.invariant
          w.in_ok-follow-in-Some.ensures)
      | in-None w ↦
          let there = (c.with_predecessor-place-items.ensures.exact k).0
          (Contains-get_or places i 0 c.loop-place-test.true) in
          absurd (none-some there.0 (sym (ap option_copied w.in-None.is) ∙ c.get.ensures ∙ there.1))
    ]

pub returns : goal.returns
returns c =
    let ms = c.args.store.now in
    let Kind = IsFollowed c.args.followed in
    let places = c.with_predecessor-place-items.result.now in
    let all = take_all c.loop-place.place-index places c.loop-place-test.false in
    adds-same (IsNextAt Kind ms places) (IsNext Kind ms c.args.node) c.args.seen.now.keys c.loop-place.seen.keys
    (λ n. next-all Kind ms places c.args.node n c.with_predecessor-place-items.ensures)
    (subst (λ (ps : List ℕ). Adds (IsNextAt Kind ms ps) c.args.seen.now.keys c.loop-place.seen.keys) all
    c.loop-place.invariant)
