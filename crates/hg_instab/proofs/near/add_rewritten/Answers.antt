use Rattle.std.proofs.Common.{◌+◌, ◌≡◌, ℕ, List, take, get_or, slice_get, Some, None, sym, subst, ap, ◌∙◌}
use Rattle.std.specs.Option.{option_copied}
use Rattle.std.proofs.lemmas.List.{get_or_default, take_all}
use Rattle.hg_instab.specs.Region.{IsStartOf, IsStart}
use Rattle.hg_instab.specs.Walk.{Adds}
use Rattle.hg_instab.proofs.RegionLemmas.{of-missing}
use Rattle.hg_instab.proofs.WalkLemmas.{adds-then, adds-same, of-more}
use Rattle.hg_instab.proofs.near.add_rewritten.Goals as goal
use Rattle.hg_instab.proofs.near.add_rewritten.Goals.{in-Some+in_ok-add_touched-in-Some, in-None}

pub loop-place-preserved : goal.loop-place-preserved
loop-place-preserved c =
    let ms = c.args.store.now in
    let near = c.args.near.now.keys in
    let places = c.args.places.now in
    let i = c.loop-place.place-index in
    let k = get_or places i 0 in
    let is = get_or_default places i k 0 c.loop-place-test.true in
    elim c.match-get.branch [
      | in-Some+in_ok-add_touched-in-Some w ↦
          let m = w.in-Some.marker.now in
          let at : slice_get ms k ≡ Some m = sym c.get.ensures ∙ ap option_copied w.in-Some.is in
          rw w.starts-is (adds-then (IsStart ms near (take i places)) (IsStartOf ms near m)
          (IsStart ms near (take (i + 1) places)) c.args.starts.now.keys c.loop-place.starts.keys _
          (of-more (IsStartOf ms near) ms places i k m c.loop-place-test.true is at) c.loop-place.invariant
          w.in_ok-add_touched-in-Some.ensures)
      | in-None w ↦
          let at : slice_get ms k ≡ None = sym c.get.ensures ∙ ap option_copied w.in-None.is in
          rw w.starts-is (adds-same (IsStart ms near (take i places)) (IsStart ms near (take (i + 1) places))
          c.args.starts.now.keys c.loop-place.starts.keys
          (of-missing (IsStartOf ms near) ms places i k c.loop-place-test.true is at) c.loop-place.invariant)
    ]

pub returns : goal.returns
returns c =
    subst (λ (ps : List ℕ). Adds (IsStart c.args.store.now c.args.near.now.keys ps) c.args.starts.now.keys
    c.loop-place.starts.keys) (take_all c.loop-place.place-index c.args.places.now c.loop-place-test.false)
    c.loop-place.invariant
