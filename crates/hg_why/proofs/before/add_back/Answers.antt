use Rattle.std.proofs.Common.{◌+◌, ◌≡◌, ℕ, List, take, get_or, slice_get, Some, sym, subst, ap, ◌∙◌}
use Rattle.std.specs.Option.{option_copied}
use Rattle.std.proofs.lemmas.List.{get_or_default, take_all}
use Rattle.std.proofs.lemmas.List.Elements.{Contains-get_or}
use Rattle.std.proofs.lemmas.Option.{none-some}
use Rattle.hg_instab.specs.Walk.{Adds, IsOfOneAt}
use Rattle.hg_instab.proofs.WalkLemmas.{adds-then, adds-same, of-more}
use Rattle.hg_why.specs.Before.{IsBack, LeadsBackTo}
use Rattle.hg_why.proofs.BeforeLemmas.{back-all}
use Rattle.hg_why.proofs.before.add_back.Goals as goal
use Rattle.hg_why.proofs.before.add_back.Goals.{in-Some+in_ok-step_back-in-Some, in-None}

pub loop-place-preserved : goal.loop-place-preserved
loop-place-preserved c =
    let ms = c.args.store.now in
    let Of = LeadsBackTo c.args.steps in
    let places = c.with_successor-place-items.result.now in
    let i = c.loop-place.place-index in
    let k = get_or places i 0 in
    elim c.match-get.branch [
      | in-Some+in_ok-step_back-in-Some w ↦
          let m = w.in-Some.marker.now in
          let at : slice_get ms k ≡ Some m = sym c.get.ensures ∙ ap option_copied w.in-Some.is in
          rw w.found-is (adds-then (IsOfOneAt Of ms (take i places)) (Of m) (IsOfOneAt Of ms (take (i + 1) places))
          c.args.found.now.keys c.loop-place.found.keys _ (of-more Of ms places i k m c.loop-place-test.true
          (get_or_default places i k 0 c.loop-place-test.true) at) c.loop-place.invariant
          w.in_ok-step_back-in-Some.ensures)
      | in-None w ↦
          let there = (c.with_successor-place-items.ensures.exact k).0
          (Contains-get_or places i 0 c.loop-place-test.true) in
          absurd (none-some there.0 (sym (ap option_copied w.in-None.is) ∙ c.get.ensures ∙ there.1))
    ]

pub returns : goal.returns
returns c =
    let ms = c.args.store.now in
    let Of = LeadsBackTo c.args.steps in
    let places = c.with_successor-place-items.result.now in
    let all = take_all c.loop-place.place-index places c.loop-place-test.false in
    adds-same (IsOfOneAt Of ms places) (IsBack c.args.steps ms c.args.node) c.args.found.now.keys
    c.loop-place.found.keys (λ n. back-all c.args.steps ms places c.args.node n c.with_successor-place-items.ensures)
    (subst (λ (ps : List ℕ). Adds (IsOfOneAt Of ms ps) c.args.found.now.keys c.loop-place.found.keys) all
    c.loop-place.invariant)
