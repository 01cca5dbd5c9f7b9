use Rattle.std.proofs.Common.{◌∙◌, ℕ, get_or, Contains, List, subst}
use Rattle.std.proofs.lemmas.List.{get_or_default, take_all}
use Rattle.std.proofs.lemmas.List.Elements.{Contains-get_or}
use Rattle.hg_obsstore.specs.Markers.{IsAt}
use Rattle.hg_relevant.specs.Relevant.{IsPrune}
use Rattle.hg_relevant.specs.Search.{Finds}
use Rattle.hg_relevant.proofs.SearchLemmas.{finds-none_so, finds-more}
use Rattle.hg_relevant.proofs.search.Search.find_prunes.Goals as goal

pub loop-place-init : goal.loop-place-init
loop-place-init c = finds-none_so (IsAt IsPrune c.args.markers.now) c.args.self.now

pub find_prune-requires-clause-marks : goal.find_prune-requires-clause-marks
find_prune-requires-clause-marks c = c.loop-place.invariant.marks ∙ c.requires.marks

pub find_prune-requires-clause-within : goal.find_prune-requires-clause-within
find_prune-requires-clause-within c =
    c.requires.within _ (Contains-get_or c.args.places.now c.loop-place.place-index 0 c.loop-place-test.true)

pub loop-place-preserved : goal.loop-place-preserved
loop-place-preserved c =
    let places = c.args.places.now in
    let i = c.loop-place.place-index in
    let p = get_or places i 0 in
    finds-more places i p (IsAt IsPrune c.args.markers.now) c.args.self.now c.loop-place.self c.find_prune.new.self
    c.loop-place-test.true (get_or_default places i p 0 c.loop-place-test.true) c.loop-place.invariant
    c.in_ok-find_prune.ensures

pub returns : goal.returns
returns c = subst (λ (ps : List ℕ). Finds (λ k. Contains ps k × IsAt IsPrune c.args.markers.now k) c.args.self.now
    c.loop-place.self) (take_all c.loop-place.place-index c.args.places.now c.loop-place-test.false)
    c.loop-place.invariant
