use Rattle.std.proofs.Common.{ℕ, ◌+◌, ◌≡◌, get_or, take, Contains, List, subst}
use Rattle.std.proofs.lemmas.List.{get_or_default, take_all}
use Rattle.std.proofs.lemmas.List.Elements.{Contains-get_or}
use Rattle.hg_relevant.specs.Search.{Finds}
use Rattle.hg_changeset.proofs.ListLemmas.{Contains-taken}
use Rattle.hg_relevant.proofs.SearchLemmas.{finds-none, finds-then}
use Rattle.hg_relevant.proofs.search.Search.find_all.Goals as goal

pub loop-place-init : goal.loop-place-init
loop-place-init c = finds-none c.args.self.now

pub find-requires : goal.find-requires
find-requires c = rw c.loop-place.invariant.marks
    (c.requires _ (Contains-get_or c.args.places.now c.loop-place.place-index 0 c.loop-place-test.true))

pub loop-place-preserved : goal.loop-place-preserved
loop-place-preserved c =
    let places = c.args.places.now in
    let i = c.loop-place.place-index in
    let p = get_or places i 0 in
    finds-then (Contains (take i places)) (λ k. p ≡ k) (Contains (take (i + 1) places)) c.args.self.now
    c.loop-place.self c.find.new.self
    (λ k. Contains-taken places i p k c.loop-place-test.true (get_or_default places i p 0 c.loop-place-test.true))
    c.loop-place.invariant c.in_ok-find.ensures

pub returns : goal.returns
returns c = subst (λ (ps : List ℕ). Finds (Contains ps) c.args.self.now c.loop-place.self)
    (take_all c.loop-place.place-index c.args.places.now c.loop-place-test.false) c.loop-place.invariant
