use Rattle.std.proofs.Common.{◌≡◌, get_or, take}
use Rattle.std.proofs.lemmas.List.{take_all}
use Rattle.std.proofs.lemmas.List.Elements.{Contains-get_or}
use Rattle.hg_changeset.proofs.ListLemmas.{Contains-none}
use Rattle.hg_phases.specs.State.{changesets}
use Rattle.hg_graph.proofs.QueueLemmas.{widens-none}
use Rattle.hg_view.specs.Common.{IsCommonAt}
use Rattle.hg_view.proofs.DescentLemmas.{goes-more, finds-more}
use Rattle.hg_view.proofs.heads.visit_each.Goals as goal

pub loop-place-init : goal.loop-place-init
loop-place-init c = (
  widens-none _ c.args.waiting.now (λ k h. Contains-none h.0 h.1),
  widens-none _ c.args.found.now.items (λ k h. Contains-none k h.0),
)

pub visit-requires : goal.visit-requires
visit-requires c = c.requires (get_or c.args.places.now c.loop-place.place-index 0)
    (Contains-get_or c.args.places.now c.loop-place.place-index 0 c.loop-place-test.true)

pub loop-place-preserved : goal.loop-place-preserved
loop-place-preserved c =
    let cs = changesets c.args.replica.now.history in
    let P = IsCommonAt c.args.replica.now c.args.other.now in
    let i = c.loop-place.place-index in (
      goes-more cs P c.args.places.now i 0 c.loop-place-test.true c.args.waiting.now c.loop-place.waiting
          c.visit.new.waiting c.loop-place.invariant.0 c.in_ok-visit.ensures.waits,
      finds-more cs P c.args.places.now i 0 c.loop-place-test.true c.args.found.now.items c.loop-place.found.items
          c.visit.new.found.items c.loop-place.invariant.1 c.in_ok-visit.ensures.finds,
    )

pub returns-clause-waits : goal.returns-clause-waits
returns-clause-waits c =
    let all : take c.loop-place.place-index c.args.places.now ≡ c.args.places.now =
    take_all c.loop-place.place-index c.args.places.now c.loop-place-test.false in
    rw all at c.loop-place.invariant.0

pub returns-clause-finds : goal.returns-clause-finds
returns-clause-finds c =
    let all : take c.loop-place.place-index c.args.places.now ≡ c.args.places.now =
    take_all c.loop-place.place-index c.args.places.now c.loop-place-test.false in
    rw all at c.loop-place.invariant.1
