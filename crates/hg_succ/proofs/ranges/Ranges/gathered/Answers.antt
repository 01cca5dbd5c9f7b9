use Rattle.std.proofs.Common.{◌≡◌, ◌<◌, List, [], length, get_or, sym, ap, subst, ◌∙◌, true≢false, map}
use Rattle.std.specs.List.{flat_map}
use Rattle.std.specs.Cmp.{unsigned_Decides}
use Rattle.hg_marker.specs.Fields.{Fields}
use Rattle.hg_succ.specs.Numbered.{successors_at}
use Rattle.hg_succ.specs.Plan.{gather_all, no_range, range_of, seen_at}
use Rattle.hg_succ.proofs.SetLemmas.{empty_list}
use Rattle.hg_succ.specs.Factors.{IsOnlySuccessor}
use Rattle.std.proofs.lemmas.List.Elements.{Contains-get_or}
use Rattle.hg_succ.proofs.RangeLemmas.{node_there, places_of, seen_some, seen_only, some_numbers}
use Rattle.hg_succ.proofs.ranges.Ranges.gathered.Goals as goal

pub returns-then-is_empty-clause-seen : goal.returns-then-is_empty-clause-seen
returns-then-is_empty-clause-seen c off n at =
    let places = c.with_predecessor-places.result.now in
    let same = node_there c.args.nodes.now.keys c.as_slice.result.now c.args.number n c.as_slice.ensures.keys at in
    let are = places_of c.args.replica.now c.store-store.result.now _ n places c.store-store.ensures same
    c.with_predecessor-places.ensures in
    let none : places ≡ [] = empty_list places
    ((unsigned_Decides (length places) 0).0 (sym c.is_empty.ensures ∙ c.if-is_empty.true)) in (
      places,
      are,
      ap (seen_at c.args.rank c.args.self.now.ranges.items c.args.nodes.now.keys c.args.replica.now.markers)
          (sym none),
    )

pub returns-clause-seen : goal.returns-clause-seen
returns-clause-seen c off n at =
    let places = c.with_predecessor-places.result.now in
    let same = node_there c.args.nodes.now.keys c.as_slice.result.now c.args.number n c.as_slice.ensures.keys at in
    let are = places_of c.args.replica.now c.store-store.result.now _ n places c.store-store.ensures same
    c.with_predecessor-places.ensures in
    let ms : c.markers-markers.result.now ≡ c.args.replica.now.markers =
    c.markers-markers.ensures.markers ∙ c.store-store.ensures in (
      places,
      are,
      c.gather_all.ensures
          ∙ ap (λ (ks : List Fields). gather_all no_range
          (map (range_of c.args.self.now.ranges.items c.args.nodes.now.keys)
          (flat_map (successors_at ks) places))) ms
          ∙ seen_some c.args.rank c.args.self.now.ranges.items c.args.nodes.now.keys c.args.replica.now.markers places
          (λ e. true≢false (sym ((unsigned_Decides (length places) 0).1 e) ∙ sym c.is_empty.ensures
          ∙ c.if-is_empty.false)),
    )

pub returns-then-not-is_empty-clause-seen : goal.returns-then-not-is_empty-clause-seen
returns-then-not-is_empty-clause-seen c off n at =
    let s = c.args.replica.now in
    let nodes = c.args.nodes.now.keys in
    let places = c.with_predecessor-places.result.now in
    let same = node_there nodes c.as_slice.result.now c.args.number n c.as_slice.ensures.keys at in
    let are = places_of s c.store-store.result.now _ n places c.store-store.ensures same
    c.with_predecessor-places.ensures in
    let ms : c.markers-markers.result.now ≡ s.markers = c.markers-markers.ensures.markers ∙ c.store-store.ensures in
    let told = c.has_one_successor.ensures c.if-has_one_successor.true in
    let only : IsOnlySuccessor s.markers places told.0 =
    subst (λ (ks : List Fields). IsOnlySuccessor ks places told.0) ms told.1 in
    let some : 0 < length c.args.row.now = some_numbers c.is_empty-then-has_one_successor.result (length c.args.row.now)
    c.is_empty-then-has_one_successor.ensures c.if-not-is_empty.true in
    let j = get_or c.args.row.now 0 0 in
    let y = (c.requires.row n at).listed j (Contains-get_or c.args.row.now 0 0 some) in (
      places,
      are,
      c.passed_on.ensures
          ∙ seen_only s nodes n places are c.args.self.now.ranges.items c.args.rank told.0 only j y.0
          c.requires.once y.2 y.1,
    )
