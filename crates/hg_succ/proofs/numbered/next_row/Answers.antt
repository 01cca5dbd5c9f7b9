use Rattle.std.proofs.Common.{◌≡◌, ◌+◌, [], ℕ, List, take, get_or, Contains, ◌↔◌, ◌⊎◌, arith, sym, subst, ap, ◌∙◌}
use Rattle.std.proofs.lemmas.List.{take_all, get_or_default}
use Rattle.hg_changeset.specs.declared.node.Node.{Node}
use Rattle.hg_marker.specs.Fields.{Fields}
use Rattle.hg_obsstore.specs.Markers.{ArePlaces}
use Rattle.hg_succ.specs.Numbered.{Adds, successors_at}
use Rattle.hg_succ.proofs.NumberLemmas.{IsAtOneOf, adds_none, adds_join, one_place_more, row_from_adds}
use Rattle.hg_succ.proofs.numbered.next_row.Goals as goal

pub loop-place-init : goal.loop-place-init
loop-place-init c =
    subst (λ (row : List ℕ). Adds (IsAtOneOf c.args.replica.now.markers []) c.args.nodes.now.keys c.args.nodes.now.keys
    [] row) (sym c.new-row.ensures.items)
    (adds_none (IsAtOneOf c.args.replica.now.markers []) c.args.nodes.now.keys [] (λ y h. omega (arith, h.1.1)))

pub loop-place-preserved : goal.loop-place-preserved
loop-place-preserved c =
    let markers = c.args.replica.now.markers in
    let places = c.with_predecessor-place-items.result.now in
    let i = c.loop-place.place-index in
    let place = get_or places i 0 in
    let ns : c.successors_at.result.now ≡ successors_at markers place =
    c.successors_at.ensures ∙ ap (λ (ms : List Fields). successors_at ms place)
    (c.markers-markers.ensures.markers ∙ c.store-store.ensures) in
    adds_join (IsAtOneOf markers (take i places)) (Contains c.successors_at.result.now)
    (IsAtOneOf markers (take (i + 1) places))
    c.args.nodes.now.keys c.loop-place.nodes.keys c.number_each.new.nodes.keys [] c.loop-place.row.items
    c.number_each.new.row.items
    c.loop-place.invariant c.in_ok-number_each.ensures
    (λ y. subst (λ (ns : List Node). IsAtOneOf markers (take (i + 1) places) y
    ↔ (IsAtOneOf markers (take i places) y ⊎ Contains ns y)) (sym ns)
    (one_place_more markers places i place c.loop-place-test.true
    (get_or_default places i 0 place c.loop-place-test.true) y))

pub returns : goal.returns
returns c =
    let s = c.args.replica.now in
    let places = c.with_predecessor-place-items.result.now in
    let are : ArePlaces (λ m. m.predecessor ≡ c.args.node) s.markers places =
    subst (λ (ms : List Fields). ArePlaces (λ m. m.predecessor ≡ c.args.node) ms places) c.store-store.ensures
    c.with_predecessor-place-items.ensures in
    let all = subst (λ (ps : List ℕ). Adds (IsAtOneOf s.markers ps) c.args.nodes.now.keys c.loop-place.nodes.keys []
    c.loop-place.row.items) (take_all c.loop-place.place-index places c.loop-place-test.false)
    c.loop-place.invariant in
    record {
      grows = c.loop-place.invariant.grows;
      row = row_from_adds s places c.args.node are c.args.nodes.now.keys c.loop-place.nodes.keys
          c.loop-place.row.items all;
    }
