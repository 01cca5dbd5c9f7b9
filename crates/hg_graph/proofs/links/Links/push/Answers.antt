use Rattle.std.proofs.Common.{◌≡◌, ◌≤◌, ◌<◌, ◌+◌, ℕ, Vec, Global, ◌∷◌, [], ◌++◌, length, arith, sym, ap, subst, refl}
use Rattle.std.proofs.Common.{◌∙◌, vec_len}
use Rattle.std.proofs.lemmas.List.{map-append}
use Rattle.std.specs.Vec.{vec_capacity}
use Rattle.smallvec.specs.SmallVec.{SmallVec}
use Rattle.hg_graph.specs.declared.graph.ParentPlaces.{ParentPlaces}
use Rattle.hg_graph.specs.Links.{lists_of, put_last, AreChildren, IsLinkable}
use Rattle.hg_graph.proofs.LinkLemmas.{AreChildren-push, both, both_vectors}
use Rattle.hg_graph.proofs.links.Links.push.Goals as goal

-- there was room for the push
room : (p : ParentPlaces) (place : ℕ) (old new : Vec (SmallVec ℕ) Global)
    → lists_of new.items ≡ both p (put_last place) (lists_of old.items) → vec_capacity new ≡ vec_capacity old
    → vec_len old + 1 ≤ vec_capacity old
    → vec_capacity new ≤ vec_len new → ⊥
room p place old new lists capacity reserved full =
    let long = both_vectors p (put_last place) (lists_of old.items) old.items new.items refl lists in
    omega (arith, long, capacity, reserved, full, old.ok.0, new.ok.0)

pub invariant_of-self-in_err-push-2 : goal.invariant_of-self-in_err-push-2
invariant_of-self-in_err-push-2 c =
    absurd (room c.args.parents c.len-place.result c.reserve-2.new.self c.add_child.new.children
    c.in_ok-add_child.ensures.ok c.add_child.ensures.capacity c.in_ok-reserve-2.ensures.ok c.in_err-push-2.ensures.full)

pub returns-in_err-push-2-clause-unchanged : goal.returns-in_err-push-2-clause-unchanged
returns-in_err-push-2-clause-unchanged c =
    absurd (room c.args.parents c.len-place.result c.reserve-2.new.self c.add_child.new.children
    c.in_ok-add_child.ensures.ok c.add_child.ensures.capacity c.in_ok-reserve-2.ensures.ok c.in_err-push-2.ensures.full)

-- the places are within what a vector may hold
pub pack-requires : goal.pack-requires
pack-requires c k is =
    let ps = c.self.inside.parents.items in
    let link : IsLinkable (length ps) c.args.parents = subst (λ qs. IsLinkable (length qs) c.args.parents)
    (sym c.self.view_is) c.requires in
    let l : k < length ps = link.before k is in
    let place_is : c.len-place.result ≡ length ps = omega (arith, c.len-place.ensures, c.self.inside.parents.ok.0) in
    omega (arith, l, place_is)

pub invariant_of-self-2 : goal.invariant_of-self-2
invariant_of-self-2 c =
    let p = c.args.parents in
    let ps = c.self.inside.parents.items in
    let old = lists_of c.self.inside.children.items in
    let place_is : c.len-place.result ≡ length ps = omega (arith, c.len-place.ensures, c.self.inside.parents.ok.0) in
    let link : IsLinkable (length ps) p = subst (λ qs. IsLinkable (length qs) p) (sym c.self.view_is) c.requires in
    let parents_are : c.push.new.self.items ≡ ps ++ p ∷ [] =
    c.in_ok-push.ensures.items ∙ (λ i. c.in_ok-reserve.ensures.items i ++ c.pack.ensures i ∷ []) in
    let put : lists_of c.add_child.new.children.items ≡ both p (put_last (length ps)) old =
    c.in_ok-add_child.ensures.ok ∙ ap (λ vs. both p (put_last c.len-place.result) (lists_of vs))
    c.in_ok-reserve-2.ensures.items ∙ ap (λ n. both p (put_last n) old) place_is in
    let lists_are : lists_of c.push-2.new.self.items ≡ both p (put_last (length ps)) old ++ [] ∷ [] =
    ap lists_of c.in_ok-push-2.ensures.items ∙ map-append (λ v. v.items) c.add_child.new.children.items
    (c.new.result ∷ []) ∙ (λ i. put i ++ c.new.ensures.items i ∷ []) in
    subst (λ qs. AreChildren qs (lists_of c.push-2.new.self.items)) (sym parents_are)
    (subst (AreChildren (ps ++ p ∷ [])) (sym lists_are) (AreChildren-push ps p old c.self.invariant link))
