use Rattle.std.proofs.Common.{◌≡◌, ◌<◌, ◌-◌, ℕ, ◌∷◌, [], ◌++◌, length, take, arith, sym, ap, subst, inl, inr, ◌∙◌}
use Rattle.std.proofs.lemmas.List.{length-map, length-append}
use Rattle.hg_graph.specs.Links.{lists_of, drop_last, changed_at, AreChildren}
use Rattle.hg_graph.proofs.GraphLemmas.{map-take}
use Rattle.hg_graph.proofs.LinkLemmas.{AreChildren-pop, both, last_linkable, within_option, length-changed_at}
use Rattle.hg_graph.proofs.links.Links.pop.Goals as goal

-- the children of what is left and of the last
module _ (c : goal.After-forget_last-arg-1) where
  ends : c.self.inside.parents.items ≡ c.pop.new.self.items ++ c.unpack-parents.result ∷ []
  ends = c.in-Some.ensures.items ∙ ap (λ p. c.pop.new.self.items ++ p ∷ []) (sym c.unpack-parents.ensures)

  linked : AreChildren (c.pop.new.self.items ++ c.unpack-parents.result ∷ []) (lists_of c.self.inside.children.items)
  linked = subst (λ ps. AreChildren ps (lists_of c.self.inside.children.items)) ends c.self.invariant

  long : length c.pop.new.self.items < length c.self.inside.children.items
  long = omega (
    arith,
    linked.len,
    length-append c.pop.new.self.items (c.unpack-parents.result ∷ []),
    length-map c.self.inside.children.items (λ v. v.items),
  )

  first : (k : ℕ) → k < length c.pop.new.self.items → k < length c.self.inside.children.items
  first k l = omega (arith, l, long)

pub forget_last-requires : goal.forget_last-requires
forget_last-requires c =
    within_option c.unpack-parents.result.first (length c.self.inside.children.items)
    (λ k e. first c k ((last_linkable c.pop.new.self.items c.unpack-parents.result _ (linked c)).before k (inl e)))

pub forget_last-requires-in-Some : goal.forget_last-requires-in-Some
forget_last-requires-in-Some c =
    let ps = c.pop.new.self.items in
    let p = c.unpack-parents.result in
    let vectors = c.self.inside.children.items in
    let left = c.forget_last.new.children.items in
    let linked : AreChildren (ps ++ p ∷ []) (lists_of vectors) = subst (λ ps. AreChildren ps (lists_of vectors))
    (c.in-Some.ensures.items ∙ ap (λ p. c.pop.new.self.items ++ p ∷ []) (sym c.unpack-parents.ensures))
    c.self.invariant in
    let same : length (lists_of left) ≡ length (lists_of vectors) = ap length c.forget_last.ensures.lists
    ∙ length-changed_at p.first drop_last (lists_of vectors) in
    within_option p.second (length left)
    (λ k e. let l = (last_linkable ps p (lists_of vectors) linked).before k (inr e) in
    omega (arith, l, same, linked.len, length-append ps (p ∷ []), length-map left (λ v. v.items)))

pub invariant_of-self : goal.invariant_of-self
invariant_of-self c =
    let ps = c.pop.new.self.items in
    let p = c.unpack-parents.result in
    let old = lists_of c.self.inside.children.items in
    let left = c.forget_last-in-Some.new.children in
    let linked : AreChildren (ps ++ p ∷ []) old = subst (λ ps. AreChildren ps old)
    (c.in-Some.ensures.items ∙ ap (λ p. c.pop.new.self.items ++ p ∷ []) (sym c.unpack-parents.ensures))
    c.self.invariant in
    let dropped : lists_of left.items ≡ both p drop_last old =
    c.forget_last-in-Some.ensures.lists ∙ ap (changed_at p.second drop_last) c.forget_last.ensures.lists in
    let short : c.len.result ≡ length old - 1 = omega (
      arith,
      c.len.ensures,
      c.pop.new.self.ok.0,
      linked.len,
      length-append ps (p ∷ []),
    ) in
    let lists_are : lists_of c.truncate.new.self.items ≡ take (length old - 1) (both p drop_last old) =
    ap lists_of c.truncate.ensures.items ∙ map-take (λ v. v.items) _ left.items ∙ (λ i. take (short i) (dropped i)) in
    subst (AreChildren ps) (sym lists_are) (AreChildren-pop ps p old linked)
