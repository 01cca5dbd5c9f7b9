-- Where each node that is led to has one marker at most, there is one pick, and so one successors set at most.
use Rattle.std.proofs.Common.{◌≡◌, ◌≤◌, ◌*◌, ◌⊎◌, ◌∷◌, ◌++◌, [], ℕ, List, length, Contains, map, sum, max, arith, inl}
use Rattle.std.proofs.Common.{inr, subst, sym, ap, ◌∙◌, refl, zero, suc}
use Rattle.std.specs.List.{AllZip}
use Rattle.std.specs.Cmp.Lexicographic.{slice_cmp, lists_total}
use Rattle.std.specs.declared.cmp.Ordering.TheVariants.{Less}
use Rattle.hg_changeset.specs.declared.node.Node.{Node}
use Rattle.hg_changeset.specs.Node.{node_cmp}
use Rattle.hg_changeset.proofs.NodeLemmas.{node_cmp_total}
use Rattle.hg_changeset.proofs.ListLemmas.{Contains-first, Contains-later}
use Rattle.hg_marker.specs.Fields.{Fields}
use Rattle.hg_replica.specs.Content.{Content}
use Rattle.hg_replica.specs.Evolution.{IsMarker, Precedes}
use Rattle.hg_replica.specs.Evolution.Precedes.{step, further}
use Rattle.hg_succ.specs.Successors.{IsAny, IsRewrittenTo, IsPick, IsPickOfEach, IsSuccessorsSet, IsFamily, HasCount}
use Rattle.hg_succ.specs.Successors.{HasCounts, ways, AreMarkersOf, IsOverfull, HasSeveral}
use Rattle.hg_succ.specs.Successors.IsPick.{on_cycle, itself, unknown, rewritten}
use Rattle.hg_succ.specs.Successors.IsPickOfEach.{no_places, next_place}
use Rattle.hg_succ.specs.Successors.IsOverfull.{passed_on, too_many}
use Rattle.hg_succ.proofs.FamilyLemmas.{pick_on_cycle, pick_free_held, pick_free_unknown}
use Rattle.hg_succ.proofs.SortedLemmas.{same_members, below_rest, not_below_itself}

module _ (f : Content) where
  -- one marker at most rewrote it
  abbrev pub IsSingle : Node → Type 0
  IsSingle n = (a b : Fields) → IsMarker f a → IsMarker f b → a.predecessor ≡ n → b.predecessor ≡ n → a ≡ b

  -- the same of the node, and of all that it leads to
  abbrev pub AllSingle : Node → Type 0
  AllSingle n = (x : Node) → (n ≡ x) ⊎ Precedes f IsAny n x → IsSingle x

  -- one marker more at the front of a way
  lead : (n y x : Node) → IsRewrittenTo f n y → Precedes f IsAny y x → Precedes f IsAny n x
  lead n y x to (step {m = m} held kind at is) =
      further held tt at (subst (Precedes f IsAny n) (sym is) (step to.1 tt to.3 to.2))
  lead n y x to (further {m = m} held kind at r) = further held tt at (lead n y m.predecessor to r)

  single-next : (n y : Node) → AllSingle n → IsRewrittenTo f n y → AllSingle y
  single-next n y all to x (inl e) = all x (inr (subst (Precedes f IsAny n) e (step to.1 tt to.3 to.2)))
  single-next n y all to x (inr more) = all x (inr (lead n y x to more))

  mutual
    same-pick : (n : Node) (p q : List Node) → AllSingle n → IsPick f n p → IsPick f n q → p ≡ q
    same-pick n p q all (on_cycle on) other = sym (pick_on_cycle f n q on other)
    same-pick n p q all (itself free held) other = sym (pick_free_held f n q free held other)
    same-pick n p q all (unknown free held) other = sym (pick_free_unknown f n q free held other)
    same-pick n p q all (rewritten m held at off picks) (on_cycle on) = absurd (off on)
    same-pick n p q all (rewritten m held at off picks) (itself free h) = absurd (free (m, held, at))
    same-pick n p q all (rewritten m held at off picks) (unknown free h) = absurd (free (m, held, at))
    same-pick n p q all (rewritten m held at off picks) (rewritten k in' from away others) =
        same-picks m.successors p q (λ y h. single-next n y all (m, held, at, h)) picks
        (subst (λ x. IsPickOfEach f x.successors q) (all n (inl refl) k m in' held from at) others)

    same-picks : (ns p q : List Node) → ((y : Node) → Contains ns y → AllSingle y) → IsPickOfEach f ns p
        → IsPickOfEach f ns q → p ≡ q
    same-picks [] p q all no_places no_places = refl
    same-picks (n ∷ ns) p q all (next_place {pick = a} {picks = as'} first rest)
        (next_place {pick = b} {picks = bs} second more) =
        ap (λ l. l ++ as') (same-pick n a b (all n (0, omega arith, refl)) first second)
        ∙ ap (λ l. b ++ l) (same-picks ns as' bs (λ y h. all y (Contains-later n ns y h)) rest more)

  same-set : (n : Node) (a b : List Node) → AllSingle n → IsSuccessorsSet f n a → IsSuccessorsSet f n b → a ≡ b
  same-set n a b all s t =
      let same : s.pick.0 ≡ t.pick.0 = same-pick n s.pick.0 t.pick.0 all s.pick.1 t.pick.1 in
      same_members node_cmp_total a b s.ascending t.ascending
      (λ x h. t.pick.3 x (subst (λ l. Contains l x) same (s.pick.2 x h)))
      (λ x h. s.pick.3 x (subst (λ l. Contains l x) (sym same) (t.pick.2 x h)))

  -- so it has one at most
  one-set : (count : ℕ) (x : Node) → AllSingle x → HasCount f x count → count ≤ 1
  one-set count x all h = by h.0 h.1 h.2
    where
      by : (family : List (List Node)) → IsFamily f x family → length family ≡ count → count ≤ 1
      by [] is e = omega (arith, e)
      by (a ∷ []) is e = omega (arith, e)
      by (a ∷ b ∷ rest) is e =
          let same : a ≡ b = same-set x a b all ((is.exact a).0 (Contains-first a (b ∷ rest)))
          ((is.exact b).0 (Contains-later a (b ∷ rest) b (Contains-first b rest))) in
          absurd (not_below_itself (lists_total node_cmp_total) b
          (subst (λ l. slice_cmp node_cmp l b ≡ Less) same
          (below_rest (lists_total node_cmp_total) a (b ∷ rest) b is.ascending (Contains-first b rest))))

  -- and a marker of such nodes allows one way
  factor-one : (count rest : ℕ) → count ≤ 1 → rest ≡ 1 → max count 1 * rest ≡ 1
  factor-one zero rest le e = omega (arith, e)
  factor-one (suc zero) rest le e = omega (arith, e)
  factor-one (suc (suc count)) rest le e = absurd (omega (arith, le))

  one-way : (ns : List Node) (counts : List ℕ) → ((y : Node) → Contains ns y → AllSingle y)
      → AllZip (HasCount f) ns counts → ways counts ≡ 1
  one-way [] [] all zip = refl
  one-way [] (count ∷ counts) all zip = absurd zip
  one-way (n ∷ ns) [] all zip = absurd zip
  one-way (n ∷ ns) (count ∷ counts) all zip =
      factor-one count (ways counts) (one-set count n (all n (Contains-first n ns)) zip.0)
      (one-way ns counts (λ y h. all y (Contains-later n ns y h)) zip.1)

  few : (n : Node) (ms : List Fields) (counts : List (List ℕ)) → AllSingle n → AreMarkersOf f n ms
      → AllZip (HasCounts f) ms counts → sum (map ways counts) ≤ 1
  few n [] [] all are zip = omega arith
  few n [] (cs ∷ counts) all are zip = absurd zip
  few n (m ∷ ms) [] all are zip = absurd zip
  few n (m ∷ []) (cs ∷ []) all are zip =
      let of-m = (are.exact m).0 (Contains-first m []) in
      let one : ways cs ≡ 1 = one-way m.successors cs (λ y h. single-next n y all (m, of-m.0, of-m.1, h)) zip.0 in
      omega (arith, one)
  few n (m ∷ []) (cs ∷ ds ∷ counts) all are zip = absurd zip.1
  few n (m ∷ k ∷ ms) (cs ∷ counts) all are zip =
      let of-m = (are.exact m).0 (Contains-first m (k ∷ ms)) in
      let of-k = (are.exact k).0 (Contains-later m (k ∷ ms) k (Contains-first k ms)) in
      absurd (are.different 0 1 m (omega arith) (omega arith) (all n (inl refl) m k of-m.0 of-k.0 of-m.1 of-k.1))

  not-over : (n : Node) → AllSingle n → IsOverfull f n → ⊥
  not-over n all (passed_on {x = x} off to over) = not-over x (single-next n x all to) over
  not-over n all (too_many ms counts off are zip many) = absurd (omega (arith, many, few n ms counts all are zip))

  -- so it isn't what divergence begins at
  pub single_not_several : (n : Node) → AllSingle n → HasSeveral f n → ⊥
  single_not_several n all (inl over) = not-over n all over
  single_not_several n all (inr two) = two.4 (same-set n two.0 two.1 all two.2 two.3)
