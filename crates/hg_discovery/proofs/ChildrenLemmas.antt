-- The children of each changeset, one changeset more at a time.
use Rattle.std.proofs.Common.{◌≡◌, ◌↔◌, ℕ, ◌≤◌, ◌+◌, inl, inr, List, [], ◌∷◌, ◌++◌, length, length-append}
use Rattle.std.proofs.Common.{slice_get, Some, Contains, sym, ap, subst, ◌∙◌, arith}
use Rattle.std.proofs.lemmas.Option.{slice_get_within}
use Rattle.hg_changeset.specs.Contents.{Contents}
use Rattle.hg_changeset.proofs.ListLemmas.{slice_get-append, slice_get-push_cases, slice_get_some}
use Rattle.hg_graph.specs.declared.graph.ParentPlaces.{ParentPlaces}
use Rattle.hg_graph.specs.Places.{IsParentPlace}
use Rattle.hg_graph.proofs.GraphLemmas.{place_from_Contains}
use Rattle.hg_discovery.specs.declared.children.Stretch.{Stretch}
use Rattle.hg_discovery.specs.Under.{IsShapeOf}
use Rattle.hg_discovery.specs.Children.{AreChildren, Stands}
use Rattle.hg_discovery.proofs.WalkLemmas.{append_place, append_behind}

-- of the changesets before the place i
pub record AreChildrenTo (cs : List Contents) (i : ℕ) (places : List ℕ) (stretches : List Stretch) : Type 0 where
  pub len : length stretches ≡ i
  pub within : (k : ℕ) (s : Stretch) → slice_get stretches k ≡ Some s → s.to ≤ length places
  pub exact : (k : ℕ) (s : Stretch) (j : ℕ) → slice_get stretches k ≡ Some s
      → Stands places s.from s.to j ↔ IsParentPlace cs j k

module _ (cs : List Contents) where
  pub AreChildrenTo-push : (i : ℕ) (places : List ℕ) (stretches : List Stretch) (more : List ℕ) (one : Stretch)
      → AreChildrenTo cs i places stretches → ((j : ℕ) → Contains more j ↔ IsParentPlace cs j i)
      → one.from ≡ length places → one.to ≡ length (places ++ more)
      → AreChildrenTo cs (i + 1) (places ++ more) (stretches ++ one ∷ [])
  AreChildrenTo-push i places stretches more one f told from to = record {
    len = length-append stretches (one ∷ []) ∙ ap (λ n. n + 1) f.len;
    within = λ k s h. elim (slice_get-push_cases stretches one k s h) [
      | inl old ↦ let le = f.within k s old in omega (arith, le, length-append places more)
      | inr last ↦ subst (λ (x : Stretch). x.to ≤ length (places ++ more)) last.1 (omega (arith, to))
    ];
    exact = λ k s j h. elim (slice_get-push_cases stretches one k s h) [
      | inl old ↦ (
        λ t. (f.exact k s j old).0 (shorter s (f.within k s old) j t),
        λ p. let t = (f.exact k s j old).1 p in (t.0, t.1, t.2, slice_get-append places more t.0 j t.3),
      )
      | inr last ↦ subst (λ (x : Stretch). Stands (places ++ more) x.from x.to j ↔ IsParentPlace cs j k) last.1
          (subst (λ m. Stands (places ++ more) one.from one.to j ↔ IsParentPlace cs j m) (sym (last.0 ∙ f.len)) (
            λ t. (told j).0 (append_behind places more t.0 j (omega (arith, from, t.1)) t.3),
            λ p.
                let m = place_from_Contains more j ((told j).1 p) in
                let r = append_place places more m.0 j m.1 in
                (r.0, omega (arith, from, r.1), omega (arith, to, slice_get_within (places ++ more) r.0 j r.2), r.2),
          ))
    ];
  }
    where
      shorter : (s : Stretch) → s.to ≤ length places → (j : ℕ) → Stands (places ++ more) s.from s.to j
          → Stands places s.from s.to j
      shorter s le j t =
          let at = slice_get_some places t.0 (omega (arith, t.2, le)) in
          (t.0, t.1, t.2, at.1 ∙ sym (slice_get-append places more t.0 at.0 at.1) ∙ t.3)

  pub AreChildrenTo-end : (i : ℕ) (places : List ℕ) (stretches : List Stretch) → length cs ≡ i
      → AreChildrenTo cs i places stretches → (ps : List ParentPlaces) → IsShapeOf cs ps
      → AreChildren ps places stretches
  AreChildrenTo-end i places stretches all f ps shape = record {
    len = f.len ∙ sym all ∙ sym shape.len;
    within = f.within;
    exact = λ k s j h. (
      λ t. (shape.parents j k).1 ((f.exact k s j h).0 t),
      λ q. (f.exact k s j h).1 ((shape.parents j k).0 q),
    );
  }
