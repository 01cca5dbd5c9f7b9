-- How far two lists of changesets were compared, and what that says of all of them.
use Rattle.std.proofs.Common.{◌≡◌, ◌<◌, ◌++◌, ℕ, List, length, slice_get, Some, None}
use Rattle.std.proofs.Common.{◌↔◌, length-append, refl, sym, subst, ◌∙◌, arith}
use Rattle.std.proofs.lemmas.Option.{none-some, same_Some}
use Rattle.hg_changeset.specs.Contents.{Contents}
use Rattle.hg_changeset.specs.Changeset.{node_of}
use Rattle.hg_changeset.proofs.ListLemmas.{Contains-from_place, place_from_Contains, slice_get_some, slice_get-append}
use Rattle.hg_graph.specs.Places.{IsAt, IsOnlyAt}
use Rattle.hg_graph.proofs.PlaceLemmas.{IsAt-from, placed_within}
use Rattle.hg_view.specs.Common.{AreFree, IsFree}
use Rattle.hg_discovery.specs.declared.compared.Compared.{Compared}
use Rattle.hg_discovery.specs.Compared.{AreCompared, AreFreeFrom}

module _ (cs ds : List Contents) where
  pub free-back : AreFree cs ds → AreFree ds cs
  free-back free d in_ds c in_cs e = sym (free c in_cs d in_ds (sym e))

  pub free-from : AreFree cs ds → (from : ℕ) → AreFreeFrom cs from ds
  free-from free from j c le at = free c (Contains-from_place cs j c at)

-- ---- one changeset

module _ (c : Contents) (ds : List Contents) where
  -- where the id is held something stands
  pub none-held : (k : ℕ) → IsOnlyAt ds (node_of c) k → slice_get ds k ≡ None → ⊥
  none-held k only none =
      let d = slice_get_some ds k (placed_within ds (node_of c) k ((only k).1 refl)) in
      none-some d.0 (sym none ∙ d.1)

  -- what stands where the id is held is what it may collide with
  module _ (k : ℕ) (d : Contents) (only : IsOnlyAt ds (node_of c) k) (at : slice_get ds k ≡ Some d) where
    same_id : node_of c ≡ node_of d
    same_id = same_Some (node_of c) (node_of d) (sym ((only k).1 refl) ∙ IsAt-from ds k d (node_of d) at refl)

    pub held-free : (c ≡ d) ↔ IsFree c ds
    held-free = (
      λ same other in_ds e.
          let j = place_from_Contains ds other in_ds in
          let here : j.0 ≡ k = (only j.0).0 (subst (λ n. IsAt ds n j.0) (sym e)
          (IsAt-from ds j.0 other (node_of other) j.1 refl)) in
          same ∙ same_Some d other (sym at ∙ subst (λ i. slice_get ds i ≡ Some other) here j.1),
      λ free. free d (Contains-from_place ds k d at) same_id,
    )

-- ---- more of them

-- what stood at a place before more came stands there
stood : (cs more : List Contents) (j : ℕ) (c : Contents) → j < length cs → slice_get (cs ++ more) j ≡ Some c
    → slice_get cs j ≡ Some c
stood cs more j c lt at =
    let was = slice_get_some cs j lt in
    was.1 ∙ sym (slice_get-append cs more j was.0 was.1) ∙ at

-- what was compared stays so when more comes
pub compared-longer : (cs ds more others : List Contents) (x : Compared) → AreCompared cs ds x
    → AreCompared (cs ++ more) (ds ++ others) x
compared-longer cs ds more others x so_far = record {
  ours = omega (arith, so_far.ours, length-append cs more);
  theirs = omega (arith, so_far.theirs, length-append ds others);
  free = λ j k c d lt_j lt_k at_j at_k e. so_far.free j k c d lt_j lt_k
      (stood cs more j c (omega (arith, lt_j, so_far.ours)) at_j)
      (stood ds others k d (omega (arith, lt_k, so_far.theirs)) at_k) e;
}
