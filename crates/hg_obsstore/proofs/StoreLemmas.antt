-- A store's markers and indexes after one marker more.
use Rattle.std.proofs.Common.{◌≡◌, ◌<◌, ◌+◌, ◌++◌, ◌∷◌, [], ◌∙◌, ⊎_elim, arith, sym, ap, subst, ℕ, List, true}
use Rattle.std.proofs.Common.{Some, refl, length, length-append, slice_get, get_or, Contains, take, not}
use Rattle.std.proofs.Common.{◌↔◌, ◌⊎◌, inl, inr}
use Rattle.std.proofs.lemmas.List.{get_or_append_left, get_or_push}
use Rattle.std.proofs.lemmas.List.Elements.{Contains-push}
use Rattle.std.proofs.lemmas.Option.{slice_get_within, slice_get_read, get_or_from_slice_get, same_Some}
use Rattle.std.specs.List.{list_any}
use Rattle.std.proofs.lemmas.Map.Views.{Contains-from_any, list_any-from_Contains}
use Rattle.std.proofs.Math.Seq.{take-append_seam}
use Rattle.hg_changeset.specs.declared.node.Node.{Node}
use Rattle.hg_changeset.proofs.ListLemmas.{Contains-from_place, Contains-one, place_from_Contains}
use Rattle.hg_marker.specs.Same.{same_fields, fields_decides, fields_equivalence}
use Rattle.hg_marker.specs.Fields.{Fields}
use Rattle.hg_marker.specs.Parents.{recorded_parents}
use Rattle.hg_obsstore.specs.declared.index.Index.{Index}
use Rattle.hg_obsstore.specs.declared.index.Role.{Role}
use Rattle.hg_obsstore.specs.declared.index.Role.TheVariants.{Predecessor, Successor, Parent}
use Rattle.hg_obsstore.specs.Places.{ListsAll}
use Rattle.hg_obsstore.specs.Markers.{IsAt, ArePlaces, IsNamed, predecessors, successors}
use Rattle.hg_obsstore.specs.Entries.{IsPlaced}
use Rattle.hg_obsstore.specs.Index.{places_of, AreBelow, AddsPlace, SamePlaces}
use Rattle.hg_obsstore.specs.Indexes.{IsIndexBy, AreIndexed, HaveBelow, AddMarker}
use Rattle.hg_obsstore.proofs.PlaceLemmas.{one_more, no_more, all_listed}
use Rattle.hg_obsstore.proofs.IndexLemmas.{among_or_not}

module _ {A : Type 0} (xs : List A) (m : A) where
  long : length (xs ++ m ∷ []) ≡ length xs + 1
  long = length-append xs (m ∷ [])

  pub stays : (i : ℕ) (x : A) → slice_get xs i ≡ Some x → slice_get (xs ++ m ∷ []) i ≡ Some x
  stays i x h =
      let lt = slice_get_within xs i x h in
      slice_get_read (xs ++ m ∷ []) (length (xs ++ m ∷ [])) i x refl (omega (arith, lt, long))
      (sym (get_or_from_slice_get xs i x x h) ∙ sym (get_or_append_left xs (m ∷ []) x i lt))

  pub was : (i : ℕ) (x : A) → slice_get (xs ++ m ∷ []) i ≡ Some x → i < length xs → slice_get xs i ≡ Some x
  was i x h lt =
      slice_get_read xs (length xs) i x refl lt
      (sym (get_or_from_slice_get (xs ++ m ∷ []) i x x h) ∙ get_or_append_left xs (m ∷ []) x i lt)

  pub last : slice_get (xs ++ m ∷ []) (length xs) ≡ Some m
  last = slice_get_read (xs ++ m ∷ []) (length (xs ++ m ∷ [])) (length xs) m refl (omega (arith, long))
      (sym (get_or_push xs m m (length xs) refl))

module _ (P : Fields → Type 0) (ms : List Fields) (m : Fields) (ps : List ℕ) (all : ArePlaces P ms ps) where
  before : ListsAll (λ i. (i < length ms) × IsAt P (ms ++ m ∷ []) i) ps
  before = record {
    ascending = all.ascending;
    exact = λ i. (
      (λ h. let at = (all.exact i).0 h in (slice_get_within ms i at.0 at.1, (at.0, stays ms m i at.0 at.1, at.2))),
      (λ h. (all.exact i).1 (h.1.0, was ms m i h.1.0 h.1.1 h.0, h.1.2)),
    );
  }

  inside : (i : ℕ) → IsAt P (ms ++ m ∷ []) i → i < length ms + 1
  inside i h = let lt = slice_get_within (ms ++ m ∷ []) i h.0 h.1 in omega (arith, lt, length-append ms (m ∷ []))

  pub places_push_yes : P m → ArePlaces P (ms ++ m ∷ []) (ps ++ length ms ∷ [])
  places_push_yes p =
      all_listed (IsAt P (ms ++ m ∷ [])) (ps ++ length ms ∷ []) (length ms + 1)
      (one_more (IsAt P (ms ++ m ∷ [])) ps (length ms) before (m, last ms m, p)) inside

  pub places_push_no : (P m → ⊥) → ArePlaces P (ms ++ m ∷ []) ps
  places_push_no not =
      all_listed (IsAt P (ms ++ m ∷ [])) ps (length ms + 1)
      (no_more (IsAt P (ms ++ m ∷ [])) ps (length ms) before
      (λ h. not (subst P (same_Some _ _ (sym h.1 ∙ last ms m)) h.2))) inside

module _ (nodes_of : Fields → List Node) (ms : List Fields) where
  pub indexed_push : (m : Fields) (old new : Node → List ℕ) → IsIndexBy nodes_of ms old
      → AddsPlace (nodes_of m) (length ms) old new → IsIndexBy nodes_of (ms ++ m ∷ []) new
  indexed_push m old new all adds n = ⊎_elim
      (λ (yes : Contains (nodes_of m) n). subst (ArePlaces (λ x. Contains (nodes_of x) n) (ms ++ m ∷ []))
      (sym (adds.here n yes)) (places_push_yes (λ x. Contains (nodes_of x) n) ms m (old n) (all n) yes))
      (λ (no : ¬ Contains (nodes_of m) n). subst (ArePlaces (λ x. Contains (nodes_of x) n) (ms ++ m ∷ []))
      (sym (adds.others n no)) (places_push_no (λ x. Contains (nodes_of x) n) ms m (old n) (all n) no))
      (among_or_not (nodes_of m) n)

  pub indexed_below : (old : Node → List ℕ) → IsIndexBy nodes_of ms old → AreBelow old (length ms)
  indexed_below old all n i h = let at = ((all n).exact i).0 h in slice_get_within ms i at.0 at.1

none_listed : (P : Fields → Type 0) (ps : List ℕ) → ps ≡ [] → ArePlaces P [] ps
none_listed P ps e = subst (ArePlaces P []) (sym e) (record {
  ascending = λ j h. absurd (omega (arith, h));
  exact = λ i. (
    (λ h. absurd (omega (arith, h.1))),
    (λ h. let lt = slice_get_within [] i h.0 h.1 in absurd (omega (arith, lt))),
  );
})

pub indexed_none : (index : Index) → ((role : Role) (n : Node) → places_of role index n ≡ []) → AreIndexed [] index
indexed_none index none = record {
  predecessor = λ n. none_listed (λ m. Contains (predecessors m) n) _ (none Predecessor n);
  successor = λ n. none_listed (λ m. Contains (successors m) n) _ (none Successor n);
  child = λ n. none_listed (λ m. Contains (recorded_parents m) n) _ (none Parent n);
}

pub all_below : (ms : List Fields) (index : Index) → AreIndexed ms index → HaveBelow index (length ms)
all_below ms index all = record {
  predecessor = indexed_below predecessors ms (places_of Predecessor index) all.predecessor;
  successor = indexed_below successors ms (places_of Successor index) all.successor;
  child = indexed_below recorded_parents ms (places_of Parent index) all.child;
}

pub all_push : (ms : List Fields) (m : Fields) (old new : Index) → AreIndexed ms old → AddMarker m (length ms) old new
    → AreIndexed (ms ++ m ∷ []) new
all_push ms m old new all adds = record {
  predecessor =
      indexed_push predecessors ms m (places_of Predecessor old) (places_of Predecessor new) all.predecessor
      adds.predecessor;
  successor = indexed_push successors ms m (places_of Successor old) (places_of Successor new) all.successor
      adds.successor;
  child = indexed_push recorded_parents ms m (places_of Parent old) (places_of Parent new) all.child adds.child;
}

pub all_same : (ms : List Fields) (old new : Index) → SamePlaces old new → AreIndexed ms old → AreIndexed ms new
all_same ms old new same all = record {
  predecessor = subst (IsIndexBy predecessors ms) (sym (same Predecessor)) all.predecessor;
  successor = subst (IsIndexBy successors ms) (sym (same Successor)) all.successor;
  child = subst (IsIndexBy recorded_parents ms) (sym (same Parent)) all.child;
}

-- an equal marker is the marker itself
pub held : (ms : List Fields) (m : Fields) → list_any (same_fields m) ms ≡ true → Contains ms m
held ms m h = Contains-from_any (λ x y e. (fields_decides x y).0 e) m ms h

pub held_back : (ms : List Fields) (m : Fields) → Contains ms m → list_any (same_fields m) ms ≡ true
held_back ms m h = list_any-from_Contains fields_equivalence m ms h

pub read_last : (ms xs : List Fields) (m x : Fields) (place : ℕ) → xs ≡ ms ++ m ∷ [] → place ≡ length ms
    → x ≡ get_or xs place x → x ≡ m
read_last ms xs m x place e at read =
    read ∙ ap (λ (ys : List Fields). get_or ys place x) e ∙ get_or_push ms m x place (sym at)

pub cut_back : (ms xs ys : List Fields) (m : Fields) (place : ℕ) → xs ≡ ms ++ m ∷ [] → place ≡ length ms
    → ys ≡ take place xs → ys ≡ ms
cut_back ms xs ys m place e at cut = cut ∙ (λ i. take (at i) (e i)) ∙ take-append_seam ms (m ∷ [])

pub alone_back : {A : Type 0} (x y : A) → x ≡ y → Contains (x ∷ []) y
alone_back x y e = subst (Contains (x ∷ [])) e (Contains-push [] x)

pub places_alike : (P Q : Fields → Type 0) (ms : List Fields) (ps : List ℕ) → ((m : Fields) → P m → Q m)
    → ((m : Fields) → Q m → P m) → ArePlaces P ms ps → ArePlaces Q ms ps
places_alike P Q ms ps f g all = record {
  ascending = all.ascending;
  exact = λ i.
      ((λ h. let at = (all.exact i).0 h in (at.0, at.1, f at.0 at.2)), (λ h. (all.exact i).1 (h.0, h.1, g h.0 h.2)));
}

-- where the index is exact, the nodes that have a place are those that a marker names
pub placed_named : (ms : List Fields) (index : Index) → AreIndexed ms index → (n : Node)
    → IsPlaced index.by_node n ↔ IsNamed ms n
placed_named ms index all n = (λ h. there h.0 h.1 h.2, back)
  where
    there : (role : Role) (i : ℕ) → Contains (places_of role index n) i → IsNamed ms n
    there Predecessor i h = let at = ((all.predecessor n).exact i).0 h in
        (at.0, Contains-from_place ms i at.0 at.1, inl (Contains-one at.0.predecessor n at.2))
    there Successor i h = let at = ((all.successor n).exact i).0 h in
        (at.0, Contains-from_place ms i at.0 at.1, inr (inl at.2))
    there Parent i h = let at = ((all.child n).exact i).0 h in
        (at.0, Contains-from_place ms i at.0 at.1, inr (inr at.2))

    back : IsNamed ms n → IsPlaced index.by_node n
    back h =
        let m = h.0 in
        let at = place_from_Contains ms m h.1 in
        ⊎_elim
        (λ (e : m.predecessor ≡ n). (
          Predecessor,
          at.0,
          ((all.predecessor n).exact at.0).1
              (m, at.1, alone_back m.predecessor n e),
        ))
        (λ (other : Contains m.successors n ⊎ Contains (recorded_parents m) n). ⊎_elim
        (λ (yes : Contains m.successors n). (Successor, at.0, ((all.successor n).exact at.0).1 (m, at.1, yes)))
        (λ (yes : Contains (recorded_parents m) n). (Parent, at.0, ((all.child n).exact at.0).1 (m, at.1, yes)))
        other) h.2
