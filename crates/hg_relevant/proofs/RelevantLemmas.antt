-- How far a search for relevant markers has come, and what it has found in the end.
use Rattle.std.proofs.Common.{◌≡◌, ℕ, ◌+◌, ◌<◌, ◌≤◌, ◌==◌, false, List, [], length, take, replicate, get_or, slice_get}
use Rattle.std.proofs.Common.{Some, Contains, ◌⊎◌, inl, inr, sym, ap, subst, ◌∙◌, refl, arith}
use Rattle.std.specs.List.{IsDistinct}
use Rattle.std.proofs.lemmas.Bool.{cases_lt}
use Rattle.std.proofs.lemmas.List.{length-replicate}
use Rattle.std.proofs.lemmas.Map.Steps.{length-le_from_distinct_below}
use Rattle.std.proofs.lemmas.Map.Views.{Contains-from_any}
use Rattle.std.proofs.lemmas.Option.{slice_get_within, same_Some}
use Rattle.hg_changeset.specs.declared.node.Node.{Node}
use Rattle.hg_changeset.proofs.ListLemmas.{Contains-none, Contains-from_place, Contains-taken, place_from_Contains}
use Rattle.hg_changeset.proofs.ListLemmas.{slice_get_some, slice_get-append}
use Rattle.hg_marker.specs.Fields.{Fields}
use Rattle.hg_obsstore.specs.Markers.{IsAt, ArePlaces}
use Rattle.hg_obsstore.specs.Places.{ListsAll}
use Rattle.hg_relevant.specs.declared.search.Search.{Search}
use Rattle.hg_relevant.specs.Relevant.{IsRelevant, Touches}
use Rattle.hg_relevant.specs.Relevant.IsRelevant.{direct, further}
use Rattle.hg_relevant.specs.Search.{IsMarked, IsFound, IsExpanded, IsSearched, Expands, ExpandsPredecessor}
use Rattle.hg_relevant.proofs.SearchLemmas.{no_marks, same_place}

before_or_at : (j i : ℕ) → j < i + 1 → (j < i) ⊎ (j ≡ i)
before_or_at j i l = elim (cases_lt j i) [ inl lt ↦ inl lt | inr ge ↦ inr (omega (arith, ge, l)) ]

distinct_none : (xs : List ℕ) → xs ≡ [] → IsDistinct ◌==◌ xs
unfolding IsDistinct
distinct_none xs e = subst (IsDistinct ◌==◌) (sym e) tt

module _ (ms : List Fields) (nodes : List Node) where
  abbrev pub IsFor : Fields → Type 0
  IsFor = IsRelevant (Contains ms) (Contains nodes)

  pub searched-start : (s : Search) → s.found.items ≡ replicate (length ms) false
      → s.expanded.items ≡ replicate (length ms) false → s.queue.items ≡ [] → IsSearched ms nodes [] s 0
  searched-start s marks expanded queue =
      let unmarked : (k : ℕ) → IsFound s k → ⊥ = λ k h. no_marks (length ms) k (rw marks at h) in
      record {
        marks = ap length marks ∙ length-replicate (length ms) false;
        expanded_marks = ap length expanded ∙ length-replicate (length ms) false;
        sound = λ k h. absurd (unmarked k h);
        queued = record {
          exact = λ k. (
            λ h. absurd (Contains-none k (subst (λ (xs : List ℕ). Contains xs k) queue h)),
            λ h. absurd (unmarked k h),
          );
          distinct = distinct_none s.queue.items queue;
        };
        named = λ n k h. absurd (Contains-none n h);
        expanded = λ j k m h. absurd (no_marks (length ms) j (rw expanded at h));
        closed = λ j k l. absurd (omega (arith, l));
      }

  module _ (s t : Search) (i : ℕ) (done : List Node) (n : Node) (w : IsSearched ms nodes done s i)
      (v : Expands ms n s t) (touched : (m : Fields) → Contains ms m → Touches n m → IsFor m)
      (long : i ≤ length s.queue.items) where
    sound-more : (k : ℕ) → IsFound t k → IsAt IsFor ms k
    sound-more k h = elim ((v.found k).0 h) [
      | inl old ↦ w.sound k old
      | inr new ↦ (new.0, new.1, touched new.0 (Contains-from_place ms k new.0 new.1) new.2)
    ]

    expanded-more : (j k : ℕ) (m : Fields) → IsExpanded t j → slice_get ms j ≡ Some m
        → IsAt (Touches m.predecessor) ms k → IsFound t k
    expanded-more j k m h at touches = (v.found k).1 (elim ((v.expanded j).0 h) [
      | inl old ↦ inl (w.expanded j k m old at touches)
      | inr is ↦ inr (subst (λ (x : Node). IsAt (Touches x) ms k)
          (ap (λ (x : Fields). x.predecessor) (same_Some m is.0 (sym at ∙ is.1)) ∙ is.2) touches)
    ])

    closed-more : (j k : ℕ) → j < i → slice_get t.queue.items j ≡ Some k → IsExpanded t k
    closed-more j k l at =
        let within : j < length s.queue.items = omega (arith, l, long) in
        let old = slice_get_some s.queue.items j within in
        let still : slice_get t.queue.items j ≡ Some old.0 = ap (λ (ks : List ℕ). slice_get ks j) v.kept.1
        ∙ slice_get-append s.queue.items v.kept.0 j old.0 old.1 in
        let same : old.0 ≡ k = same_Some old.0 k (sym still ∙ at) in
        (v.expanded k).1 (inl (w.closed j k l (old.1 ∙ ap Some same)))

    pub goes_on : IsSearched ms nodes done t i
    goes_on = record {
      marks = v.marks ∙ w.marks;
      expanded_marks = v.expanded_marks ∙ w.expanded_marks;
      sound = sound-more;
      queued = v.queued w.queued;
      named = λ x k h touches. (v.found k).1 (inl (w.named x k h touches));
      expanded = expanded-more;
      closed = closed-more;
    }

  -- one of the nodes more
  pub searched-node : (s t : Search) (i : ℕ) (n : Node) → i < length nodes
      → get_or nodes i n ≡ n → IsSearched ms nodes (take i nodes) s 0 → Expands ms n s t
      → IsSearched ms nodes (take (i + 1) nodes) t 0
  searched-node s t i n l is w v =
      let e = goes_on s t 0 (take i nodes) n w v (λ m held touches. direct (i, l, is) held touches) (omega arith) in
      record {
        marks = e.marks;
        expanded_marks = e.expanded_marks;
        sound = e.sound;
        queued = e.queued;
        named = λ x k h touches. elim ((Contains-taken nodes i n x l is).0 h) [
          | inl old ↦ e.named x k old touches
          | inr same ↦ (v.found k).1 (inr (subst (λ (y : Node). IsAt (Touches y) ms k) (sym same) touches))
        ];
        expanded = e.expanded;
        closed = e.closed;
      }

  -- one marker of the queue more
  module _ (i place : ℕ) where
    close : (t : Search) → IsSearched ms nodes nodes t i → slice_get t.queue.items i ≡ Some place → IsExpanded t place
        → IsSearched ms nodes nodes t (i + 1)
    close t w at expanded = record {
      marks = w.marks;
      expanded_marks = w.expanded_marks;
      sound = w.sound;
      queued = w.queued;
      named = w.named;
      expanded = w.expanded;
      closed = λ j k l at'. elim (before_or_at j i l) [
        | inl lt ↦ w.closed j k lt at'
        | inr e ↦ subst (IsExpanded t) (same_Some place k (sym at ∙ (ap (slice_get t.queue.items) (sym e) ∙ at')))
            expanded
      ];
    }

    pub searched-next : (s t : Search) → slice_get s.queue.items i ≡ Some place → IsSearched ms nodes nodes s i
        → ExpandsPredecessor ms place s t → IsSearched ms nodes nodes t (i + 1)
    searched-next s t at w (inl same) = close t (subst (λ (u : Search). IsSearched ms nodes nodes u i) (sym same.1) w)
        (ap (λ (u : Search). slice_get u.queue.items i) same.1 ∙ at)
        (subst (λ (u : Search). IsExpanded u place) (sym same.1) same.0)
    searched-next s t at w (inr new) =
        let m = new.0 in
        let v = new.2 in
        let relevant = w.sound place ((w.queued.exact place).0 (Contains-from_place s.queue.items i place at)) in
        let is_for : IsFor m = subst IsFor (same_Some relevant.0 m (sym relevant.1 ∙ new.1)) relevant.2 in
        let lt = slice_get_within s.queue.items i place at in
        close t (goes_on s t i nodes m.predecessor w v (λ x held touches. further is_for held touches)
        (omega (arith, lt)))
        (ap (λ (ks : List ℕ). slice_get ks i) v.kept.1 ∙ slice_get-append s.queue.items v.kept.0 i place at)
        ((v.expanded place).1 (inr (m, new.1, refl)))

  -- each marker is queued once at most, so the search ends
  pub searched-within : (done : List Node) (s : Search) (i : ℕ) → IsSearched ms nodes done s i
      → length s.queue.items ≤ length ms
  searched-within done s i w = length-le_from_distinct_below s.queue.items (length ms) w.queued.distinct
      (λ q e. let at = w.sound q ((w.queued.exact q).0 (Contains-from_any same_place q s.queue.items e)) in
      slice_get_within ms q at.0 at.1)

  pub queued-within : (done : List Node) (s : Search) (i place : ℕ) → IsSearched ms nodes done s i
      → slice_get s.queue.items i ≡ Some place → place < length ms
  queued-within done s i place w at = let found =
      w.sound place ((w.queued.exact place).0 (Contains-from_place s.queue.items i place at)) in
      slice_get_within ms place found.0 found.1

  held : (m : Fields) → IsFor m → Contains ms m
  held m (direct one h touches) = h
  held m (further r h touches) = h

  module _ (s : Search) (i : ℕ) (w : IsSearched ms nodes nodes s i) (ended : length s.queue.items ≤ i) where
    complete : (m : Fields) → IsFor m → (k : ℕ) → slice_get ms k ≡ Some m → IsFound s k
    complete m (direct {n = n} one h touches) k at = w.named n k one (m, at, touches)
    complete m (further {before = b} r h touches) k at =
        let place = place_from_Contains ms b (held b r) in
        let queued = place_from_Contains s.queue.items place.0
        ((w.queued.exact place.0).1 (complete b r place.0 place.1)) in
        let lt = slice_get_within s.queue.items queued.0 place.0 queued.1 in
        w.expanded place.0 k b (w.closed queued.0 place.0 (omega (arith, ended, lt)) queued.1) place.1 (m, at, touches)

    pub searched-end : (places : List ℕ) → ListsAll (IsMarked s.found.items) places → ArePlaces IsFor ms places
    searched-end places all = record {
      ascending = all.ascending;
      exact = λ k. (λ h. w.sound k ((all.exact k).0 h), λ h. (all.exact k).1 (complete h.0 h.2 k h.1));
    }
