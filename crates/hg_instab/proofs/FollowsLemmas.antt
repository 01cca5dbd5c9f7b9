-- What a change of a state is, in the words of contents.
use Rattle.std.proofs.Common.{◌≡◌, ◌<◌, ◌≤◌, ◌⊎◌, inl, inr, Some, ◌++◌, length, slice_get, Contains}
use Rattle.std.proofs.Common.{sym, ap, subst, ◌∙◌, arith}
use Rattle.std.proofs.lemmas.Bool.{cases_order}
use Rattle.std.proofs.lemmas.List.Elements.{Contains-append_left, Contains-append_cases}
use Rattle.std.proofs.lemmas.Option.{same_Some, slice_get_within}
use Rattle.hg_changeset.specs.declared.node.Node.{Node}
use Rattle.hg_changeset.specs.Changeset.{node_of}
use Rattle.hg_changeset.proofs.ListLemmas.{Contains-map, Contains-from_place, place_from_Contains, slice_get_some}
use Rattle.hg_changeset.proofs.ListLemmas.{slice_get-append}
use Rattle.hg_graph.specs.Graph.{nodes}
use Rattle.hg_phases.specs.State.{Held, rank, changesets}
use Rattle.hg_phases.proofs.ContentLemmas.{held_in_content}
use Rattle.hg_marker.specs.Fields.{Fields}
use Rattle.hg_history.specs.ContentLaws.{below-both}
use Rattle.hg_history.proofs.ContentLemmas.{content-changeset}
use Rattle.hg_replica.specs.State.{ReplicaState, IsValid, Below}
use Rattle.hg_replica.specs.Change.{ChangeValue, TellsChange}
use Rattle.hg_replica.specs.Content.{content_of}
use Rattle.hg_replica.proofs.ContentLemmas.{content-below}
use Rattle.hg_replica.proofs.MarkerLemmas.{holds-from, in_from_holds}
use Rattle.hg_instab.specs.Changed.{IsMoved, IsFresh, Follows}

module _ (s t : ReplicaState) (change : ChangeValue) (v : IsValid s) (w : IsValid t) (up : Below s t)
    (tells : TellsChange s change t) where
  -- what t holds s held, the same changeset, or it was added
  held-before : (n : Node) (g : Held) → (content_of t).0 n ≡ Some g
      → ((h : Held) × ((content_of s).0 n ≡ Some h) × (h.changeset ≡ g.changeset)) ⊎ Contains change.added n
  held-before n g e =
      let at = held_in_content t.history n g e in
      let among : Contains (changesets s.history ++ tells.history.new) g.changeset =
      subst (λ xs. Contains xs g.changeset) tells.history.order
      (Contains-map (λ (x : Held). x.changeset) t.history.held g at.0) in
      elim (Contains-append_cases (changesets s.history) tells.history.new g.changeset among) [
        | inl old ↦ inl (content-changeset s.history v.graph n g.changeset old at.1)
        | inr new ↦ inr (subst (λ ns. Contains ns n) (sym tells.history.added)
            (subst (Contains (nodes tells.history.new)) at.1 (Contains-map node_of tells.history.new g.changeset new)))
      ]

  -- what wasn't lowered has no lower phase
  no-lower : (n : Node) (h g : Held) → ¬ (Contains change.lowered n) → (content_of s).0 n ≡ Some h
      → (content_of t).0 n ≡ Some g → h.changeset ≡ g.changeset → rank h.phase ≤ rank g.phase
  no-lower n h g not at_s at_t same =
      let before = held_in_content s.history n h at_s in
      let after = held_in_content t.history n g at_t in
      let went : rank g.phase < rank h.phase → ⊥ =
      λ less. not ((tells.history.lowered.each n).1 (h, g, before.0, after.0, sym same, before.1, less)) in
      elim (cases_order (rank h.phase) (rank g.phase)) [
        | inl e ↦ omega (arith, e)
        | inr apart ↦ elim apart [ inl l ↦ omega (arith, l) | inr l ↦ absurd (went l) ]
      ]

  as-before : (n : Node) → ¬ (IsMoved change n) → (content_of t).0 n ≡ (content_of s).0 n
  as-before n not = below-both ((content_of t).0 n) ((content_of s).0 n)
      (λ g e. elim (held-before n g e) [
        | inl h ↦ (h.0, h.1, h.2, no-lower n h.0 g (λ low. not (inr low)) h.1 e h.2)
        | inr added ↦ absurd (not (inl added))
      ])
      ((content-below s t w up).0 n)

  fresh-or_old : (m : Fields) → Contains t.markers m → Contains s.markers m ⊎ IsFresh t.markers change m
  fresh-or_old m at =
      let k = place_from_Contains t.markers m at in
      let within : k.0 < length t.markers = slice_get_within t.markers k.0 m k.1 in
      let new : length s.markers ≤ k.0 → IsFresh t.markers change m =
      λ le. (k.0, (tells.markers.places.exact k.0).1 (le, within), k.1) in
      let old : k.0 < length s.markers → Contains s.markers m =
      λ l.
      let x = slice_get_some s.markers k.0 l in
      let there : slice_get t.markers k.0 ≡ Some x.0 =
      ap (λ ms. slice_get ms k.0) tells.markers.first.1
      ∙ slice_get-append s.markers tells.markers.first.0 k.0 x.0 x.1 in
      subst (Contains s.markers) (same_Some x.0 m (sym there ∙ k.1)) (Contains-from_place s.markers k.0 x.0 x.1) in
      elim (cases_order k.0 (length s.markers)) [
        | inl e ↦ inr (new (omega (arith, e)))
        | inr apart ↦ elim apart [ inl l ↦ inl (old l) | inr l ↦ inr (new (omega (arith, l))) ]
      ]

  -- the state's change is one of its content
  pub follows : Follows (content_of s) (content_of t) change t.markers
  follows = record {
    same = as-before;
    held = λ n held. elim (held-before n held.0 held.1) [ inl h ↦ inl (h.0, h.1) | inr added ↦ inr added ];
    above = (content-below s t w up).0;
    markers = λ m. (
      λ h. elim (fresh-or_old m (in_from_holds t.markers m h)) [
        | inl old ↦ inl (holds-from s.markers m old)
        | inr fresh ↦ inr fresh
      ],
      λ h. holds-from t.markers m (elim h [
        | inl old ↦ subst (λ ms. Contains ms m) (sym tells.markers.first.1)
            (Contains-append_left s.markers tells.markers.first.0 m (in_from_holds s.markers m old))
        | inr fresh ↦ Contains-from_place t.markers fresh.0 m fresh.2
      ]),
    );
  }
