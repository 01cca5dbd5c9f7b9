-- What is shared is shared with its ancestors, and how it is told place by place.
use Rattle.std.proofs.Common.{◌≡◌, ◌<◌, ◌≤◌, ◌+◌, ◌↔◌, ◌⊎◌, ℕ, true, true≢false, Some, inl}
use Rattle.std.proofs.Common.{inr, length, refl, sym, ap, subst, ◌∙◌, arith}
use Rattle.std.specs.BTreeMap.{BTreeMap, get, is_at, Updates}
use Rattle.std.specs.Ordering.{is_eq}
use Rattle.std.specs.declared.cmp.Ordering.{Ordering}
use Rattle.std.specs.declared.cmp.Ordering.TheVariants.{Less, Equal, Greater}
use Rattle.std.proofs.lemmas.Bool.{cases_Bool, cases_lt, cond-true, cond-false}
use Rattle.std.proofs.lemmas.Option.{same_Some}
use Rattle.hg_changeset.specs.declared.node.Node.{Node}
use Rattle.hg_changeset.specs.Node.{node_cmp}
use Rattle.hg_changeset.proofs.NodeLemmas.{node_cmp_exact, same_not_less, greater_is_less}
use Rattle.hg_graph.specs.Places.{IsAt}
use Rattle.hg_graph.proofs.PlaceLemmas.{place_from_Holds, placed_within}
use Rattle.hg_history.specs.Content.{IsHeld, Leads}
use Rattle.hg_history.specs.Content.Leads.{itself}
use Rattle.hg_history.proofs.ContentLemmas.{node_in_content}
use Rattle.hg_phases.specs.declared.phase.Phase.{Phase}
use Rattle.hg_phases.specs.declared.phase.Phase.TheVariants.{Public, Draft, Secret}
use Rattle.hg_phases.specs.State.{Held, rank, changesets}
use Rattle.hg_replica.specs.State.{ReplicaState, IsValid}
use Rattle.hg_replica.specs.Content.{Content, content_of, IsValidContent}
use Rattle.hg_instab.proofs.QueryLemmas.{one_phase}
use Rattle.hg_view.specs.Share.{IsShared, IsSharedWith}
use Rattle.hg_view.proofs.LawLemmas.{leads-held, not_secret-above}

pub shared-above : (f : Content) (a n : Node) → IsValidContent f → IsShared f n → Leads f.0 a n → IsShared f a
shared-above f a n valid so up =
    (leads-held f.0 valid a n up so.0, not_secret-above f a n n valid so.0 itself so.1 up)

secret-or : (k : Phase) → (k ≡ Secret) ⊎ (¬ (k ≡ Secret))
secret-or Public = inr (λ e. let r : 0 ≡ 2 = ap rank e in omega (arith, r))
secret-or Draft = inr (λ e. let r : 1 ≡ 2 = ap rank e in omega (arith, r))
secret-or Secret = inl refl

-- of what is held it can be told whether it is shared
pub shared-or : (f : Content) (n : Node) → IsHeld f.0 n → IsShared f n ⊎ (¬ (IsShared f n))
shared-or f n held = elim (secret-or held.0.phase) [
  | inl secret ↦ inr (λ so. so.1 (held.0, held.1, secret))
  | inr other ↦ inl (
    held,
    λ secret. other
        (ap (λ (h : Held). h.phase) (same_Some held.0 secret.0 (sym held.1 ∙ secret.1)) ∙ secret.2),
  )
]

pub shared_with : (f : Content) (n : Node) (k : Phase) → IsSharedWith f n k → IsShared f n
shared_with f n k so = ((so.0.0, so.0.1), λ secret. so.1 (one_phase f n k Secret so.0 secret))

equal_from : (o : Ordering) → is_eq o ≡ true → o ≡ Equal
equal_from Less e = cc
equal_from Equal e = refl
equal_from Greater e = cc

is_itself : (m : Node) → is_at (node_cmp m) m ≡ true
is_itself m = by (node_cmp m m) refl
  where
    by : (o : Ordering) → node_cmp m m ≡ o → is_at (node_cmp m) m ≡ true
    by Less e = absurd (same_not_less m m refl e)
    by Equal e = ap is_eq e
    by Greater e = absurd (same_not_less m m refl (greater_is_less m m e))

-- what is shared of the first places stands in the map, with its phase
abbrev pub SharesFirst : ReplicaState → BTreeMap Node Phase → ℕ → Type 0
SharesFirst s found i =
    (n : Node) (k : Phase) → (get node_cmp found n ≡ Some k)
    ↔ ((p : ℕ) × (p < i) × IsAt (changesets s.history) n p × IsSharedWith (content_of s) n k)

module _ (s : ReplicaState) (found : BTreeMap Node Phase) (i : ℕ) (first : SharesFirst s found i) where
  -- at the next place nothing is shared
  pub shares_no_more : ((n : Node) → IsAt (changesets s.history) n i → ¬ (IsShared (content_of s) n))
      → SharesFirst s found (i + 1)
  shares_no_more none n k = (
    λ h. let x = (first n k).0 h in (x.0, omega (arith, x.1), x.2, x.3),
    λ h. elim (cases_lt h.0 i) [
      | inl early ↦ (first n k).1 (h.0, early, h.2, h.3)
      | inr late ↦
          let here : h.0 ≡ i = omega (arith, late, h.1) in
          absurd (none n (subst (IsAt (changesets s.history) n) here h.2) (shared_with (content_of s) n k h.3))
    ],
  )

  -- what is shared at the next place comes to the map
  pub shares_more : (new : BTreeMap Node Phase) (m : Node) (j : Phase) → IsAt (changesets s.history) m i
      → IsSharedWith (content_of s) m j → Updates node_cmp found new m (Some j) → SharesFirst s new (i + 1)
  shares_more new m j at so updates n k = elim (cases_Bool (is_at (node_cmp m) n)) [
    | inl same ↦
        let e = node_cmp_exact m n (equal_from (node_cmp m n) same) in
        let told : get node_cmp new n ≡ Some j =
        updates.0 n ∙ cond-true (is_at (node_cmp m) n) (Some j) (get node_cmp found n) same in (
          λ h.
              let is : j ≡ k = same_Some j k (sym told ∙ h) in (
                i,
                omega arith,
                subst (λ (x : Node). IsAt (changesets s.history) x i) e at,
                subst (IsSharedWith (content_of s) n) is (subst (λ (x : Node). IsSharedWith (content_of s) x j) e so),
              ),
          λ h.
              let its = subst (λ (x : Node). IsSharedWith (content_of s) x j) e so in
              told ∙ ap Some (one_phase (content_of s) n j k its.0 h.3.0),
        )
    | inr other ↦
        let told : get node_cmp new n ≡ get node_cmp found n =
        updates.0 n ∙ cond-false (is_at (node_cmp m) n) (Some j) (get node_cmp found n) other in (
          λ h. let x = (first n k).0 (sym told ∙ h) in (x.0, omega (arith, x.1), x.2, x.3),
          λ h. elim (cases_lt h.0 i) [
            | inl early ↦ told ∙ (first n k).1 (h.0, early, h.2, h.3)
            | inr late ↦
                let here : h.0 ≡ i = omega (arith, late, h.1) in
                let both : m ≡ n =
                same_Some m n (sym at ∙ subst (IsAt (changesets s.history) n) here h.2) in
                absurd (true≢false (sym (subst (λ (x : Node). is_at (node_cmp m) x ≡ true) both (is_itself m)) ∙ other))
          ],
        )
  ]

  -- all places
  pub shares_all : IsValid s → length (changesets s.history) ≤ i → (n : Node) (k : Phase)
      → (get node_cmp found n ≡ Some k) ↔ IsSharedWith (content_of s) n k
  shares_all valid all n k = (
    λ h. ((first n k).0 h).3,
    λ so.
        let held = node_in_content s.history valid.graph n (so.0.0, so.0.1) in
        let p = place_from_Holds (changesets s.history) n held in
        let within = placed_within (changesets s.history) n p.0 p.1 in
        (first n k).1 (p.0, omega (arith, within, all), p.1, so),
  )
