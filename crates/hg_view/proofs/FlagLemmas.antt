-- Flags of places: steps that recompute them and take some out, and heads after such steps.
use Rattle.std.proofs.Common.{◌≡◌, ℕ, ◌+◌, ◌<◌, ◌≤◌, true, false, Bool, List, length, take, set, get_or}
use Rattle.std.proofs.Common.{slice_get, ◌↔◌, ◌⊎◌, inl, inr, refl, sym}
use Rattle.std.proofs.Common.{subst, ◌∙◌, arith, true≢false}
use Rattle.std.proofs.lemmas.Bool.{cases_eq, cases_lt}
use Rattle.std.proofs.lemmas.List.{length-set}
use Rattle.std.proofs.lemmas.Option.{same_Some, slice_get_within}
use Rattle.hg_changeset.specs.declared.node.Node.{Node}
use Rattle.hg_changeset.specs.Contents.{Contents}
use Rattle.hg_changeset.proofs.ListLemmas.{slice_get-take}
use Rattle.hg_graph.specs.Places.{IsAt, IsParentPlace, IsPlaceOfOne}
use Rattle.hg_graph.proofs.GraphLemmas.{get-take}
use Rattle.hg_graph.proofs.MarkLemmas.{get-set_same, get-set_other}
use Rattle.hg_graph.proofs.WalkLemmas.{taken_one}
use Rattle.hg_view.specs.Flags.{IsUp, AreRecomputed, AreTakenOut, IsParentOfOne, AreUpdated}
use Rattle.hg_view.specs.HeadPlaces.{IsHeadAmong}

-- ---- recomputing

up_to_date-same : (Q : ℕ → Type 0) (old new : List Bool) (k : ℕ) → slice_get new k ≡ slice_get old k
    → (IsUp old k ↔ Q k) → (IsUp new k ↔ Q k)
up_to_date-same Q old new k e is = ((λ at. is.0 (sym e ∙ at)), (λ q. e ∙ is.1 q))

module _ (Q : ℕ → Type 0) where
  pub recompute-in : (flags : List Bool) (place : ℕ) → place < length flags → Q place → (new : List Bool)
      → new ≡ set flags place true → AreRecomputed (λ k. place ≡ k) Q flags new
  recompute-in flags place l q new is = subst (AreRecomputed (λ k. place ≡ k) Q flags) (sym is) (record {
    len = length-set flags place true;
    each = λ k. elim (cases_eq k place) [
      | inl e ↦ inl (
        sym e,
        subst (λ j. IsUp (set flags place true) j ↔ Q j) (sym e)
            ((λ at. q), (λ x. get-set_same flags place true l)),
      )
      | inr ne ↦ inr ((λ e. ne (sym e)), get-set_other flags place k true ne)
    ];
  })

  pub recompute-out : (flags : List Bool) (place : ℕ) → place < length flags → ¬ (Q place) → (new : List Bool)
      → new ≡ set flags place false → AreRecomputed (λ k. place ≡ k) Q flags new
  recompute-out flags place l none new is = subst (AreRecomputed (λ k. place ≡ k) Q flags) (sym is) (record {
    len = length-set flags place false;
    each = λ k. elim (cases_eq k place) [
      | inl e ↦ inl (
        sym e,
        subst (λ j. IsUp (set flags place false) j ↔ Q j) (sym e) (
          (λ at. absurd (true≢false (same_Some true false (sym at ∙ get-set_same flags place false l)))),
          (λ q. absurd (none q)),
        ),
      )
      | inr ne ↦ inr ((λ e. ne (sym e)), get-set_other flags place k false ne)
    ];
  })

  pub recomputed-none : (S : ℕ → Type 0) (flags : List Bool) → ((k : ℕ) → ¬ (S k)) → AreRecomputed S Q flags flags
  recomputed-none S flags none = record { len = refl; each = λ k. inr (none k, refl) }

  -- one recomputation after another
  pub recomputed-then : (R S T : ℕ → Type 0) (old mid new : List Bool) → AreRecomputed R Q old mid
      → AreRecomputed S Q mid new
      → ((k : ℕ) → T k ↔ (R k ⊎ S k)) → AreRecomputed T Q old new
  recomputed-then R S T old mid new first second both = record {
    len = second.len ∙ first.len;
    each = λ k. elim (second.each k) [
      | inl x ↦ inl ((both k).1 (inr x.0), x.1)
      | inr x ↦ elim (first.each k) [
        | inl y ↦ inl ((both k).1 (inl y.0), up_to_date-same Q mid new k x.1 y.1)
        | inr y ↦ inr ((λ t. elim ((both k).0 t) [ inl r ↦ y.0 r | inr s ↦ x.0 s ]), x.1 ∙ y.1)
      ]
    ];
  }

  -- the same places, in other words
  pub recomputed-alike : (S T : ℕ → Type 0) (old new : List Bool) → AreRecomputed S Q old new → ((k : ℕ) → T k ↔ S k)
      → AreRecomputed T Q old new
  recomputed-alike S T old new recomputed alike = record {
    len = recomputed.len;
    each = λ k. elim (recomputed.each k) [
      | inl x ↦ inl ((alike k).1 x.0, x.1)
      | inr x ↦ inr ((λ t. x.0 ((alike k).0 t)), x.1)
    ];
  }

  -- all places from one on: past the flags nothing is so
  pub recomputed-from : (first end : ℕ) (old new : List Bool) → ((k : ℕ) → Q k → k < length old)
      → AreRecomputed (λ k. (first ≤ k) × (k < end)) Q old new → length old ≤ end
      → AreRecomputed (λ k. first ≤ k) Q old new
  recomputed-from first end old new within recomputed le = record {
    len = recomputed.len;
    each = λ k. elim (recomputed.each k) [
      | inl x ↦ inl (x.0.0, x.1)
      | inr x ↦ elim (cases_lt k end) [
        | inl l ↦ inr ((λ from. x.0 (from, l)), x.1)
        | inr past ↦ elim (cases_lt k first) [
          | inl l ↦ inr ((λ from. omega (arith, from, l)), x.1)
          | inr from ↦ inl (
            from,
            (
              (λ at. let l = slice_get_within new k true at in absurd (omega (arith, l, recomputed.len, le, past))),
              (λ q. let l = within k q in absurd (omega (arith, l, le, past))),
            ),
          )
        ]
      ]
    ];
  }

-- ---- taking out

pub taken-none : (N : ℕ → Type 0) (flags : List Bool) → ((k : ℕ) → ¬ (N k)) → AreTakenOut N flags flags
taken-none N flags none = record { len = refl; each = λ k. ((λ at. (at, none k)), (λ h. h.0)) }

pub taken-then : (M N T : ℕ → Type 0) (old mid new : List Bool) → AreTakenOut M old mid → AreTakenOut N mid new
    → ((k : ℕ) → T k ↔ (M k ⊎ N k)) → AreTakenOut T old new
taken-then M N T old mid new first second both = record {
  len = second.len ∙ first.len;
  each = λ k. (
    λ at.
        let x = (second.each k).0 at in
        let y = (first.each k).0 x.0 in
        (y.0, λ t. elim ((both k).0 t) [ inl m ↦ y.1 m | inr n ↦ x.1 n ]),
    λ h. (second.each k).1
        ((first.each k).1 (h.0, λ m. h.1 ((both k).1 (inl m))), λ n. h.1 ((both k).1 (inr n))),
  );
}

pub taken-alike : (N T : ℕ → Type 0) (old new : List Bool) → AreTakenOut N old new → ((k : ℕ) → T k ↔ N k)
    → AreTakenOut T old new
taken-alike N T old new taken alike = record {
  len = taken.len;
  each = λ k. (
    λ at. let x = (taken.each k).0 at in (x.0, λ t. x.1 ((alike k).0 t)),
    λ h. (taken.each k).1 (h.0, λ n. h.1 ((alike k).1 n)),
  );
}

-- ---- parents

module _ (cs : List Contents) (Q : ℕ → Type 0) where
  pub parents-none : (S : ℕ → Type 0) → ((k : ℕ) → ¬ (S k)) → (k : ℕ) → ¬ (IsParentOfOne cs S Q k)
  parents-none S none k h = none h.0 h.1

  pub parents-alike : (S T : ℕ → Type 0) → ((j : ℕ) → Q j → T j ↔ S j)
      → (k : ℕ) → IsParentOfOne cs T Q k ↔ IsParentOfOne cs S Q k
  parents-alike S T alike k = (
    λ h. (h.0, (alike h.0 h.2).0 h.1, h.2, h.3),
    λ h. (h.0, (alike h.0 h.2).1 h.1, h.2, h.3),
  )

  pub parents-then : (R S T : ℕ → Type 0) → ((j : ℕ) → T j ↔ (R j ⊎ S j))
      → (k : ℕ) → IsParentOfOne cs T Q k ↔ (IsParentOfOne cs R Q k ⊎ IsParentOfOne cs S Q k)
  parents-then R S T both k = (
    λ h. elim ((both h.0).0 h.1) [
      | inl r ↦ inl (h.0, r, h.2, h.3)
      | inr s ↦ inr (h.0, s, h.2, h.3)
    ],
    λ h. elim h [
      | inl x ↦ (x.0, (both x.0).1 (inl x.1), x.2, x.3)
      | inr x ↦ (x.0, (both x.0).1 (inr x.1), x.2, x.3)
    ],
  )

  -- the parents of one
  pub parents-at : (place : ℕ) → Q place → (k : ℕ)
      → IsParentOfOne cs (λ j. place ≡ j) Q k ↔ IsParentPlace cs place k
  parents-at place q k = (
    λ h. subst (λ j. IsParentPlace cs j k) (sym h.1) h.3,
    λ parent. (place, refl, q, parent),
  )

-- ---- the places that loops have seen

-- one place more
pub from-one : (first place : ℕ) → first ≤ place → (k : ℕ)
    → ((first ≤ k) × (k < place + 1)) ↔ (((first ≤ k) × (k < place)) ⊎ (place ≡ k))
from-one first place le k = (
  λ h. elim (cases_lt k place) [ inl l ↦ inl (h.0, l) | inr past ↦ inr (omega (arith, h.1, past)) ],
  λ h. elim h [
    | inl x ↦ (x.0, omega (arith, x.1))
    | inr e ↦ (omega (arith, e, le), omega (arith, e))
  ],
)

-- one node more
pub nodes-one : (cs : List Contents) (ns : List Node) (i : ℕ) (d : Node) → i < length ns → (k : ℕ)
    → IsPlaceOfOne cs (take (i + 1) ns) k ↔ (IsPlaceOfOne cs (take i ns) k ⊎ IsAt cs (get_or ns i d) k)
nodes-one cs ns i d l k = (
  λ h. elim ((taken_one ns i d h.0 l).0 h.1) [
    | inl before ↦ inl (h.0, before, h.2)
    | inr same ↦ inr (subst (λ n. IsAt cs n k) (sym same) h.2)
  ],
  λ h. elim h [
    | inl x ↦ (x.0, (taken_one ns i d x.0 l).1 (inl x.1), x.2)
    | inr at ↦ (get_or ns i d, (taken_one ns i d (get_or ns i d) l).1 (inr refl), at)
  ],
)

-- ---- heads

-- places were recomputed of which P didn't hold and of which Q may hold, no others came or went, and P holds of all
-- parents of its places: then, with the parents of the new ones taken out, the heads are those of Q
module _ (cs : List Contents) (P Q S : ℕ → Type 0) (fresh : (k : ℕ) → S k → ¬ (P k))
    (same : (k : ℕ) → ¬ (S k) → Q k → P k) (kept : (k : ℕ) → P k → Q k)
    (closed : (j k : ℕ) → IsParentPlace cs j k → P j → P k) where
  pub heads-after : (n : ℕ) (before old new : List Bool) → ((k : ℕ) → n ≤ k → S k) → take n old ≡ before
      → ((k : ℕ) → IsUp before k ↔ IsHeadAmong cs P k) → AreUpdated cs S Q old new
      → (k : ℕ) → IsUp new k ↔ IsHeadAmong cs Q k
  heads-after n before old new come front are updated k = (found, there)
    where
      found : IsUp new k → IsHeadAmong cs Q k
      found up =
          let x = (updated.taken.each k).0 up in
          elim (updated.recomputed.each k) [
            | inl is ↦ (
              is.1.0 x.0,
              λ j parent q. elim (updated.recomputed.each j) [
                | inl it ↦ x.1 (j, it.0, q, parent)
                | inr it ↦ fresh k is.0 (closed j k parent (same j it.0 q))
              ],
            )
            | inr is ↦
                let head = (are k).0 (subst (λ fs. IsUp fs k) front
                (elim (cases_lt k n) [
                  | inl l ↦ slice_get-take old n k true l (sym is.1 ∙ x.0)
                  | inr past ↦ absurd (is.0 (come k past))
                ])) in (
                  kept k head.0,
                  λ j parent q. elim (updated.recomputed.each j) [
                    | inl it ↦ x.1 (j, it.0, q, parent)
                    | inr it ↦ head.1 j parent (same j it.0 q)
                  ],
                )
          ]

      there : IsHeadAmong cs Q k → IsUp new k
      there head = (updated.taken.each k).1 (
        elim (updated.recomputed.each k) [
          | inl is ↦ is.1.1 head.0
          | inr is ↦ is.1 ∙ (get-take old n k true (subst (λ fs. IsUp fs k) (sym front)
              ((are k).1 (same k is.0 head.0, λ j parent p. head.1 j parent (kept j p))))).1
        ],
        λ h. head.1 h.0 h.3 h.2,
      )
