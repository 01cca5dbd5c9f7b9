-- What an answer leaves.
use Rattle.std.proofs.Common.{◌≡◌, ℕ, ◌<◌, inl, inr, Bool, List, length, arith}
use Rattle.std.proofs.lemmas.Option.{slice_get_within}
use Rattle.hg_graph.specs.declared.graph.ParentPlaces.{ParentPlaces}
use Rattle.hg_discovery.specs.declared.finding.Finding.{Finding}
use Rattle.hg_discovery.specs.Under.{IsParentAt, IsInOrder, below}
use Rattle.hg_discovery.specs.Search.{IsClosed}
use Rattle.hg_discovery.specs.Answers.{IsDecided}
use Rattle.hg_discovery.proofs.UnderLemmas.{not_both_uc, not_both_um, three, under_then, parent_under}

-- what an answer leaves is closed
pub decided_closed : (ps : List ParentPlaces) (k : ℕ) (said : Bool) (old new : List Finding) → length old ≡ length ps
    → IsInOrder ps → IsClosed ps old → IsDecided ps k said old new → IsClosed ps new
decided_closed ps place said old new len order closed d = record {
  common = λ j k q h. elim ((d.common j).0 h) [
    | inl o ↦ (d.common k).1 (inl (closed.common j k q o))
    | inr u ↦ elim (three old k (low j k q)) [
      | inl und ↦ (d.common k).1 (inr (u.0, und, under_then ps k j place (parent_under ps j k q) u.2))
      | inr e ↦ elim e [
        | inl c ↦ (d.common k).1 (inl c)
        | inr m ↦ absurd (not_both_um old j u.1 (closed.missing j k q m))
      ]
    ]
  ];
  missing = λ j k q h. elim ((d.missing k).0 h) [
    | inl o ↦ (d.missing j).1 (inl (closed.missing j k q o))
    | inr u ↦ elim (three old j (high j k q)) [
      | inl und ↦ (d.missing j).1 (inr (u.0, und, below u.2 q))
      | inr e ↦ elim e [
        | inl c ↦ absurd (not_both_uc old k u.1 (closed.common j k q c))
        | inr m ↦ (d.missing j).1 (inl m)
      ]
    ]
  ];
}
  where
    high : (j k : ℕ) → IsParentAt ps j k → j < length old
    high j k q = omega (arith, len, slice_get_within ps j q.0 q.1)

    low : (j k : ℕ) → IsParentAt ps j k → k < length old
    low j k q = omega (arith, high j k q, order j k q)
