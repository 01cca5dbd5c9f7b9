-- Lists of markers as sets.
use Rattle.std.proofs.Common.{◌≡◌, ◌≤◌, Bool, true, ◌||◌, List, length, Contains, ◌↔◌, ◌⊎◌, inl, inr, sym, ap, ◌∙◌}
use Rattle.std.proofs.lemmas.Map.Made.{length-le_from_is_member, IsDistinct-from_AllPairs}
use Rattle.std.proofs.lemmas.Map.Views.{list_any-from_Contains, Contains-from_any}
use Rattle.std.proofs.lemmas.Bool.{or_left, or_right, or_cases}
use Rattle.std.specs.Cmp.{both_ways}
use Rattle.hg_marker.specs.Fields.{Fields}
use Rattle.hg_marker.specs.Same.{fields_decides, fields_equivalence}
use Rattle.hg_obsstore.specs.Markers.{AreDifferent}
use Rattle.hg_obsstore.specs.Sets.{IsWithin, IsUnion}
use Rattle.hg_obsstore.specs.Growth.{holds}
use Rattle.hg_replica.specs.State.{AreWithin}

pub holds-from : (ms : List Fields) (m : Fields) → Contains ms m → holds ms m ≡ true
holds-from ms m at = list_any-from_Contains fields_equivalence m ms at

pub in_from_holds : (ms : List Fields) (m : Fields) → holds ms m ≡ true → Contains ms m
in_from_holds ms m h = Contains-from_any (λ x y. (fields_decides x y).0) m ms h

pub within-sets : (ms ns : List Fields) → AreWithin ms ns ↔ IsWithin (holds ms) (holds ns)
within-sets ms ns = (
  λ within m h. holds-from ns m (within m (in_from_holds ms m h)),
  λ within m at. in_from_holds ns m (within m (holds-from ms m at)),
)

-- different markers, all within a list, are no more than it has
pub within-length : (ms ns : List Fields) → AreDifferent ms → AreWithin ms ns → length ms ≤ length ns
within-length ms ns different within =
    length-le_from_is_member fields_equivalence ms ns (IsDistinct-from_AllPairs fields_decides ms different)
    ((within-sets ms ns).0 within)

-- the list has the markers of both, and no others
pub union-sets : (ms ns us : List Fields) → ((m : Fields) → Contains us m ↔ (Contains ms m ⊎ Contains ns m))
    ↔ IsUnion (holds ms) (holds ns) (holds us)
union-sets ms ns us = (
  λ h i m. both_ways (holds us m) (holds ms m || holds ns m)
      (λ e. elim ((h m).0 (in_from_holds us m e)) [
        | inl x ↦ or_left _ _ (holds-from ms m x)
        | inr x ↦ or_right (holds ms m) _ (holds-from ns m x)
      ])
      (λ e. elim (or_cases _ _ e) [
        | inl x ↦ holds-from us m ((h m).1 (inl (in_from_holds ms m x)))
        | inr x ↦ holds-from us m ((h m).1 (inr (in_from_holds ns m x)))
      ]) i,
  λ u m. let e : holds us m ≡ (holds ms m || holds ns m) = ap (λ (f : Fields → Bool). f m) u in (
    λ at. elim (or_cases (holds ms m) (holds ns m) (sym e ∙ holds-from us m at)) [
      | inl x ↦ inl (in_from_holds ms m x)
      | inr x ↦ inr (in_from_holds ns m x)
    ],
    λ h. in_from_holds us m (e ∙ elim h [
      | inl x ↦ or_left (holds ms m) (holds ns m) (holds-from ms m x)
      | inr x ↦ or_right (holds ms m) (holds ns m) (holds-from ns m x)
    ]),
  ),
)

-- the same markers are one set
pub same-sets : (ms ns : List Fields) → AreWithin ms ns → AreWithin ns ms → holds ms ≡ holds ns
same-sets ms ns up down i m =
    both_ways (holds ms m) (holds ns m) ((within-sets ms ns).0 up m) ((within-sets ns ms).0 down m) i
