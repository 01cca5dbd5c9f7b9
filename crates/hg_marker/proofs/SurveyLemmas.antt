-- What a walk over the pieces found so far, and what it finds at its end.
use Rattle.std.proofs.Common.{◌≡◌, ℕ, ◌+◌, ◌-◌, ◌^◌, ◌<◌, Bool, true, false, eqb, List, [], ◌∷◌, length}
use Rattle.std.proofs.Common.{map, min, Option}
use Rattle.std.proofs.Common.{Some, None, refl, sym, ap, ◌∙◌, arith}
use Rattle.std.specs.Prelude.{◌&&◌, ◌||◌}
use Rattle.std.proofs.Math.Bool.{and_assoc, or_assoc, or-false}
use Rattle.std.proofs.lemmas.Bool.{and_parts, eqb-true}
use Rattle.std.proofs.lemmas.List.{nil_from_length}
use Rattle.std.specs.List.{list_all, list_any}
use Rattle.hg_marker.specs.Metadata.{pieces, has_colon, entry}
use Rattle.hg_marker.specs.Parents.{is_parents_key}
use Rattle.hg_marker.specs.Survey.{IsSurvey}
use Rattle.hg_marker.specs.Written.{IsWritten, ascends, is_behind}
use Rattle.hg_marker.proofs.ReadLemmas.{weight, weight_entry}
use Rattle.hg_marker.proofs.AscentLemmas.{ascending_is_written, nothing_is_written, weighs_little}

abbrev names : List (List ℕ) → Bool
names ps = list_any (λ p. is_parents_key (entry p).0) ps

-- what was found of the pieces before the rest, and what those of the rest say
pub record IsSurveyed (bytes rest : List ℕ) (last : Option (List ℕ)) (len : ℕ) (ascending named : Bool) : Type 0 where
  pub colons : list_all has_colon (pieces rest) ≡ list_all has_colon (pieces bytes)
  pub ascent : (ascending && ascends last (map entry (pieces rest))) ≡ ascends None (map entry (pieces bytes))
  pub parents : (named || names (pieces rest)) ≡ names (pieces bytes)
  pub weighs : min (len + weight (map entry (pieces rest))) (2 ^ 64 - 1)
      ≡ min (weight (map entry (pieces bytes))) (2 ^ 64 - 1)

module _ (bytes rest p after : List ℕ) (last : Option (List ℕ)) (len : ℕ) (ascending named : Bool)
    (first : pieces rest ≡ p ∷ pieces after) (h : IsSurveyed bytes rest last len ascending named) where
  -- one with this key
  pub one_surveyed : has_colon p ≡ true → (key : List ℕ) → key ≡ (entry p).0 → (more : ℕ)
      → more ≡ min (len + (length p + 1)) (2 ^ 64 - 1)
      → IsSurveyed bytes after (Some key) more (ascending && is_behind last key) (named || is_parents_key key)
  one_surveyed colon key is more counted =
      let others = map entry (pieces after) in record {
        colons = sym (ap (list_all has_colon) first ∙ ap (λ b. b && list_all has_colon (pieces after)) colon)
            ∙ h.colons;
        ascent = and_assoc ascending (is_behind last key) (ascends (Some key) others)
            ∙ ap (λ k. ascending && (is_behind last k && ascends (Some k) others)) is
            ∙ ap (λ ps. ascending && ascends last (map entry ps)) (sym first)
            ∙ h.ascent;
        parents = or_assoc named (is_parents_key key) (names (pieces after))
            ∙ ap (λ k. named || (is_parents_key k || names (pieces after))) is
            ∙ ap (λ ps. named || names ps) (sym first)
            ∙ h.parents;
        weighs = omega (
          arith,
          counted,
          weight_entry p colon,
          ap (λ ps. weight (map entry ps)) first,
          h.weighs,
        );
      }

module _ (bytes rest : List ℕ) (last : Option (List ℕ)) (len : ℕ) (ascending named : Bool)
    (few : length bytes < 2 ^ 63) (none : pieces rest ≡ [])
    (h : IsSurveyed bytes rest last len ascending named) where
  whole_is_written : list_all has_colon (pieces bytes) ≡ true → ascends None (map entry (pieces bytes)) ≡ true
      → (eqb len (length bytes + 1) || eqb (length bytes) 0) ≡ true → IsWritten bytes
  whole_is_written colons ascent =
      elim (eqb len (length bytes + 1)) as (λ b. eqb len (length bytes + 1) ≡ b
      → (b || eqb (length bytes) 0) ≡ true → IsWritten bytes) [
        | true ↦ λ e w.
            let whole = eqb-true len (length bytes + 1) e in
            let counted : len ≡ weight (map entry (pieces bytes)) =
            omega (
              arith,
              few,
              whole,
              h.weighs,
              ap (λ ps. weight (map entry ps)) none,
              weighs_little bytes colons,
            ) in
            ascending_is_written bytes len colons ascent counted whole
        | false ↦ λ e w.
            nothing_is_written bytes colons ascent (nil_from_length bytes (eqb-true (length bytes) 0 w))
      ] refl

  -- all of them
  pub all_surveyed : (whole : Bool) → whole ≡ (eqb len (length bytes + 1) || eqb (length bytes) 0)
      → IsSurvey (record { is_written = ascending && whole; names_parents = named }) bytes
  all_surveyed whole is =
      let colons = sym h.colons ∙ ap (list_all has_colon) none in
      record {
        colons = colons;
        written = λ w.
            let parts = and_parts ascending whole w in
            let ascent = sym h.ascent ∙ ap (λ ps. ascending && ascends last (map entry ps)) none
            ∙ ap (λ b. b && true) parts.0 in
            whole_is_written colons ascent (sym is ∙ parts.1);
        parents = sym (or-false named) ∙ ap (λ ps. named || names ps) (sym none) ∙ h.parents;
      }
