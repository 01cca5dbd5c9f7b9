-- The other side's answers, one more at a time.
use Rattle.std.proofs.Common.{◌↔◌, ℕ, ◌+◌, ◌<◌, inl, inr, Bool, List, [], ◌∷◌, ◌++◌, length, length-append, take}
use Rattle.std.proofs.Common.{get_or, IsTrue, refl, sym, subst, arith}
use Rattle.std.proofs.lemmas.List.{take_more}
use Rattle.std.proofs.lemmas.Option.{none-some, slice_get_within}
use Rattle.hg_changeset.specs.declared.node.Node.{Node}
use Rattle.hg_changeset.proofs.ListLemmas.{slice_get-push_cases}
use Rattle.hg_discovery.specs.Rounds.{AreAnswers}

pub known_none : (P : Node → Type 0) → AreAnswers P [] []
known_none P = (refl, λ i n b at at_b. absurd (none-some n at))

pub known_more : (P : Node → Type 0) (ns : List Node) (answers : List Bool) (i : ℕ) (d : Node) (b : Bool)
    → i < length ns → (IsTrue b ↔ P (get_or ns i d)) → AreAnswers P (take i ns) answers
    → AreAnswers P (take (i + 1) ns) (answers ++ b ∷ [])
known_more P ns answers i d b lt told before =
    let n = get_or ns i d in
    subst (λ ms. AreAnswers P ms (answers ++ b ∷ [])) (sym (take_more ns i d lt)) (
      omega (arith, length-append answers (b ∷ []), length-append (take i ns) (n ∷ []), before.0),
      λ j m a at_m at_a. elim (slice_get-push_cases (take i ns) n j m at_m) [
        | inl old_m ↦ elim (slice_get-push_cases answers b j a at_a) [
          | inl old_a ↦ before.1 j m a old_m old_a
          | inr last ↦ absurd (omega (arith, slice_get_within (take i ns) j m old_m, before.0, last.0))
        ]
        | inr last_m ↦ elim (slice_get-push_cases answers b j a at_a) [
          | inl old_a ↦ absurd (omega (arith, slice_get_within answers j a old_a, before.0, last_m.0))
          | inr last ↦ subst (λ x. IsTrue a ↔ P x) last_m.1 (subst (λ x. IsTrue x ↔ P n) last.1 told)
        ]
      ],
    )
