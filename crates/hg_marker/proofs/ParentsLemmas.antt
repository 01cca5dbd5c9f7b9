-- Metadata without a key of parents records none.
use Rattle.std.proofs.Common.{◌≡◌, ℕ, false, List, [], ◌∷◌, None, refl, ap, map, ◌∙◌, codes}
use Rattle.std.specs.Prelude.{◌||◌}
use Rattle.std.specs.List.{list_any}
use Rattle.std.specs.FinMap.{entries, find, get}
use Rattle.std.specs.Str.{bytes_eq}
use Rattle.std.proofs.lemmas.Bool.{or_parts}
use Rattle.hg_marker.specs.declared.parents.Parents.TheVariants.{Unrecorded}
use Rattle.hg_marker.specs.Texts.{Texts, bytes_cmp}
use Rattle.hg_marker.specs.Metadata.{entry, pieces, texts}
use Rattle.hg_marker.specs.Parents.{is_parents_key, names_parents, parents_by, parents_of}
use Rattle.hg_marker.specs.Written.{IsWritten}
use Rattle.hg_marker.proofs.FormLemmas.{found_later, get_is, written_entries}

not_found : (q : List ℕ) → ((k : List ℕ) → is_parents_key k ≡ false → bytes_eq k q ≡ false)
    → (es : List (List ℕ × List ℕ)) → list_any (λ e. is_parents_key e.0) es ≡ false → find bytes_cmp q es ≡ None
not_found q other [] h = refl
not_found q other (e ∷ es) h =
    let p = or_parts (is_parents_key e.0) (list_any (λ f. is_parents_key f.0) es) h in
    found_later e.0 e.1 q es (other e.0 p.0) ∙ not_found q other es p.1

pub none_recorded : (m : Texts) → list_any (λ e. is_parents_key e.0) (entries m) ≡ false → parents_of m ≡ Unrecorded
none_recorded m h =
    let at : (q : List ℕ) → ((k : List ℕ) → is_parents_key k ≡ false → bytes_eq k q ≡ false) → get m q ≡ None =
    λ q other. get_is m q ∙ not_found q other (entries m) h in
    let p0 = at (codes "p0") (λ k n. (or_parts _ _ (or_parts _ _ n).0).0) in
    let p1 = at (codes "p1") (λ k n. (or_parts _ _ (or_parts _ _ n).0).1) in
    let p2 = at (codes "p2") (λ k n. (or_parts _ _ n).1) in
    λ i. parents_by (p0 i) (p1 i) (p2 i)

-- what the keys of the pieces tell, their entries do
piece_keys : (ps : List (List ℕ)) → list_any (λ p. is_parents_key (entry p).0) ps
    ≡ list_any (λ e. is_parents_key e.0) (map entry ps)
piece_keys [] = refl
piece_keys (p ∷ ps) = ap (λ b. is_parents_key (entry p).0 || b) (piece_keys ps)

pub written_names : (bytes : List ℕ) → IsWritten bytes
    → list_any (λ p. is_parents_key (entry p).0) (pieces bytes) ≡ names_parents (texts (pieces bytes))
written_names bytes h =
    piece_keys (pieces bytes) ∙ ap (list_any (λ e. is_parents_key e.0)) (written_entries bytes h)
