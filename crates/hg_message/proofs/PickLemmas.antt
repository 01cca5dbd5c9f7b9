-- Those of some nodes that are so, node by node.
use Rattle.std.proofs.Common.{◌≡◌, ◌↔◌, ℕ, ◌<◌, ◌+◌, inl, inr, List, [], ◌∷◌, ◌++◌, length, get_or, take, Contains}
use Rattle.std.proofs.Common.{sym, subst}
use Rattle.std.proofs.lemmas.List.Elements.{Contains-append_left, Contains-push, Contains-push_cases}
use Rattle.hg_changeset.specs.declared.node.Node.{Node}
use Rattle.hg_changeset.proofs.ListLemmas.{Contains-taken}

abbrev pub AreSome : (Node → Type 0) → List Node → List Node → Type 0
AreSome P ns found = (n : Node) → Contains found n ↔ (Contains ns n × P n)

module _ (P : Node → Type 0) (ns : List Node) (i : ℕ) (x : Node) (l : i < length ns) (at : get_or ns i x ≡ x)
    (found : List Node) (before : AreSome P (take i ns) found) where
  pub some-push : P x → AreSome P (take (i + 1) ns) (found ++ x ∷ [])
  some-push is n = (
    λ h. elim (Contains-push_cases found x n h) [
      | inl old ↦ let b = (before n).0 old in ((Contains-taken ns i x n l at).1 (inl b.0), b.1)
      | inr e ↦ ((Contains-taken ns i x n l at).1 (inr e), subst P e is)
    ],
    λ h. elim ((Contains-taken ns i x n l at).0 h.0) [
      | inl old ↦ Contains-append_left found (x ∷ []) n ((before n).1 (old, h.1))
      | inr e ↦ subst (Contains (found ++ x ∷ [])) e (Contains-push found x)
    ],
  )

  pub some-skip : ¬ (P x) → AreSome P (take (i + 1) ns) found
  some-skip not n = (
    λ h. let b = (before n).0 h in ((Contains-taken ns i x n l at).1 (inl b.0), b.1),
    λ h. elim ((Contains-taken ns i x n l at).0 h.0) [
      | inl old ↦ (before n).1 (old, h.1)
      | inr e ↦ absurd (not (subst P (sym e) h.1))
    ],
  )
