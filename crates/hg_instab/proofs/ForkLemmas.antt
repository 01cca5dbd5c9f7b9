-- Ids with two markers.
use Rattle.std.proofs.Common.{◌≡◌, ℕ, ◌<◌, ◌∷◌, [], List, length, sym, ◌∙◌, arith}
use Rattle.hg_changeset.specs.declared.node.Node.{Node}
use Rattle.hg_changeset.proofs.ListLemmas.{Contains-first, Contains-later, Contains-none, Contains-one}
use Rattle.hg_marker.specs.Fields.{Fields}
use Rattle.hg_obsstore.specs.Markers.{ArePlaces}
use Rattle.hg_instab.specs.Walk.{IsFork}

pub fork-from_places : (ms : List Fields) (n : Node) (places : List ℕ) → ArePlaces (λ m. m.predecessor ≡ n) ms places
    → 1 < length places → IsFork ms n
fork-from_places ms n [] are l = absurd (omega (arith, l))
fork-from_places ms n (i ∷ []) are l = absurd (omega (arith, l))
fork-from_places ms n (i ∷ j ∷ rest) are l = (
  i,
  j,
  (λ e. absurd (omega (arith, are.ascending 0 (omega arith), e))),
  (are.exact i).0 (Contains-first i (j ∷ rest)),
  (are.exact j).0 (Contains-later i (j ∷ rest) j (Contains-first j rest)),
)

pub places-from_fork : (ms : List Fields) (n : Node) (places : List ℕ) → ArePlaces (λ m. m.predecessor ≡ n) ms places
    → IsFork ms n → 1 < length places
places-from_fork ms n [] are fork = absurd (Contains-none fork.0 ((are.exact fork.0).1 fork.3))
places-from_fork ms n (k ∷ []) are fork =
    absurd (fork.2 (sym (Contains-one k fork.0 ((are.exact fork.0).1 fork.3))
    ∙ Contains-one k fork.1 ((are.exact fork.1).1 fork.4)))
places-from_fork ms n (k ∷ l ∷ rest) are fork = omega arith
