-- Lines one after the other.
use Rattle.std.proofs.Common.{◌≡◌, ◌+◌, ◌<◌, ◌≤◌, ◌↔◌, ℕ, List, [], ◌++◌, Contains, length, get_or, drop, refl, sym}
use Rattle.std.proofs.Common.{subst}
use Rattle.std.proofs.lemmas.List.{drop_more, drop_all}
use Rattle.hg_changeset.specs.declared.node.Node.{Node}
use Rattle.hg_log.specs.Drawings.{Text}
use Rattle.hg_preview.specs.Lines.{AreLinesOf, HasLinesOf, IsLineOf}

-- the line of the next changeset, and those of the ones after it
pub next_line : (nodes : List Node) (i : ℕ) (d : Node) (first rest : Text) → i < length nodes
    → IsLineOf (get_or nodes i d) first → AreLinesOf (drop (i + 1) nodes) rest
    → AreLinesOf (drop i nodes) (first ++ rest)
next_line nodes i d first rest within here later =
    subst (λ ns. AreLinesOf ns (first ++ rest)) (sym (drop_more nodes i d within)) (first, rest, here, later, refl)

pub no_line : (nodes : List Node) (i : ℕ) → length nodes ≤ i → AreLinesOf (drop i nodes) []
no_line nodes i end = subst (λ ns. AreLinesOf ns []) (sym (drop_all i nodes end)) refl

-- lines of a list that was put in order
pub lines_of : (set list ns : List Node) (text : Text) → list ≡ set
    → ((n : Node) → Contains ns n ↔ Contains list n) → AreLinesOf ns text → HasLinesOf set text
lines_of set list ns text is same lines =
    (ns, subst (λ l. (n : Node) → Contains ns n ↔ Contains l n) is same, lines)
