-- Nodes by their names, one after the other.
use Rattle.std.proofs.Common.{◌≡◌, ◌+◌, ◌<◌, ◌++◌, ◌∷◌, [], ℕ, List, ap, ◌∙◌, sym, get_or, length, take}
use Rattle.std.proofs.lemmas.List.{map-append, take_more}
use Rattle.hg_log.specs.declared.named.NamedNode.{NamedNode}
use Rattle.hg_log.specs.Objects.{NodeState, named, names_and_states}

-- one more node
pub named_more : (nodes : List NamedNode) (i : ℕ) (n : NamedNode) → i < length nodes → n ≡ get_or nodes i n
    → names_and_states (take (i + 1) nodes) ≡ names_and_states (take i nodes) ++ named n ∷ []
named_more nodes i n within is =
    let before : List NodeState = names_and_states (take i nodes) in
    ap names_and_states (take_more nodes i n within) ∙ map-append named (take i nodes) (get_or nodes i n ∷ [])
    ∙ ap (λ (m : NamedNode). before ++ named m ∷ []) (sym is)
