use Rattle.std.proofs.Common.{List, ◌↔◌, ℕ, Option, Some, None, is_some, IsTrue, MatchOption, refl, sym, true≢false}
use Rattle.hg_changeset.specs.declared.node.Node.{Node}
use Rattle.hg_changeset.specs.Contents.{Contents}
use Rattle.hg_graph.specs.Graph.{nodes, Holds}
use Rattle.hg_graph.specs.Places.{IsOnlyAt}
use Rattle.hg_graph.proofs.GraphLemmas.{Contains-from_place}
use Rattle.hg_graph.proofs.graph.Graph.contains.Goals as goal

held : (cs : List Contents) (n : Node) (place : Option ℕ) → MatchOption place (¬ (Holds cs n)) (IsOnlyAt cs n)
    → IsTrue (is_some place) ↔ Holds cs n
held cs n None missing = (λ t. absurd (true≢false (sym t)), λ h. absurd (missing h))
held cs n (Some k) only = (λ t. Contains-from_place (nodes cs) k n ((only k).1 refl), λ h. refl)

pub returns : goal.returns
returns c = rw (c.is_some.ensures) (held c.args.self.now c.args.node c.place.result c.place.ensures.place)
