-- Roots: the changesets at which a phase begins, and the phases that follow from them.
use Rattle.std.specs.Prelude.{◌≡◌, ◌≢◌, ◌≤◌, List, [], ◌∷◌, Contains, ◌↔◌, ◌⊎◌}
use Rattle.hg_changeset.specs.declared.node.Node.{Node}
use Rattle.hg_changeset.specs.Contents.{Contents}
use Rattle.hg_changeset.specs.Changeset.{node_of}
use Rattle.hg_graph.specs.Graph.{IsParent, Reaches}
use Rattle.hg_phases.specs.declared.phase.Phase.{Phase}
use Rattle.hg_phases.specs.declared.phase.Phase.TheVariants.{Public}
use Rattle.hg_phases.specs.State.{State, Held, rank, changesets}

-- the changeset is draft or secret, and none of its parents has its phase
pub record IsRoot (s : State) (h : Held) : Type 0 where
  pub not_public : h.phase ≢ Public
  pub begins : (p : Held) → Contains s.held p → IsParent h.changeset (node_of p.changeset) → p.phase ≢ h.phase

abbrev pub root_of : Held → Phase × Node
root_of h = (h.phase, node_of h.changeset)

-- exactly those of these changesets that are roots of the state, each once, in their order
abbrev pub AreRootsAmong : State → List Held → List (Phase × Node) → Type 0
AreRootsAmong s [] roots = roots ≡ []
AreRootsAmong s (h ∷ hs) roots =
    (IsRoot s h × (rest : List (Phase × Node)) × (roots ≡ root_of h ∷ rest) × AreRootsAmong s hs rest)
    ⊎ (¬ (IsRoot s h) × AreRootsAmong s hs roots)

-- exactly the roots of the state, each once, in the graph's order
abbrev pub AreRoots : State → List (Phase × Node) → Type 0
AreRoots s roots = AreRootsAmong s s.held roots

-- what may decide the phase of n: public, and each listed root that is n or an ancestor of it
abbrev pub IsRootPhase : List Contents → List (Phase × Node) → Node → Phase → Type 0
IsRootPhase cs roots n k = (k ≡ Public) ⊎ ((r : Phase × Node) × Contains roots r × Reaches cs r.1 n × (r.0 ≡ k))

-- k is the highest phase of which P holds
abbrev pub IsHighest : (Phase → Type 0) → Phase → Type 0
IsHighest P k = P k × ((j : Phase) → P j → rank j ≤ rank k)

-- these changesets in their order, each with the highest phase that the listed roots give it
pub record IsOpened (cs : List Contents) (roots : List (Phase × Node)) (s : State) : Type 0 where
  pub held : changesets s ≡ cs
  pub phases : (g : Held) → Contains s.held g → IsHighest (IsRootPhase cs roots (node_of g.changeset)) g.phase

-- the same nodes with the same phases, in whatever order and however often
abbrev pub AreSameRoots : List (Phase × Node) → List (Phase × Node) → Type 0
AreSameRoots roots others = (r : Phase × Node) → Contains roots r ↔ Contains others r
