-- What is in view, and what was looked at so far.
use Rattle.std.proofs.Common.{Bool, List, Contains, ◌↔◌}
use Rattle.hg_changeset.specs.declared.node.Node.{Node}
use Rattle.hg_changeset.specs.Contents.{Contents}
use Rattle.hg_graph.specs.Graph.{nodes, Reaches, Selects}
use Rattle.hg_graph.specs.Marks.{IsMarkedNode}
use Rattle.hg_graph.proofs.GraphLemmas.{Contains-from_place}
use Rattle.hg_phases.specs.State.{changesets}
use Rattle.hg_history.proofs.ContentLemmas.{content-node, node_in_content, leads_from_reach, reach_from_leads}
use Rattle.hg_replica.specs.State.{ReplicaState, IsValid}
use Rattle.hg_replica.specs.Content.{content_of}
use Rattle.hg_instab.proofs.OrphanLemmas.{selected}
use Rattle.hg_view.specs.Pins.{CountsAsObsolete, IsDescendantShown, IsVisibleUnder}

-- the shown changesets and their ancestors are visible
pub visible-marked : (s : ReplicaState) → IsValid s → (pins : List Node) (shown visible : List Bool)
    → ((n : Node) → IsMarkedNode (changesets s.history) shown n ↔ IsDescendantShown (content_of s) pins n)
    → ((n : Node) → IsMarkedNode (changesets s.history) visible n
    ↔ ((d : Node) × IsMarkedNode (changesets s.history) shown d × Reaches (changesets s.history) n d))
    → (n : Node) → IsMarkedNode (changesets s.history) visible n ↔ IsVisibleUnder (content_of s) pins n
visible-marked s valid pins shown visible are above n = (
  λ h. let d = (above n).0 h in (d.0, (are d.0).0 d.1, leads_from_reach s.history valid.graph n d.0 d.2),
  λ v. (above n).1 (
    v.0,
    (are v.0).1 v.1,
    reach_from_leads s.history valid.graph n v.0
        (node_in_content s.history valid.graph v.0 v.1.0) v.2,
  ),
)

-- the list of what is marked
pub marked-are : (cs : List Contents) (marks : List Bool) (found : List Node) → Selects cs (IsMarkedNode cs marks) found
    → (n : Node) → Contains found n ↔ IsMarkedNode cs marks n
marked-are cs marks found select n =
    let told = selected cs (IsMarkedNode cs marks) found select n in
    (λ h. (told.0 h).1, λ m. told.1 (Contains-from_place (nodes cs) m.0 n m.1, m))

-- what is held and doesn't count as obsolete is shown
pub shown-are : (s : ReplicaState) → IsValid s → (pins : List Node) (n : Node)
    → (Contains (nodes (changesets s.history)) n × ¬ (CountsAsObsolete (content_of s) pins n))
    ↔ IsDescendantShown (content_of s) pins n
shown-are s valid pins n =
    (λ h. (content-node s.history valid.graph n h.0, h.1), λ h. (node_in_content s.history valid.graph n h.0, h.1))
