-- Clusters of nodes, one after the other.
use Rattle.std.proofs.Common.{◌≡◌, ◌+◌, ◌<◌, ◌≤◌, ◌++◌, [], ℕ, Bool, List, Option, refl, sym, subst, get_or}
use Rattle.std.proofs.Common.{length, take}
use Rattle.std.specs.Io.KnownBytes.{Appends}
use Rattle.std.proofs.lemmas.List.{take_all}
use Rattle.std.proofs.KnownBytes.{Appends-trans, Appends-nil}
use Rattle.hg_log.specs.declared.named.NamedNode.{NamedNode}
use Rattle.hg_view.specs.Kept.{KeptValue}
use Rattle.hg_log.specs.Drawings.{AreAllDrawn, Grows, IsGraph, Text}
use Rattle.hg_log.specs.Graphs.{AreClusters, IsCluster, IsGraphOf}
use Rattle.hg_log.specs.Objects.{NodeState, named, names_and_states}
use Rattle.hg_log.proofs.DrawingLemmas.{Grows-trans, pieces_more}
use Rattle.hg_log.proofs.NamedLemmas.{named_more}

-- the changesets of a node between a heading and other lines
pub cluster_written : (kept : KeptValue) (shows_hidden : Bool) (v w x y z : Option Text) (end : Text) → Grows v w
    → ((text : Text) × AreAllDrawn kept shows_hidden text × Appends w x text) → Grows x y → Appends y z end
    → (text : Text) × IsGraph kept shows_hidden text × Appends v z text
cluster_written kept shows_hidden v w x y z end first boxes others last =
    let after = Grows-trans x y z others (end, last) in (
      first.0 ++ (boxes.0 ++ after.0),
      (first.0, boxes.0, after.0, boxes.1, refl),
      Appends-trans v w z first.0 (boxes.0 ++ after.0) first.1
          (Appends-trans w x z boxes.0 after.0 boxes.2 after.1),
    )

-- the clusters of these nodes were written
abbrev pub WritesClusters : Bool → List NodeState → Option Text → Option Text → Type 0
WritesClusters shows_hidden nodes held holds =
    (text : Text) × AreClusters shows_hidden nodes text × Appends held holds text

pub no_cluster : (shows_hidden : Bool) (x : Option Text) → WritesClusters shows_hidden [] x x
no_cluster shows_hidden x = ([], refl, Appends-nil x)

-- one more node
pub next_cluster : (shows_hidden : Bool) (nodes : List NamedNode) (i : ℕ) (n : NamedNode) (x y z : Option Text)
    → i < length nodes → n ≡ get_or nodes i n
    → WritesClusters shows_hidden (names_and_states (take i nodes)) x y
    → ((text : Text) × IsCluster shows_hidden (named n) text × Appends y z text)
    → WritesClusters shows_hidden (names_and_states (take (i + 1) nodes)) x z
next_cluster shows_hidden nodes i n x y z within is (text, are, first) (next, cluster, second) =
    let before : List NodeState = names_and_states (take i nodes) in
    subst (λ (ns : List NodeState). WritesClusters shows_hidden ns x z) (sym (named_more nodes i n within is)) (
      text ++ next,
      pieces_more (IsCluster shows_hidden) before (named n) text next are cluster,
      Appends-trans x y z text next first second,
    )

-- all nodes
pub all_clusters : (shows_hidden : Bool) (nodes : List NamedNode) (i : ℕ) (x y : Option Text) → length nodes ≤ i
    → WritesClusters shows_hidden (names_and_states (take i nodes)) x y
    → WritesClusters shows_hidden (names_and_states nodes) x y
all_clusters shows_hidden nodes i x y end all =
    subst (λ (ns : List NamedNode). WritesClusters shows_hidden (names_and_states ns) x y) (take_all i nodes end) all

-- between a beginning and an end
pub graph_written : (shows_hidden : Bool) (nodes : List NodeState) (w x y z : Option Text) (before after : Text)
    → Appends w x before → WritesClusters shows_hidden nodes x y → Appends y z after
    → (text : Text) × IsGraphOf shows_hidden nodes text × Appends w z text
graph_written shows_hidden nodes w x y z before after start (clusters, are, drawn) end = (
  before ++ (clusters ++ after),
  (before, clusters, after, are, refl),
  Appends-trans w x z before (clusters ++ after) start (Appends-trans x y z clusters after drawn end),
)
