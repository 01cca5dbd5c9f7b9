-- Where memory may be wanting.
--
-- Whether nodes are held, public or obsolete, whether they are a line, how many there are, which phase they have,
-- whether each entry has a text, whether that of the first is too long or its parents are one, and whether what is
-- pruned can be marked, is seen by look-ups and comparisons. Three steps take memory, in this order: a walk that tells
-- whether a new parent is hidden, one that tells whether a new parent is a descendant, and what is written in the end.
use Rattle.std.specs.Prelude.{◌≡◌, ◌≢◌, ℕ, ◌<◌, ◌⊎◌, List, [], ◌++◌, map, take, Some}
use Rattle.hg_changeset.specs.declared.node.Node.{Node}
use Rattle.hg_changeset.specs.declared.changeset.ChangesetError.{ChangesetError}
use Rattle.hg_changeset.specs.Changeset.{fault_before_hashing}
use Rattle.hg_graph.specs.Places.{IsAt}
use Rattle.hg_phases.specs.State.{State, changesets}
use Rattle.hg_replica.specs.State.{ReplicaState}
use Rattle.hg_replica.specs.Content.{content_of}
use Rattle.hg_replica.specs.Evolution.{IsObsolete}
use Rattle.hg_rewrite.specs.declared.op.Op.{Op}
use Rattle.hg_rewrite.specs.declared.op.Op.TheVariants.{Commit, Amend, Split, Fold, Prune, Relocate, Advance}
use Rattle.hg_rewrite.specs.Refusals.{Row, NoneApplies, unknown_nodes, hidden_parents, public_nodes, obsolete_nodes}
use Rattle.hg_rewrite.specs.Refusals.{not_linear, wrong_count, raise, bad_entries, bad_users, marker_refused}
use Rattle.hg_rewrite.specs.declared.refusal.Refusal.TheVariants.{Fault}
use Rattle.hg_rewrite.specs.declared.refusal.Cause.TheVariants.{Changeset}
use Rattle.hg_rewrite.specs.Parts.{NewChangeset, markers, new_changesets}

-- whether a new parent is hidden, where it is obsolete; any other isn't
abbrev pub WalksForHidden : ReplicaState → Op → Type 0
WalksForHidden s (Commit p q entry secret) = IsObsolete (content_of s) p ⊎ IsObsolete (content_of s) q
WalksForHidden s (Amend node entry) = ⊥
WalksForHidden s (Split node es) = ⊥
WalksForHidden s (Fold nodes entry) = ⊥
WalksForHidden s (Prune node user secs offset) = ⊥
WalksForHidden s (Relocate node p q entry) = IsObsolete (content_of s) p ⊎ IsObsolete (content_of s) q
WalksForHidden s (Advance node phase) = ⊥

-- the one stands before the other in the graph
abbrev pub StandsBefore : State → Node → Node → Type 0
StandsBefore s a n = (low : ℕ) × (high : ℕ) × IsAt (changesets s) a low × IsAt (changesets s) n high × (low < high)

-- neither new parent is the node itself, and it stands before one of them
abbrev pub StandsBeforeParent : State → Node → Node → Node → Type 0
StandsBeforeParent s node p q = (node ≢ p) × (node ≢ q) × (StandsBefore s node p ⊎ StandsBefore s node q)

-- whether a new parent is a descendant of the node that is relocated, where the node stands before one; no other is
abbrev pub WalksForDescendants : State → Op → Type 0
WalksForDescendants s (Commit p q entry secret) = ⊥
WalksForDescendants s (Amend node entry) = ⊥
WalksForDescendants s (Split node es) = ⊥
WalksForDescendants s (Fold nodes entry) = ⊥
WalksForDescendants s (Prune node user secs offset) = ⊥
WalksForDescendants s (Relocate node p q entry) = StandsBeforeParent s node p q
WalksForDescendants s (Advance node phase) = ⊥

-- the rows that are tried before that walk
abbrev pub rows_before_descendants : ReplicaState → List Node → Op → List Row
rows_before_descendants s pins op =
    unknown_nodes s op ++ (hidden_parents s pins op ++ (public_nodes s op ++ obsolete_nodes s op))

-- the marker of a prune, which names no changeset that would have to be made first
abbrev pub bad_prune : ReplicaState → Op → List Row
bad_prune s (Commit p q entry secret) = []
bad_prune s (Amend node entry) = []
bad_prune s (Split node es) = []
bad_prune s (Fold nodes entry) = []
bad_prune s (Prune node user secs offset) = map marker_refused (markers s.history (Prune node user secs offset))
bad_prune s (Relocate node p q entry) = []
bad_prune s (Advance node phase) = []

-- what is seen of a changeset before its text is written
abbrev pub refused_unwritten : NewChangeset → Row
refused_unwritten n r = (f : ChangesetError) × (fault_before_hashing n.p n.q n.text ≡ Some f)
    × (r ≡ Fault (Changeset f))

-- of the first of several. The next ones, which a split alone has, stand on the id of the one before, and are refused
-- behind it where that is the null id: it has to be hashed first
abbrev pub refused_first : List NewChangeset → List Row
refused_first new = map refused_unwritten (take 1 new)

abbrev pub bad_first : ReplicaState → Op → List Row
bad_first s op = refused_first (new_changesets s.history op)

-- the rows that are tried after it, before anything is written
abbrev pub rows_before_writing : ReplicaState → Op → List Row
rows_before_writing s op =
    not_linear s op
    ++ (wrong_count op ++ (raise s op ++ (bad_entries op ++ (bad_first s op ++ (bad_users op ++ bad_prune s op)))))

-- memory may be wanting at one of the two later steps, and no row that is tried before it applies
abbrev pub MayWantMemoryLater : ReplicaState → List Node → Op → Type 0
MayWantMemoryLater s pins op =
    (NoneApplies (rows_before_descendants s pins op) × WalksForDescendants s.history op)
    ⊎ (NoneApplies (rows_before_descendants s pins op) × NoneApplies (rows_before_writing s op))

-- memory may be wanting at one of the three steps, and no row that is tried before it applies
abbrev pub MayWantMemory : ReplicaState → List Node → Op → Type 0
MayWantMemory s pins op = (NoneApplies (unknown_nodes s op) × WalksForHidden s op) ⊎ MayWantMemoryLater s pins op
