-- The table of operations: the part of each.
--
-- The first column is the new changesets: on which parents, of which entries. The second is the bounds, and the third
-- the markers: which nodes are rewritten to the new changesets, and what is noted of it.
use Rattle.std.specs.Prelude.{ℕ, ℤ, List, [], ◌∷◌, ◌-◌, length, slice_get, map, reverse, codes, Option, Some, None}
use Rattle.std.specs.Prelude.{option_to_list, option_map}
use Rattle.std.specs.FinMap.{empty, from_entries, put}
use Rattle.hex.specs.Hex.{encode_lower}
use Rattle.hg_changeset.specs.declared.node.Node.{Node}
use Rattle.hg_changeset.specs.Node.{null_node}
use Rattle.hg_changeset.specs.Contents.{Contents}
use Rattle.hg_changeset.specs.Changeset.{changeset_of, node_of}
use Rattle.hg_changeset.specs.EntryValue.{EntryValue}
use Rattle.hg_changeset.specs.EntryText.{entry_text, date_text, trimmed_user}
use Rattle.hg_graph.specs.Graph.{nodes}
use Rattle.hg_phases.specs.declared.phase.Phase.{Phase}
use Rattle.hg_phases.specs.State.{State}
use Rattle.hg_marker.specs.Texts.{Texts, bytes_cmp}
use Rattle.hg_marker.specs.Fields.{Fields}
use Rattle.hg_marker.specs.Operation.{operation_entries}
use Rattle.hg_replica.specs.State.{ReplicaState}
use Rattle.hg_replica.specs.Least.{PartValue}
use Rattle.hg_rewrite.specs.declared.op.Op.{Op}
use Rattle.hg_rewrite.specs.declared.op.Op.TheVariants.{Commit, Amend, Split, Fold, Prune, Relocate, Advance}
use Rattle.hg_rewrite.specs.Reading.{phase_in, parents_in, highest, asked}

-- ---- new changesets

-- two parents in either order and a text, of which a changeset is to be made
pub record NewChangeset : Type 0 where
  pub p : Node
  pub q : Node
  pub text : List ℕ

abbrev pub contents_of : NewChangeset → Contents
contents_of n = changeset_of n.p n.q n.text

-- that of this text on these parents
abbrev pub on_parents : Node × Node → List ℕ → NewChangeset
on_parents on text = record { p = on.0; q = on.1; text = text }

-- the first on these parents, each further one with the one before as its sole parent
unfoldable pub chain : Node × Node → List (List ℕ) → List NewChangeset
chain on [] = []
chain on (text ∷ texts) = on_parents on text ∷ chain (node_of (changeset_of on.0 on.1 text), null_node) texts

-- the entry with a node noted among its extras, in place of an extra with the same key
abbrev pub with_extra : List ℕ → Node → EntryValue → EntryValue
with_extra key node e = record e { extra = put bytes_cmp key (encode_lower node.0) e.extra }

-- the entries of the new changesets
abbrev pub entries : Op → List EntryValue
entries (Commit p q entry secret) = entry ∷ []
entries (Amend node entry) = with_extra (codes "amend_source") node entry ∷ []
entries (Split node es) = es.items
entries (Fold nodes entry) = entry ∷ []
entries (Prune node user secs offset) = []
entries (Relocate node p q entry) = with_extra (codes "rebase_source") node entry ∷ []
entries (Advance node phase) = []

abbrev pub parents_of_first : State → List Node → Node × Node
parents_of_first s [] = (null_node, null_node)
parents_of_first s (n ∷ ns) = parents_in s n

-- the parents of the first new changeset
abbrev pub base : State → Op → Node × Node
base s (Commit p q entry secret) = (p, q)
base s (Amend node entry) = parents_in s node
base s (Split node es) = parents_in s node
base s (Fold nodes entry) = parents_of_first s nodes.items
base s (Prune node user secs offset) = (null_node, null_node)
base s (Relocate node p q entry) = (p, q)
base s (Advance node phase) = (null_node, null_node)

-- what a chain of these entries on these parents makes
abbrev pub written : Node × Node → List EntryValue → List NewChangeset
written on es = chain on (map entry_text es)

abbrev pub new_changesets : State → Op → List NewChangeset
new_changesets s op = written (base s op) (entries op)

abbrev pub made : State → Op → List Contents
made s op = map contents_of (new_changesets s op)

abbrev pub new_ids : State → Op → List Node
new_ids s op = nodes (made s op)

-- ---- bounds

-- a bound on the last of the nodes
abbrev pub on_last : List Node → Phase → List (Node × Phase)
on_last ns k = option_to_list (option_map (λ n. (n, k)) (slice_get ns (length ns - 1)))

-- the last of the nodes, or the null id
abbrev pub last : List Node → Node
last [] = null_node
last (n ∷ []) = n
last (n ∷ m ∷ ns) = last (m ∷ ns)

abbrev pub bounds : State → Op → List (Node × Phase)
bounds s (Commit p q entry secret) = on_last (new_ids s (Commit p q entry secret))
    (highest (asked secret) (highest (phase_in s p) (phase_in s q)))
bounds s (Amend node entry) = on_last (new_ids s (Amend node entry)) (phase_in s node)
bounds s (Split node es) = on_last (new_ids s (Split node es)) (phase_in s node)
bounds s (Fold nodes entry) = on_last (new_ids s (Fold nodes entry)) (phase_in s (last nodes.items))
bounds s (Prune node user secs offset) = []
bounds s (Relocate node p q entry) = on_last (new_ids s (Relocate node p q entry))
    (highest (phase_in s node) (highest (phase_in s p) (phase_in s q)))
bounds s (Advance node phase) = (node, phase) ∷ []

-- ---- markers

-- the nodes that are rewritten, each to all the new ones
abbrev pub rewritten : Op → List Node
rewritten (Commit p q entry secret) = []
rewritten (Amend node entry) = node ∷ []
rewritten (Split node es) = node ∷ []
rewritten (Fold nodes entry) = nodes.items
rewritten (Prune node user secs offset) = node ∷ []
rewritten (Relocate node p q entry) = node ∷ []
rewritten (Advance node phase) = []

-- when, by which operation and by whom, and the parents of what is pruned: `p1`, which is the null id for a root, and
-- `p2` where there are two
unfoldable pub noted : List ℕ → Option (Node × Node) → List ℕ → ℤ → ℤ → Texts
noted operation parents user secs offset =
    from_entries {R = bytes_cmp}
    (reverse (operation_entries (date_text secs offset) operation parents (trimmed_user user)))

abbrev pub noted_of : List ℕ → EntryValue → Texts
noted_of operation e = noted operation None e.user e.secs e.offset

abbrev pub noted_of_first : List ℕ → List EntryValue → Texts
noted_of_first operation [] = empty
noted_of_first operation (e ∷ es) = noted_of operation e

-- what is noted of it
abbrev pub metadata : State → Op → Texts
metadata s (Commit p q entry secret) = empty
metadata s (Amend node entry) = noted_of (codes "amend") entry
metadata s (Split node es) = noted_of_first (codes "split") es.items
metadata s (Fold nodes entry) = noted_of (codes "fold") entry
metadata s (Prune node user secs offset) = noted (codes "prune") (Some (parents_in s node)) user.items secs offset
metadata s (Relocate node p q entry) = noted_of (codes "relocate") entry
metadata s (Advance node phase) = empty

abbrev pub marker : Texts → List Node → Node → Fields
marker texts successors node = record { predecessor = node; successors = successors; flags = 0; metadata = texts }

abbrev pub markers : State → Op → List Fields
markers s op = map (marker (metadata s op) (new_ids s op)) (rewritten op)

-- ---- the part

unfoldable pub part_of : ReplicaState → Op → PartValue
part_of s op = record {
  history = record { changesets = made s.history op; bounds = bounds s.history op };
  markers = markers s.history op;
}
