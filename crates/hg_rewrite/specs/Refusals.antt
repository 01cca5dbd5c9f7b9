-- The table of refusals: when an operation is refused, and how.
use Rattle.std.specs.Prelude.{◌≡◌, ◌≢◌, ℕ, ◌+◌, ◌<◌, List, [], ◌∷◌, ◌++◌, length, map, ◌⊎◌, Some, Err, slice_get}
use Rattle.std.specs.Prelude.{Contains}
use Rattle.hg_changeset.specs.declared.node.Node.{Node}
use Rattle.hg_changeset.specs.Node.{null_node}
use Rattle.hg_changeset.specs.Changeset.{changeset_fault}
use Rattle.hg_changeset.specs.declared.changeset.ChangesetError.{ChangesetError}
use Rattle.hg_changeset.specs.declared.entry.EntryError.{EntryError}
use Rattle.hg_changeset.specs.EntryValue.{EntryValue}
use Rattle.hg_changeset.specs.EntryText.{trimmed_user}
use Rattle.hg_changeset.specs.EntryAnswer.{entry_fault, user_fault}
use Rattle.hg_phases.specs.declared.phase.Phase.TheVariants.{Public as public_phase}
use Rattle.hg_phases.specs.State.{State, Holds, Reaches, rank}
use Rattle.hg_marker.specs.declared.error.MarkerError.{MarkerError}
use Rattle.hg_marker.specs.Fields.{Fields}
use Rattle.hg_marker.specs.Making.{marker_of}
use Rattle.hg_replica.specs.State.{ReplicaState}
use Rattle.hg_replica.specs.Content.{content_of}
use Rattle.hg_replica.specs.Evolution.{IsObsolete}
use Rattle.hg_view.specs.Pins.{IsHiddenUnder}
use Rattle.hg_rewrite.specs.declared.op.Op.{Op}
use Rattle.hg_rewrite.specs.declared.op.Op.TheVariants.{Commit, Amend, Split, Fold, Prune, Relocate, Advance}
use Rattle.hg_rewrite.specs.declared.refusal.Refusal.{Refusal}
use Rattle.hg_rewrite.specs.declared.refusal.Refusal.TheVariants.{Unknown, Hidden, Public, AlreadyObsolete, NotLinear}
use Rattle.hg_rewrite.specs.declared.refusal.Refusal.TheVariants.{Count, Raise, Fault, Exists}
use Rattle.hg_rewrite.specs.declared.refusal.Cause.TheVariants.{Entry, Changeset, Marker}
use Rattle.hg_rewrite.specs.Limits.{split_least, split_most, fold_least}
use Rattle.hg_rewrite.specs.Reading.{phase_in, parents_in}
use Rattle.hg_rewrite.specs.Parts.{NewChangeset, entries, new_changesets, new_ids, markers, rewritten}

-- a row of the table: which refusals it gives
abbrev pub Row : Type 1
Row = Refusal → Type 0

abbrev pub Applies : Row → Type 0
Applies row = (r : Refusal) × row r

-- no row applies
abbrev pub NoneApplies : List Row → Type 0
NoneApplies [] = Unit {0}
NoneApplies (row ∷ rows) = ¬ (Applies row) × NoneApplies rows

-- the refusal is that of the first row that applies
abbrev pub IsFirstRefusal : List Row → Refusal → Type 0
IsFirstRefusal [] r = ⊥
IsFirstRefusal (row ∷ rows) r = row r ⊎ (¬ (Applies row) × IsFirstRefusal rows r)

-- a row that gives one refusal, where this is so
abbrev pub where_so : Type 0 → Refusal → Row
where_so P refusal r = P × (r ≡ refusal)

-- ---- 1: a named node isn't held. The null id stands for an absent parent, and is unknown anywhere else

-- the nodes that an operation names other than as parents
abbrev pub targets : Op → List Node
targets (Commit p q entry secret) = []
targets (Amend node entry) = node ∷ []
targets (Split node es) = node ∷ []
targets (Fold nodes entry) = nodes.items
targets (Prune node user secs offset) = node ∷ []
targets (Relocate node p q entry) = node ∷ []
targets (Advance node phase) = node ∷ []

-- the parents that it names
abbrev pub new_parents : Op → List Node
new_parents (Commit p q entry secret) = p ∷ q ∷ []
new_parents (Amend node entry) = []
new_parents (Split node es) = []
new_parents (Fold nodes entry) = []
new_parents (Prune node user secs offset) = []
new_parents (Relocate node p q entry) = p ∷ q ∷ []
new_parents (Advance node phase) = []

abbrev pub unknown : State → Node → Row
unknown s n = where_so (¬ (Holds s n)) (Unknown n)

abbrev pub unknown_parent : State → Node → Row
unknown_parent s n = where_so ((n ≢ null_node) × ¬ (Holds s n)) (Unknown n)

abbrev pub unknown_nodes : ReplicaState → Op → List Row
unknown_nodes s op = map (unknown s.history) (targets op) ++ map (unknown_parent s.history) (new_parents op)

-- ---- 2: a new parent is hidden under the pins

abbrev pub hidden : ReplicaState → List Node → Node → Row
hidden s pins n = where_so (IsHiddenUnder (content_of s) pins n) (Hidden n)

abbrev pub hidden_parents : ReplicaState → List Node → Op → List Row
hidden_parents s pins op = map (hidden s pins) (new_parents op)

-- ---- 3 and 4: a node to be rewritten is public, or is obsolete

abbrev pub is_public : State → Node → Row
is_public s n = where_so (phase_in s n ≡ public_phase) (Public n)

abbrev pub public_nodes : ReplicaState → Op → List Row
public_nodes s op = map (is_public s.history) (rewritten op)

abbrev pub is_obsolete : ReplicaState → Node → Row
is_obsolete s n = where_so (IsObsolete (content_of s) n) (AlreadyObsolete n)

abbrev pub obsolete_nodes : ReplicaState → Op → List Row
obsolete_nodes s op = map (is_obsolete s) (rewritten op)

-- ---- 5: Fold: some node after the first hasn't the one before as its sole parent. Relocate: a new parent is the node
-- or a descendant

-- each node after the first has the one before as its sole parent
abbrev pub IsLinear : State → List Node → Type 0
IsLinear s ns = (i : ℕ) (a b : Node) → slice_get ns i ≡ Some a → slice_get ns (i + 1) ≡ Some b
    → parents_in s b ≡ (a, null_node)

abbrev pub IsNotLinear : State → Op → Type 0
IsNotLinear s (Commit p q entry secret) = ⊥
IsNotLinear s (Amend node entry) = ⊥
IsNotLinear s (Split node es) = ⊥
IsNotLinear s (Fold nodes entry) = ¬ (IsLinear s nodes.items)
IsNotLinear s (Prune node user secs offset) = ⊥
IsNotLinear s (Relocate node p q entry) = Reaches s node p ⊎ Reaches s node q
IsNotLinear s (Advance node phase) = ⊥

abbrev pub not_linear : ReplicaState → Op → List Row
not_linear s op = where_so (IsNotLinear s.history op) NotLinear ∷ []

-- ---- 6: Split: not 2 to 255 entries. Fold: fewer than 2 nodes

abbrev pub IsWrongCount : Op → Type 0
IsWrongCount (Commit p q entry secret) = ⊥
IsWrongCount (Amend node entry) = ⊥
IsWrongCount (Split node es) = (length es.items < split_least) ⊎ (split_most < length es.items)
IsWrongCount (Fold nodes entry) = length nodes.items < fold_least
IsWrongCount (Prune node user secs offset) = ⊥
IsWrongCount (Relocate node p q entry) = ⊥
IsWrongCount (Advance node phase) = ⊥

abbrev pub wrong_count : Op → List Row
wrong_count op = where_so (IsWrongCount op) Count ∷ []

-- ---- 7: Advance to a phase above the present one

abbrev pub IsRaise : State → Op → Type 0
IsRaise s (Commit p q entry secret) = ⊥
IsRaise s (Amend node entry) = ⊥
IsRaise s (Split node es) = ⊥
IsRaise s (Fold nodes entry) = ⊥
IsRaise s (Prune node user secs offset) = ⊥
IsRaise s (Relocate node p q entry) = ⊥
IsRaise s (Advance node phase) = rank (phase_in s node) < rank phase

abbrev pub raise : ReplicaState → Op → List Row
raise s op = where_so (IsRaise s.history op) Raise ∷ []

-- ---- 8: there is no such entry, changeset or marker: the entries in order, then the changesets, for Prune the user,
-- then the markers

abbrev pub entry_refused : EntryValue → Row
entry_refused e r = (f : EntryError) × (entry_fault e ≡ Some f) × (r ≡ Fault (Entry f))

abbrev pub changeset_refused : NewChangeset → Row
changeset_refused n r = (f : ChangesetError) × (changeset_fault n.p n.q n.text ≡ Some f) × (r ≡ Fault (Changeset f))

abbrev pub user_refused : List ℕ → Row
user_refused user r = (f : EntryError) × (user_fault (trimmed_user user) ≡ Some f) × (r ≡ Fault (Entry f))

abbrev pub marker_refused : Fields → Row
marker_refused m r = (f : MarkerError) × (marker_of m ≡ Err f) × (r ≡ Fault (Marker f))

-- the users that an operation names outside of an entry
abbrev pub users : Op → List (List ℕ)
users (Commit p q entry secret) = []
users (Amend node entry) = []
users (Split node es) = []
users (Fold nodes entry) = []
users (Prune node user secs offset) = user.items ∷ []
users (Relocate node p q entry) = []
users (Advance node phase) = []

-- what can't be written of these entries, and of the changesets that they make
abbrev pub unwritten : List EntryValue → List NewChangeset → List Row
unwritten es new = map entry_refused es ++ map changeset_refused new

-- what can't be marked by these users, and in these markers
abbrev pub unmarked : List (List ℕ) → List Fields → List Row
unmarked us ms = map user_refused us ++ map marker_refused ms

abbrev pub bad_entries : Op → List Row
bad_entries op = map entry_refused (entries op)

abbrev pub bad_users : Op → List Row
bad_users op = map user_refused (users op)

abbrev pub not_written : ReplicaState → Op → List Row
not_written s op = unwritten (entries op) (new_changesets s.history op)

abbrev pub not_marked : ReplicaState → Op → List Row
not_marked s op = unmarked (users op) (markers s.history op)

-- ---- 9: a new id is held already, or comes again in the operation

abbrev pub existing : State → List Node → List Row
existing s [] = []
existing s (n ∷ ns) = where_so (Holds s n ⊎ Contains ns n) (Exists n) ∷ existing s ns

abbrev pub existing_ids : ReplicaState → Op → List Row
existing_ids s op = existing s.history (new_ids s.history op)

-- ---- the table

-- all rows, in the order in which they are tried
unfoldable pub refusals : ReplicaState → List Node → Op → List Row
refusals s pins op =
    unknown_nodes s op
    ++ (hidden_parents s pins op
    ++ (public_nodes s op
    ++ (obsolete_nodes s op
    ++ (not_linear s op
    ++ (wrong_count op
    ++ (raise s op
    ++ (not_written s op
    ++ (not_marked s op
    ++ existing_ids s op))))))))
