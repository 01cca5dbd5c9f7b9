-- What is noted of an operation in a marker.
use Rattle.std.specs.Prelude.{ℕ, List, [], ◌∷◌, ◌++◌, codes, Option, Some, None, reverse, if◌then◌else◌}
use Rattle.std.specs.FinMap.{from_entries}
use Rattle.hex.specs.Hex.{encode_lower}
use Rattle.hg_changeset.specs.declared.node.Node.{Node}
use Rattle.hg_changeset.specs.Node.{node_eq, null_node}
use Rattle.hg_changeset.specs.EntryText.{date_text}
use Rattle.hg_marker.specs.declared.note.Note.{Note}
use Rattle.hg_marker.specs.Texts.{Texts, bytes_cmp}

-- the parents of what is pruned: the first, and the second unless it is the null id
abbrev pub parents_entries : Option (Node × Node) → List (List ℕ × List ℕ)
parents_entries None = []
parents_entries (Some ps) = (codes "p1", encode_lower ps.0.0) ∷ (
    if node_eq ps.1 null_node then [] else (codes "p2", encode_lower ps.1.0) ∷ [])

-- when it was done, which one it was, the parents, and by whom
abbrev pub operation_entries : List ℕ → List ℕ → Option (Node × Node) → List ℕ → List (List ℕ × List ℕ)
operation_entries date operation parents user =
    (codes "date", date) ∷ (codes "operation", operation) ∷ parents_entries parents ++ (codes "user", user) ∷ []

abbrev pub note_entries : Note → List (List ℕ × List ℕ)
note_entries note =
    operation_entries (date_text note.secs note.offset) note.operation.now note.parents note.user.now

-- the metadata that it makes
abbrev pub note_texts : Note → Texts
note_texts note = from_entries {R = bytes_cmp} (reverse (note_entries note))
