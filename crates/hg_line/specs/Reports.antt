-- The report of a replica: a line for each changeset, by the definitions of what is so of it, under its node's pins.
use Rattle.std.specs.Prelude.{ℕ, ◌≡◌, ◌+◌, List, [], ◌∷◌, ◌++◌, map, codes, decimal, slice_get, length, Bool}
use Rattle.std.specs.Prelude.{Some, if◌then◌else◌, not}
use Rattle.std.specs.declared.cmp.Ordering.{Ordering}
use Rattle.std.specs.Cmp.Lexicographic.{slice_cmp}
use Rattle.std.specs.List.Sorted.{IsPermutation, IsSorted}
use Rattle.std.specs.Ordering.{nat_cmp, ordering_then}
use Rattle.hg_changeset.specs.Contents.{Contents}
use Rattle.hg_changeset.specs.Changeset.{last_line, node_of}
use Rattle.hg_phases.specs.declared.phase.Phase.{Phase}
use Rattle.hg_phases.specs.State.{Held, changesets}
use Rattle.hg_phases.specs.Words.{phase_word}
use Rattle.hg_replica.specs.State.{ReplicaState}
use Rattle.hg_view.specs.Kept.{KeptValue}
use Rattle.hg_view.specs.declared.status.Status.{Status}
use Rattle.hg_view.specs.Status.{IsStatus}
use Rattle.hg_line.specs.Commands.{Text, Word}

-- the text and an LF
abbrev pub line_of : Text → Text
line_of text = text ++ 10 ∷ []

-- ---- the changesets of a replica, in the order of a report

-- a changeset by its label and its place
abbrev pub RowValue : Type 0
RowValue = Text × ℕ

-- the changesets, the first of which stands at this place
abbrev pub rows_from : ℕ → List Contents → List RowValue
rows_from place [] = []
rows_from place (c ∷ cs) = (last_line c, place) ∷ rows_from (place + 1) cs

-- by label, byte by byte, and then by place
abbrev pub row_cmp : RowValue → RowValue → Ordering
row_cmp r s = ordering_then (slice_cmp nat_cmp r.0 s.0) (nat_cmp r.1 s.1)

-- the rows of all changesets of the replica, in order
pub record AreRows (s : ReplicaState) (rows : List RowValue) : Type 0 where
  pub all : IsPermutation (rows_from 0 (changesets s.history)) rows
  pub sorted : IsSorted row_cmp rows

-- the rows, of labels where they stand in texts
abbrev pub row_values : List (Word × ℕ) → List RowValue
row_values rows = map (λ r. (r.0.now, r.1)) rows

-- ---- the words of a row

abbrev pub text_where : Bool → Text → Text
text_where is_so text = if is_so then text else []

-- the line, and then the words of what is so of a changeset that is held
abbrev pub with_words : Text → Status → Text
with_words line status =
    line ++ text_where status.obsolete (codes " obsolete") ++ text_where status.suspended (codes " suspended")
    ++ text_where status.extinct (codes " extinct") ++ text_where status.orphan (codes " orphan")
    ++ text_where status.phase_divergent (codes " phase-divergent")
    ++ text_where status.content_divergent (codes " content-divergent")
    ++ text_where (not status.visible) (codes " hidden")

-- ---- the lines of a report

-- a changeset's line: its label, its phase, and its words
abbrev pub row_line : Text → Phase → Status → Text
row_line label phase status = line_of (with_words (label ++ (codes " " ++ phase_word phase)) status)

-- the line of the changeset at the row's place
abbrev pub IsRowLine : KeptValue → RowValue → Text → Type 0
IsRowLine s row text =
    (h : Held) × (status : Status) × (slice_get s.replica.history.held row.1 ≡ Some h)
    × IsStatus s (node_of h.changeset) status × (text ≡ row_line row.0 h.phase status)

-- the lines of these rows, one after the other
abbrev pub AreRowLines : KeptValue → List RowValue → Text → Type 0
AreRowLines s [] text = text ≡ []
AreRowLines s (row ∷ rows) text =
    (first : Text) × (rest : Text) × IsRowLine s row first × AreRowLines s rows rest × (text ≡ first ++ rest)

abbrev pub heading : Text → Text
heading name = line_of (codes "report " ++ name)

-- how many changesets and how many markers there are
abbrev pub totals : ℕ → ℕ → Text
totals changesets markers =
    line_of (decimal changesets ++ (codes " changesets " ++ (decimal markers ++ codes " markers")))

-- the report of the replica under this name, and its node's pins
abbrev pub IsReport : Text → KeptValue → Text → Type 0
IsReport name s text =
    (rows : List RowValue) × (middle : Text) × AreRows s.replica rows × AreRowLines s rows middle
    × (text ≡ heading name ++ middle
    ++ totals (length (changesets s.replica.history)) (length s.replica.markers))
