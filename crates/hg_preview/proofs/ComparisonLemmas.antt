-- Lines of places, one after the other, and of a count of markers.
use Rattle.std.proofs.Common.{◌≡◌, ◌≢◌, ◌+◌, ◌≤◌, ◌∙◌, ℕ, zero, suc, List, [], ◌++◌, Option, length, inl, inr, refl}
use Rattle.std.proofs.Common.{arith, codes, decimal, sym, subst, ap}
use Rattle.std.specs.Io.KnownBytes.{Appends}
use Rattle.std.proofs.KnownBytes.{Appends-nil, Appends-trans}
use Rattle.std.proofs.lemmas.Option.{same_Some}
use Rattle.hg_changeset.specs.declared.node.Node.{Node}
use Rattle.hg_changeset.specs.Contents.{Contents}
use Rattle.hg_log.specs.Drawings.{IsLine, StandsAt, Text}
use Rattle.hg_phases.specs.State.{changesets}
use Rattle.hg_replica.specs.State.{ReplicaState}
use Rattle.hg_view.specs.Kept.{KeptValue}
use Rattle.hg_preview.specs.Comparisons.{AreLinesWhere, IsCountText, IsLineWhere}
use Rattle.hg_preview.specs.Lines.{IsLineOf}

-- ---- places

-- the lines of so many places are written
abbrev pub AreLinesWritten : (ℕ → Node → Type 0) → ℕ → Option Text → Option Text → Type 0
AreLinesWritten P place held holds = (text : Text) × AreLinesWhere P place text × Appends held holds text

pub no_lines : (P : ℕ → Node → Type 0) (a : Option Text) → AreLinesWritten P 0 a a
no_lines P a = ([], refl, Appends-nil a)

pub next_lines : (P : ℕ → Node → Type 0) (place : ℕ) (a b c : Option Text) → AreLinesWritten P place a b
    → ((here : Text) × IsLineWhere (P place) here × Appends b c here) → AreLinesWritten P (place + 1) a c
next_lines P place a b c written next =
    let lines : Text = written.0 ++ next.0 in
    let more : suc place ≡ place + 1 = omega arith in
    let Q : ℕ → Type 0 = λ k. AreLinesWhere P k lines in (
      lines,
      subst Q more (written.0, next.0, written.1, next.1, refl),
      Appends-trans a b c written.0 next.0 written.2 next.2,
    )

pub all_lines : (P : ℕ → Node → Type 0) (place len : ℕ) (a b : Option Text) → place ≡ len
    → AreLinesWritten P place a b → AreLinesWritten P len a b
all_lines P place len a b end written = subst (λ (k : ℕ). AreLinesWritten P k a b) end written

-- all places of a graph were looked at
pub places_end : (kept : KeptValue) (s : ReplicaState) (cs : List Contents) (len place : ℕ) → len ≡ length cs
    → cs ≡ changesets s.history → s ≡ kept.replica → len ≤ place → place ≤ len
    → place ≡ length (changesets kept.replica.history)
places_end kept s cs len place len_is graph same above below =
    let all : length cs ≡ length (changesets kept.replica.history) =
    ap length graph ∙ ap (λ (t : ReplicaState). length (changesets t.history)) same in
    omega (arith, len_is, all, above, below)

-- ---- one place

-- a changeset stands there, and isn't so
pub no_line_where : (kept : KeptValue) (place : ℕ) (Q : Node → Type 0) (n : Node) (a : Option Text)
    → StandsAt kept place n → ¬ (Q n)
    → (here : Text) × IsLineWhere (λ m. StandsAt kept place m × Q m) here × Appends a a here
no_line_where kept place Q n a stands not_so = (
  [],
  inr (λ other. not_so (subst Q (same_Some other.0 n (sym other.1.0 ∙ stands)) other.1.1), refl),
  Appends-nil a,
)

-- it is so, and its line is written
pub line_where : (kept : KeptValue) (place : ℕ) (Q : Node → Type 0) (n : Node) (a b : Option Text)
    → StandsAt kept place n → Q n → ((text : Text) × IsLineOf n text × Appends a b text)
    → (here : Text) × IsLineWhere (λ m. StandsAt kept place m × Q m) here × Appends a b here
line_where kept place Q n a b stands so written = (written.0, inl (n, (stands, so), written.1), written.2)

-- ---- the line with how many markers are lacking

pub no_count : (count : ℕ) → count ≡ 0 → IsCountText count []
no_count count none = subst (λ (k : ℕ). IsCountText k []) (sym none) refl

-- the line with their count
pub count_text : (count : ℕ) (front line text : Text) → count ≢ 0 → line ≡ front ++ (decimal count ++ codes " markers")
    → IsLine line text → IsCountText count text
count_text zero front line text some is told = absurd (some refl)
count_text (suc more) front line text some is told = (front, subst (λ (l : Text). IsLine l text) is told)
