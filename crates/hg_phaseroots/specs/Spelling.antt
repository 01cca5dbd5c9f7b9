-- How roots are spelled, and what is wrong with a text that spells none: the format, apart from any reader or writer.
use Rattle.std.specs.Prelude.{◌≡◌, ◌⊎◌, ◌<◌, ◌≤◌, ◌+◌, ℕ, List, [], ◌∷◌, ◌++◌, length, Some}
use Rattle.std.specs.List.{AllPass}
use Rattle.std.specs.Str.Parse.{digits_value}
use Rattle.hg_changeset.specs.declared.node.Node.{Node}
use Rattle.hg_changeset.specs.Bytes.{space}
use Rattle.hg_changeset.specs.Node.{id_value}
use Rattle.hg_phases.specs.declared.phase.Phase.TheVariants.{Draft, Secret}
use Rattle.hg_phaseroots.specs.declared.error.RootsError.{RootsError}
use Rattle.hg_phaseroots.specs.declared.error.RootsError.TheVariants.{BadLine, BadPhase, NoMemory}
use Rattle.hg_phaseroots.specs.Lines.{lines_of}
use Rattle.hg_phaseroots.specs.Reading.{Root, is_decimal}

-- the line is one to nine decimal digits, one space, and 40 hexadecimal digits of either case
pub record IsLine (number : ℕ) (node : Node) (line : List ℕ) : Type 0 where
  pub digits : List ℕ
  pub id : List ℕ
  pub parts : line ≡ digits ++ space ∷ id
  pub least : 1 ≤ length digits
  pub most : length digits ≤ 9
  pub decimal : AllPass is_decimal digits
  pub number_is : number ≡ digits_value 10 digits
  pub long : length id ≡ 40
  pub node_is : id_value id ≡ Some node

-- what a line with this number lists: 0 is public, which is no root, 1 is draft, and 2 is secret
abbrev pub IsListed : ℕ → Node → List Root → Type 0
IsListed number node roots = ((number ≡ 0) × (roots ≡ []))
    ⊎ (((number ≡ 1) × (roots ≡ (Draft, node) ∷ [])) ⊎ ((number ≡ 2) × (roots ≡ (Secret, node) ∷ [])))

-- the line lists these roots
pub record Lists (roots : List Root) (line : List ℕ) : Type 0 where
  pub number : ℕ
  pub node : Node
  pub is_line : IsLine number node line
  pub listed : IsListed number node roots

-- the lines list these roots, in their order
abbrev pub AreSpelled : List Root → List (List ℕ) → Type 0
AreSpelled roots [] = roots ≡ []
AreSpelled roots (line ∷ lines) = (first : List Root) × (others : List Root) × Lists first line
    × AreSpelled others lines × (roots ≡ first ++ others)

-- the text spells these roots, line by line
abbrev pub IsSpelling : List Root → List ℕ → Type 0
IsSpelling roots text = AreSpelled roots (lines_of text)

-- the line has another form
abbrev pub IsNoLine : List ℕ → Type 0
IsNoLine line = (number : ℕ) (node : Node) → ¬ IsLine number node line

-- the line has the form, but another number than 0, 1 and 2
abbrev pub HasBadPhase : List ℕ → Type 0
HasBadPhase line = (number : ℕ) × (node : Node) × IsLine number node line × (2 < number)

-- the n-th line is so wrong, and the lines before it list roots; lines count from 1
pub record IsFirstWrong (IsWrong : List ℕ → Type 0) (text : List ℕ) (n : ℕ) : Type 0 where
  pub before : List (List ℕ)
  pub line : List ℕ
  pub after : List (List ℕ)
  pub lines : lines_of text ≡ before ++ line ∷ after
  pub roots : List Root
  pub spelled : AreSpelled roots before
  pub number : n ≡ length before + 1
  pub wrong : IsWrong line

-- this is the fault of the text; want of memory is none
abbrev pub IsRootsFault : List ℕ → RootsError → Type 0
IsRootsFault text (BadLine n) = IsFirstWrong IsNoLine text n
IsRootsFault text (BadPhase n) = IsFirstWrong HasBadPhase text n
IsRootsFault text NoMemory = ⊥
