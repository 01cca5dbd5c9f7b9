-- What a text of roots says.
use Rattle.std.specs.Prelude.{◌≡◌, ℕ, ◌+◌, ◌==◌, List, [], ◌∷◌, length, take, drop, position, Bool, ◌&&◌, nat_le}
use Rattle.std.specs.Prelude.{Option, Some, None, Result, Ok, Err, if◌then◌else◌}
use Rattle.std.specs.List.{list_all}
use Rattle.std.specs.Result.{result_ok}
use Rattle.std.specs.Str.Parse.{digits_value}
use Rattle.hg_changeset.specs.declared.node.Node.{Node}
use Rattle.hg_changeset.specs.Bytes.{space}
use Rattle.hg_changeset.specs.Node.{node_of_hex}
use Rattle.hg_phases.specs.declared.phase.Phase.{Phase}
use Rattle.hg_phases.specs.declared.phase.Phase.TheVariants.{Draft, Secret}
use Rattle.hg_phaseroots.specs.declared.error.RootsError.{RootsError}
use Rattle.hg_phaseroots.specs.declared.error.RootsError.TheVariants.{BadLine, BadPhase, NoMemory}
use Rattle.hg_phaseroots.specs.Lines.{lines_of}

abbrev pub Root : Type 0
Root = Phase × Node

abbrev pub is_space : ℕ → Bool
is_space b = b == space

-- the decimal digits are the bytes from 48 to 57
abbrev pub is_decimal : ℕ → Bool
is_decimal b = nat_le 48 b && nat_le b 57

-- the number that one to nine decimal digits write
abbrev pub number_of : List ℕ → Option ℕ
number_of digits = if nat_le 1 (length digits) && nat_le (length digits) 9 && list_all is_decimal digits then Some
    (digits_value 10 digits) else None

-- the root of a phase's number and a node; public, 0, is no root
abbrev pub root_of : ℕ → ℕ → Node → Result (Option Root) RootsError
root_of n number node =
    if number == 0 then Ok None
    else if number == 1 then Ok (Some (Draft, node))
    else if number == 2 then Ok (Some (Secret, node))
    else Err (BadPhase n)

-- the form of the line comes before its phase
abbrev pub root_from : ℕ → Option ℕ → Option Node → Result (Option Root) RootsError
root_from n (Some number) (Some node) = root_of n number node
root_from n (Some number) None = Err (BadLine n)
root_from n None _ = Err (BadLine n)

-- the number stands before the first space, and the id after it
abbrev pub root_around : ℕ → List ℕ → Option ℕ → Result (Option Root) RootsError
root_around n line None = Err (BadLine n)
root_around n line (Some i) = root_from n (number_of (take i line)) (result_ok (node_of_hex (drop (i + 1) line)))

-- what the n-th line says
unfoldable pub root_in : ℕ → List ℕ → Result (Option Root) RootsError
root_in n line = root_around n line (position is_space line)

-- what a line says, and then what the lines after it say: the first fault, or all roots in their order
abbrev pub then_roots : Result (Option Root) RootsError → Result (List Root) RootsError → Result (List Root) RootsError
then_roots (Err e) after = Err e
then_roots (Ok None) after = after
then_roots (Ok (Some root)) (Err e) = Err e
then_roots (Ok (Some root)) (Ok roots) = Ok (root ∷ roots)

-- what the lines say, of which the first is the n-th
abbrev pub roots_in : ℕ → List (List ℕ) → Result (List Root) RootsError
roots_in n [] = Ok []
roots_in n (line ∷ lines) = then_roots (root_in n line) (roots_in (n + 1) lines)

-- what the text says, or the first line at fault; lines count from 1
abbrev pub roots_of : List ℕ → Result (List Root) RootsError
roots_of text = roots_in 1 (lines_of text)

-- the text was read, or its fault was met; memory can be wanting only for roots that are there
abbrev pub IsReading : List ℕ → Result (List Root) RootsError → Type 0
IsReading text (Ok roots) = roots_of text ≡ Ok roots
IsReading text (Err (BadLine n)) = roots_of text ≡ Err (BadLine n)
IsReading text (Err (BadPhase n)) = roots_of text ≡ Err (BadPhase n)
IsReading text (Err NoMemory) = (roots : List Root) × (roots_of text ≡ Ok roots)
