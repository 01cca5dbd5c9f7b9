-- What is written of a script that was checked.
use Rattle.std.proofs.Common.{◌≡◌, ℕ, List, Bool, Option, true, false, count_by, inr, subst, sym, ap, ap₂, ◌∙◌}
use Rattle.std.specs.Io.KnownBytes.{Appends}
use Rattle.std.specs.declared.vec.Vec.{Vec}
use Rattle.std.specs.declared.alloc.Global.{Global}
use Rattle.std.specs.Str.Lines.{lines}
use Rattle.hg_expect.specs.declared.checking.Checked.{Checked}
use Rattle.hg_expect.specs.Expectations.{is_done, texts}
use Rattle.hg_expect.specs.Filled.{account, differing, filled_text, hunks, told}
use Rattle.hg_log.specs.Drawings.{Text}
use Rattle.hg_script.specs.ByLine.{PrintsEach}
use Rattle.hg_script.specs.Scripts.{IsScriptOf}
use Rattle.hgfleet.specs.declared.failure.Failure.{Failure}
use Rattle.hgfleet.specs.declared.failure.Failure.TheVariants as failed
use Rattle.hgfleet.specs.Checking.{EndsCheck, EndsWriting, IsCheck, PrintsScript, IsCheckWritten, told_of}

-- what was checked is the script whose lines print this
pub record IsOf (text : Text) (outputs : List Text) (checked : Checked) : Type 0 where
  pub in_text : checked.filled.items ≡ filled_text text outputs
  pub in_hunks : checked.hunks.items ≡ hunks 1 1 (lines text) outputs
  pub checks : checked.lines ≡ count_by is_done (lines text)
  pub differs : checked.differ ≡ differing 1 (lines text) outputs

-- what was read and printed, where it is seen
pub printed_of : (known : Option Text) (text seen : Text) (outputs shown : List (Vec ℕ Global)) → seen ≡ text
    → shown ≡ outputs → IsScriptOf known text → PrintsEach text (texts outputs) → PrintsScript known seen (texts shown)
printed_of known text seen outputs shown same alike script prints =
    subst (λ (t : Text). PrintsScript known t (texts shown)) (sym same)
    (subst (λ (os : List (Vec ℕ Global)). PrintsScript known text (texts os)) (sym alike) (script, prints))

-- it is told what the script is to be told of
tells : (text : Text) (outputs : List Text) (checked : Checked) → IsOf text outputs checked
    → told_of checked ≡ told text outputs
tells text outputs checked of_it =
    ap₂ (λ (n m : ℕ). account n m checked.hunks.items) of_it.checks of_it.differs
    ∙ ap (λ (t : Text). account (count_by is_done (lines text)) (differing 1 (lines text) outputs) t) of_it.in_hunks

pub check_done : (fills : Bool) (known held holds : Option Text) (text : Text) (outputs : List Text)
    (checked : Checked) → PrintsScript known text outputs → IsOf text outputs checked
    → IsCheckWritten fills checked held holds → IsCheck fills known held holds
check_done true known held holds text outputs checked printed of_it written =
    (text, outputs, printed, subst (λ (t : Text). Appends held holds t) of_it.in_text written)
check_done false known held holds text outputs checked printed of_it (none, written) = (
  text,
  outputs,
  printed,
  sym of_it.differs ∙ none,
  subst (λ (t : Text). Appends held holds t) (tells text outputs checked of_it) written,
)

pub check_ends : (fills : Bool) (known held holds : Option Text) (text : Text) (outputs : List Text)
    (checked : Checked) → PrintsScript known text outputs → IsOf text outputs checked → (failure : Failure)
    → EndsWriting fills checked held holds failure → EndsCheck fills known held holds failure
check_ends fills known held holds text outputs checked printed of_it (failed.Run fault) ends = inr ends
check_ends fills known held holds text outputs checked printed of_it (failed.Unmet count) (apart, is, some, written) = (
  apart,
  (
    text,
    outputs,
    printed,
    is ∙ of_it.differs,
    some,
    subst (λ (t : Text). Appends held holds t) (tells text outputs checked of_it) written,
  ),
)
check_ends fills known held holds text outputs checked printed of_it (failed.Noted noted) ends = absurd ends
check_ends fills known held holds text outputs checked printed of_it (failed.Refused count) ends = absurd ends
check_ends fills known held holds text outputs checked printed of_it (failed.Show fault) ends = absurd ends
check_ends fills known held holds text outputs checked printed of_it (failed.UnknownName name) ends = absurd ends
check_ends fills known held holds text outputs checked printed of_it (failed.UnknownNode name nodes) ends = absurd ends
check_ends fills known held holds text outputs checked printed of_it (failed.FewLines count) ends = absurd ends
check_ends fills known held holds text outputs checked printed of_it (failed.File name fault) ends = absurd ends
check_ends fills known held holds text outputs checked printed of_it (failed.NotTaken told) ends = absurd ends
check_ends fills known held holds text outputs checked printed of_it failed.Differ ends = absurd ends
check_ends fills known held holds text outputs checked printed of_it failed.OutputClosed ends = absurd ends
