-- Whole scripts as one run.
use Rattle.std.proofs.Common.{◌≡◌, ℕ, ◌+◌, List, [], ◌∷◌, Option}
use Rattle.std.proofs.Common.{count_by}
use Rattle.std.proofs.Common.{refl, sym, ap, subst}
use Rattle.std.specs.Str.Lines.{lines}
use mathlib.Core.Logic.{⊎_elim}
use Rattle.hg_view.specs.Kept.{KeptValue}
use Rattle.hg_world.specs.Runs.{Snapshot}
use Rattle.hg_line.specs.declared.fleet.Fleet.{Fleet}
use Rattle.hg_line.specs.declared.telling.Notes.{Notes}
use Rattle.hg_line.specs.Commands.{Text, Word}
use Rattle.hg_line.specs.Events.{Trace, joined, Ran, refusals}
use Rattle.hg_line.specs.Outputs.{Printed}
use Rattle.hg_script.specs.Printing.{WritesLines, WritesRun}
use Rattle.hg_line.specs.Lines.{DoesWords, IsNewFleet}
use Rattle.hg_script.specs.Scripts.{DoesLines, IsRunTo}
use Rattle.hg_line.specs.Words.{has_node}

-- two runs, one after the other, are one
abbrev pub Compose : Type 0
Compose = (old mid new : Snapshot KeptValue) (t u : Trace) → Ran old t mid → Ran mid u new → Ran old (joined t u) new

does_words_ran : (old : Fleet) (words : List Word) (t : Trace) (new : Fleet) → DoesWords old words t new
    → Ran old.world t new.world
does_words_ran old words t new h =
    ⊎_elim
    (λ same. subst (λ u. Ran old.world u new.world) (sym same.1) (ap (λ f. f.world) same.2))
    (λ done. done.2.ran)
    h

-- all that the lines of a script do is one run of the world
pub does_lines_ran : Compose → (old : Fleet) (lines : List Text) (t : Trace) (new : Fleet) → DoesLines old lines t new
    → Ran old.world t new.world
does_lines_ran compose old [] t new h = subst (λ u. Ran old.world u new.world) (sym h.0) (ap (λ f. f.world) h.1)
does_lines_ran compose old (line ∷ lines) t new (mid, here, later, did, more, e) =
    subst
    (λ u. Ran old.world u new.world)
    (sym e)
    (compose old.world mid.world new.world here later (does_words_ran old did.1.0 here mid did.1.2)
    (does_lines_ran compose mid lines later new more))

-- lines that are written are done
pub does_written : (notes : Notes) (number : ℕ) (old : Fleet) (ls : List Text) (t : Trace) (new : Fleet) (text : Text)
    → WritesLines notes number old ls t new text → DoesLines old ls t new
does_written notes number old [] t new text h = (h.0, h.1)
does_written notes number old (line ∷ ls) t new text (mid, here, later, first, rest, wrote, more, e, same) =
    (mid, here, later, wrote.0, does_written notes (number + 1) mid ls later new rest more, e)

-- the lines of a script, done from a new fleet on, are a run that leaves the last fleet
pub run_to : Compose → (notes : Notes) (text : Text) (start : Fleet) (t : Trace) (end : Fleet) (output : Text)
    → IsNewFleet (count_by has_node (lines text)) start → WritesLines notes 1 start (lines text) t end output
    → IsRunTo text end
run_to compose notes text start t end output new writes =
    let did = does_written notes 1 start (lines text) t end output writes in (
      record {
        start = start;
        is_new = new;
        trace = t;
        end = end;
        did = did;
        ended = refl;
        ran = does_lines_ran compose start (lines text) t end did;
      },
      refl,
    )

-- what is written of them is what is written of that run
pub written_run : Compose → (notes : Notes) (text : Text) (start : Fleet) (t : Trace) (end : Fleet) (output : Text)
    (held holds : Option Text) → IsNewFleet (count_by has_node (lines text)) start
    → WritesLines notes 1 start (lines text) t end output → Printed held output holds
    → WritesRun notes text end.world held holds
unfolding run_to
written_run compose notes text start t end output held holds new writes grew = record {
  run = (run_to compose notes text start t end output new writes).0;
  output = output;
  writes = writes;
  printed = grew;
}

-- and so many of its events were refused
pub counted_run : (compose : Compose) (notes : Notes) (text : Text) (start : Fleet) (t : Trace) (end : Fleet)
    (output : Text) (held holds : Option Text) (refused : ℕ) → IsNewFleet (count_by has_node (lines text)) start
    → WritesLines notes 1 start (lines text) t end output → Printed held output holds → refused ≡ refusals t
    → (written : WritesRun notes text end.world held holds) × (refused ≡ refusals written.run.trace)
unfolding run_to written_run
counted_run compose notes text start t end output held holds refused new writes grew counted =
    (written_run compose notes text start t end output held holds new writes grew, counted)
