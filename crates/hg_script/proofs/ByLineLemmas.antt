-- Lines whose outputs are kept apart.
use Rattle.std.proofs.Common.{◌≡◌, ℕ, ◌+◌, List, [], ◌∷◌, ◌++◌, None, count_by, refl, sym, ap, subst, ◌∙◌}
use Rattle.std.specs.Str.Lines.{lines}
use Rattle.std.specs.declared.vec.Vec.{Vec}
use Rattle.std.specs.declared.alloc.Global.{Global}
use Rattle.std.proofs.lemmas.List.{append-nil, append_assoc, map-append}
use Rattle.hg_expect.specs.Expectations.{texts}
use Rattle.hg_line.specs.declared.fault.RunFault.{RunFault}
use Rattle.hg_line.specs.declared.fleet.Fleet.{Fleet}
use Rattle.hg_script.specs.ByLine.{PrintsEach, PrintsLines}
use Rattle.hg_line.specs.Commands.{Text}
use Rattle.hg_line.specs.Events.{Trace, no_trace, joined}
use Rattle.hg_line.specs.Printing.{PrintsLine, no_notes}
use Rattle.hg_line.specs.Lines.{DoesLine, IsNewFleet}
use Rattle.hg_script.specs.Scripts.{DoesLines}
use Rattle.hg_script.specs.Stops.{StopsAmong}
use Rattle.hg_line.specs.Words.{has_node}
use Rattle.hg_script.proofs.EndingLemmas.{stops_later}
use Rattle.hg_line.proofs.LineLemmas.{bare_line}
use Rattle.hg_script.proofs.ScriptLemmas.{Compose, does_lines_ran}

-- whatever the rest prints in the fleet as it is now, behind what was printed already, the whole text prints in the
-- fleet as it was, and so where it stops
pub record PrintsOn (start : Fleet) (all : List Text) (number : ℕ) (f : Fleet) (rest printed : List Text) : Type 0 where
  pub done : (t : Trace) (end : Fleet) (later : List Text) → PrintsLines number f rest t end later
      → (whole : Trace) × PrintsLines 1 start all whole end (printed ++ later)
  pub stopped : (fault : RunFault) → StopsAmong no_notes number f rest fault None None
      → StopsAmong no_notes 1 start all fault None None

pub prints_on-start : (start : Fleet) (all : List Text) (outputs : List (Vec ℕ Global)) → outputs ≡ []
    → PrintsOn start all 1 start all (texts outputs)
prints_on-start start all outputs none =
    subst (λ (os : List (Vec ℕ Global)). PrintsOn start all 1 start all (texts os)) (sym none)
    (record { done = λ t end later prints. (t, prints); stopped = λ fault s. s })

pub prints_on-more : (start : Fleet) (all : List Text) (number : ℕ) (f : Fleet) (rest printed : List Text)
    (line : Text) (more : List Text) (here : Trace) (mid : Fleet) (output : Text) (grown : List Text)
    → rest ≡ line ∷ more → DoesLine f line here mid → PrintsLine number f line here output
    → grown ≡ printed ++ output ∷ [] → PrintsOn start all number f rest printed
    → PrintsOn start all (number + 1) mid more grown
prints_on-more start all number f rest printed line more here mid output grown e does prints grew on = record {
  done = λ t end later prints_later.
      let d = on.done (joined here t) end (output ∷ later)
      (subst (λ (ls : List Text). PrintsLines number f ls (joined here t) end (output ∷ later)) (sym e)
      (mid, here, t, output, later, does, prints, prints_later, refl, refl)) in
      let same : printed ++ output ∷ later ≡ grown ++ later =
      sym (append_assoc printed (output ∷ []) later) ∙ ap (λ (os : List Text). os ++ later) (sym grew) in
      (d.0, subst (PrintsLines 1 start all d.0 end) same d.1);
  stopped = λ fault s. on.stopped fault
      (subst (λ (ls : List Text). StopsAmong no_notes number f ls fault None None) (sym e)
      (stops_later no_notes number f mid line more here output fault None None None
      (bare_line number f line here mid output does prints) tt s));
}

pub prints_on-end : (start : Fleet) (all : List Text) (number : ℕ) (f : Fleet) (rest printed : List Text)
    → rest ≡ [] → PrintsOn start all number f rest printed → (t : Trace) × PrintsLines 1 start all t f printed
prints_on-end start all number f rest printed none on =
    let d = on.done no_trace f []
    (subst (λ (ls : List Text). PrintsLines number f ls no_trace f []) (sym none) (refl, refl, refl)) in
    (d.0, subst (PrintsLines 1 start all d.0 f) (append-nil printed) d.1)

-- the outputs, with one more
pub texts-push : (old new : List (Vec ℕ Global)) (output : Vec ℕ Global) → new ≡ old ++ output ∷ []
    → texts new ≡ texts old ++ output.items ∷ []
texts-push old new output grew = ap texts grew ∙ map-append (λ (v : Vec ℕ Global). v.items) old (output ∷ [])

-- lines that print are done
does_printed : (number : ℕ) (old : Fleet) (ls : List Text) (t : Trace) (new : Fleet) (outputs : List Text)
    → PrintsLines number old ls t new outputs → DoesLines old ls t new
does_printed number old [] t new outputs (none, same, empty) = (none, same)
does_printed number old (line ∷ ls) t new outputs (mid, here, later, first, rest, does, prints, more, both, all) =
    (mid, here, later, does, does_printed (number + 1) mid ls later new rest more, both)

-- what the lines of a text print from a new fleet on, they print when it is run
pub prints_each : Compose → (text : Text) (start : Fleet) (t : Trace) (end : Fleet) (outputs : List Text)
    → IsNewFleet (count_by has_node (lines text)) start → PrintsLines 1 start (lines text) t end outputs
    → PrintsEach text outputs
prints_each compose text start t end outputs new prints =
    let did = does_printed 1 start (lines text) t end outputs prints in (
      end.world,
      record {
        start = start;
        is_new = new;
        trace = t;
        end = end;
        did = did;
        ended = refl;
        ran = does_lines_ran compose start (lines text) t end did;
      },
      prints,
    )
