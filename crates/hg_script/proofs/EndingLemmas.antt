-- What ends a script: lines in order, and whole scripts.
use Rattle.std.proofs.Common.{◌≡◌, ◌⊎◌, inl, inr, ℕ, ◌+◌, ◌≤◌, ◌<◌, List, [], ◌∷◌, ◌++◌, length}
use Rattle.std.proofs.Common.{Option, Some, None, IfSome, IsErrOf}
use Rattle.std.proofs.Common.{Result, Ok, Err, IfOk, IfErr, refl, sym, ap, subst, ◌∙◌, arith, zero-add}
use Rattle.std.proofs.Common.{count_by, cond}
use Rattle.std.specs.Str.Lines.{lines}
use Rattle.std.proofs.KnownBytes.{Appends-nil, Appends-trans}
use Rattle.std.proofs.lemmas.List.{append_assoc}
use Rattle.std.proofs.lemmas.List.Sums.{sum_by-append}
use Rattle.hg_line.specs.declared.fault.LineFault.{LineFault}
use Rattle.hg_line.specs.declared.fault.RunFault.{RunFault}
use Rattle.hg_line.specs.declared.fault.RunFault.TheVariants.{Line, ScriptTooLong, Read, Write, NoMemory}
use Rattle.hg_line.specs.declared.fleet.Fleet.{Fleet}
use Rattle.hg_line.specs.declared.telling.Notes.{Notes}
use Rattle.hg_line.specs.Commands.{Text}
use Rattle.hg_line.specs.Endings.{IsOfLine}
use Rattle.hg_line.specs.Events.{Trace, PeerAnswer, no_trace, joined}
use Rattle.hg_line.specs.Events.{is_refusal, refusals}
use Rattle.hg_script.specs.Inputs.{IsInputFault}
use Rattle.hg_script.specs.Limits.{script_limit}
use Rattle.hg_line.specs.Outputs.{Grows, Printed}
use Rattle.hg_line.specs.Printing.{WritesLine}
use Rattle.hg_script.specs.Printing.{WritesLines}
use Rattle.hg_line.specs.Lines.{IsNewFleet}
use Rattle.hg_script.specs.Scripts.{IsLeftFleet, IsLeftWorld, IsScriptOf}
use Rattle.hg_line.specs.Stops.{StopsAt}
use Rattle.hg_script.specs.Stops.{IsStop, IsStoppedBy, IsUnbegun, StopsAmong}
use Rattle.hg_line.specs.Words.{has_node}

-- ---- lines in order

-- what a line wrote until it ended, which is nothing where its own fault ended it
own_more : (fault : RunFault) (held holds : Option Text) → (IsOfLine fault → holds ≡ held) → Grows held holds
    → (more : Text) × (IsOfLine fault → more ≡ []) × Printed held more holds
own_more (Line number fault) held holds stays grew =
    ([], λ own. refl, subst (λ (h : Option Text). Printed held [] h) (sym (stays tt)) (Appends-nil held))
own_more ScriptTooLong held holds stays (more, grew) = (more, λ own. absurd own, grew)
own_more Read held holds stays (more, grew) = (more, λ own. absurd own, grew)
own_more Write held holds stays (more, grew) = (more, λ own. absurd own, grew)
own_more NoMemory held holds stays (more, grew) = (more, λ own. absurd own, grew)

-- the line after those that were done ended the script
pub stops_here : (notes : Notes) (number : ℕ) (f : Fleet) (ls more : List Text) (line : Text) (fault : RunFault)
    (held holds : Option Text) → ls ≡ line ∷ more → StopsAt notes number f line fault
    → (IsOfLine fault → holds ≡ held) → Grows held holds → StopsAmong notes number f ls fault held holds
stops_here notes number f ls more line fault held holds e ends stays grew =
    let wrote = own_more fault held holds stays grew in
    record {
      before = [];
      line = line;
      after = more;
      divided = e;
      trace = no_trace;
      mid = f;
      output = [];
      did = (refl, refl, refl);
      ends = subst (λ (n : ℕ). StopsAt notes n f line fault) (sym (zero-add number)) ends;
      more = wrote.0;
      own = wrote.1;
      printed = wrote.2;
    }

-- one line more was done before
pub stops_later : (notes : Notes) (number : ℕ) (f mid : Fleet) (line : Text) (ls : List Text) (here : Trace)
    (first : Text)
    (fault : RunFault) (held between holds : Option Text) → WritesLine notes number f line here mid first
    → Printed held first between → StopsAmong notes (number + 1) mid ls fault between holds
    → StopsAmong notes number f (line ∷ ls) fault held holds
stops_later notes number f mid line ls here first fault held between holds wrote grew s =
    let count : length s.before + (number + 1) ≡ length (line ∷ s.before) + number = omega arith in
    record {
      before = line ∷ s.before;
      line = s.line;
      after = s.after;
      divided = ap (λ (xs : List Text). line ∷ xs) s.divided;
      trace = joined here s.trace;
      mid = s.mid;
      output = first ++ s.output;
      did = (mid, here, s.trace, first, s.output, wrote, s.did, refl, refl);
      ends = subst (λ (n : ℕ). StopsAt notes n s.mid s.line fault) count s.ends;
      more = s.more;
      own = s.own;
      printed = subst (λ (text : Text). Printed held text holds) (sym (append_assoc first s.output s.more))
          (Appends-trans held between holds first (s.output ++ s.more) grew s.printed);
    }

-- what is refused in two runs, one after the other, is what is refused in both
refusals_joined : (t u : Trace) → refusals (joined t u) ≡ refusals t + refusals u
refusals_joined t u = sum_by-append (λ (answer : PeerAnswer). cond (is_refusal answer) 1 0) t.answers u.answers

-- whatever the rest does to the fleet as it is now, behind what is written already and beside so many refusals, the
-- whole text does to the fleet as it was, and so where it stops
pub record GoesOn (notes : Notes) (start : Fleet) (all : List Text) (held : Option Text) (number : ℕ) (f : Fleet)
    (rest : List Text) (holding : Option Text) (refused : ℕ) : Type 0 where
  pub done : (t : Trace) (end : Fleet) (output : Text) (holds : Option Text)
      → WritesLines notes number f rest t end output → Printed holding output holds
      → (whole : Trace) × (text : Text) × WritesLines notes 1 start all whole end text × Printed held text holds
      × (refused + refusals t ≡ refusals whole)
  pub stopped : (fault : RunFault) (holds : Option Text) → StopsAmong notes number f rest fault holding holds
      → StopsAmong notes 1 start all fault held holds

pub goes_on-start : (notes : Notes) (start : Fleet) (all : List Text) (held : Option Text)
    → GoesOn notes start all held 1 start all held 0
goes_on-start notes start all held = record {
  done = λ t end output holds did grew. (t, output, did, grew, zero-add (refusals t));
  stopped = λ fault holds s. s;
}

pub goes_on-more : (notes : Notes) (start : Fleet) (all : List Text) (held : Option Text) (number : ℕ) (f : Fleet)
    (rest : List Text) (holding : Option Text) (line : Text) (more : List Text) (here : Trace) (mid : Fleet)
    (first : Text) (between : Option Text) (refused some : ℕ) → rest ≡ line ∷ more
    → WritesLine notes number f line here mid first → Printed holding first between → some ≡ refusals here
    → GoesOn notes start all held number f rest holding refused
    → GoesOn notes start all held (number + 1) mid more between (refused + some)
goes_on-more notes start all held number f rest holding line more here mid first between count n e wrote grew is g =
    record {
      done = λ t end output holds did rest_grew.
          let d = g.done (joined here t) end (first ++ output) holds
          (subst (λ (ls : List Text). WritesLines notes number f ls (joined here t) end (first ++ output)) (sym e)
          (mid, here, t, first, output, wrote, did, refl, refl))
          (Appends-trans holding between holds first output grew rest_grew) in
          let both = refusals_joined here t in
          (d.0, d.1, d.2, d.3, omega (arith, is, both, d.4));
      stopped = λ fault holds s. g.stopped fault holds
          (subst (λ (ls : List Text). StopsAmong notes number f ls fault holding holds) (sym e)
          (stops_later notes number f mid line more here first fault holding between holds wrote grew s));
    }

pub goes_on-end : (notes : Notes) (start : Fleet) (all : List Text) (held : Option Text) (number : ℕ) (f : Fleet)
    (rest : List Text) (holding : Option Text) (refused : ℕ) → rest ≡ []
    → GoesOn notes start all held number f rest holding refused
    → (t : Trace) × (text : Text) × WritesLines notes 1 start all t f text × Printed held text holding
    × (refused ≡ refusals t)
goes_on-end notes start all held number f rest holding refused none goes =
    let d = goes.done no_trace f [] holding
    (subst (λ (ls : List Text). WritesLines notes number f ls no_trace f []) (sym none) (refl, refl, refl))
    (Appends-nil holding) in
    let counted : refused + 0 ≡ refusals d.0 = d.4 in
    (d.0, d.1, d.2, d.3, omega (arith, counted))

-- ---- whole scripts

pub script_of : (known : Option Text) (items text : Text) → text ≡ items → length items ≤ script_limit
    → IfSome known (λ bytes. bytes ≡ items) → IsScriptOf known text
script_of None items text e limit whole = (subst (λ (t : Text). length t ≤ script_limit) (sym e) limit, tt)
script_of (Some bytes) items text e limit whole =
    (subst (λ (t : Text). length t ≤ script_limit) (sym e) limit, whole ∙ sym e)

-- what is so of the text that was read is so of the script
pub of_script : {T E : Type 0} (P : Text → T → Type 0) (known : Option Text) (text : Text) (r : Result T E)
    → IsScriptOf known text → IfOk r (P text) → IfOk r (λ x. (read : Text) × IsScriptOf known read × P read x)
of_script P known text (Ok x) script h = (text, script, h)
of_script P known text (Err e) script h = tt

-- the world of the fleet that a script leaves is the one that it leaves
pub left_world : (known : Option Text) (fleet : Fleet) → IsLeftFleet known fleet → IsLeftWorld known fleet.world
left_world known fleet (text, script, (run, e)) = (text, script, run)

-- what stopped the lines of a text, from a new fleet on, stopped the text
pub stopped_text : (notes : Notes) (text : Text) (start : Fleet) (fault : RunFault) (held holds : Option Text)
    → IsNewFleet (count_by has_node (lines text)) start → StopsAmong notes 1 start (lines text) fault held holds
    → IsStoppedBy notes text fault held holds
stopped_text notes text start fault held holds new stops = record { start = start; is_new = new; stops = stops }

-- what stopped the text that was read is what stopped the script
pub stop_of : (notes : Notes) (known : Option Text) (text : Text) (fault : RunFault) (held holds : Option Text)
    → IsScriptOf known text → IsUnbegun fault held holds ⊎ IsStoppedBy notes text fault held holds
    → IsStop notes known fault held holds
stop_of notes known text (Line number fault) held holds script (inl (e, same)) = absurd (cc)
stop_of notes known text (Line number fault) held holds script (inr h) = (text, script, h)
stop_of notes known text ScriptTooLong held holds script (inl (e, same)) = absurd (cc)
stop_of notes known text ScriptTooLong held holds script (inr h) = absurd h.stops.ends
stop_of notes known text Read held holds script (inl (e, same)) = absurd (cc)
stop_of notes known text Read held holds script (inr h) = absurd h.stops.ends
stop_of notes known text Write held holds script (inl (e, same)) = absurd (cc)
stop_of notes known text Write held holds script (inr h) = (text, script, h)
stop_of notes known text NoMemory held holds script (inl (e, same)) = inl same
stop_of notes known text NoMemory held holds script (inr h) = inr (text, script, h)

pub stops_of : {T E : Type 0} (notes : Notes) (fault_of : E → RunFault) (known : Option Text) (text : Text)
    (r : Result T E) (held holds : Option Text) → IsScriptOf known text
    → IfErr r (λ e. IsUnbegun (fault_of e) held holds ⊎ IsStoppedBy notes text (fault_of e) held holds)
    → IfErr r (λ e. IsStop notes known (fault_of e) held holds)
stops_of notes fault_of known text (Ok x) held holds script h = tt
stops_of notes fault_of known text (Err e) held holds script h =
    stop_of notes known text (fault_of e) held holds script h

not_line : (number : ℕ) (fault : LineFault) → IsInputFault (Line number fault) → ⊥
not_line number fault (inl e) = cc
not_line number fault (inr (inl e)) = cc
not_line number fault (inr (inr e)) = cc

not_write : IsInputFault Write → ⊥
not_write (inl e) = cc
not_write (inr (inl e)) = cc
not_write (inr (inr e)) = cc

-- a fault of the reading
pub input_stop : {T : Type 0} (notes : Notes) (known : Option Text) (fault : RunFault) (held : Option Text)
    → IsInputFault fault
    → (IsErrOf {T = T} (Err fault) ScriptTooLong → IfSome known (λ bytes. script_limit < length bytes))
    → IsStop notes known fault held held
input_stop notes known (Line number fault) held is long = absurd (not_line number fault is)
input_stop notes known ScriptTooLong held is long = (long refl, refl)
input_stop notes known Read held is long = refl
input_stop notes known Write held is long = absurd (not_write is)
input_stop notes known NoMemory held is long = inl refl
