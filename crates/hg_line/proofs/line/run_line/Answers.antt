use Rattle.std.proofs.Common.{[], map, refl, sym, ap, ◌∙◌, inl, inr}
use Rattle.std.proofs.KnownBytes.{Appends-nil}
use Rattle.std.proofs.lemmas.Result.{err_from_is_err_and}
use Rattle.hg_line.specs.Commands.{Word}
use Rattle.hg_line.specs.Endings.{HasWords, Says}
use Rattle.hg_line.specs.Events.{no_trace}
use Rattle.hg_line.proofs.EndingLemmas.{command_ends, over_limit, words_fault}
use Rattle.hg_line.proofs.line.run_line.Goals as goal

pub returns-then-not-is_short-clause-stopped : goal.returns-then-not-is_short-clause-stopped
returns-then-not-is_short-clause-stopped g c = (refl, over_limit _ _ _ c.is_short.ensures.1 c.if-not-is_short.true)

pub returns-in_err-words-clause-stopped : goal.returns-in_err-words-clause-stopped
returns-in_err-words-clause-stopped g c =
    let p = err_from_is_err_and c.from_residual.result c.from_residual.ensures.1 in
    rw (p.1, p.2) (c.is_short.ensures.0 c.if-not-is_short.false, inl c.in_err-words.ensures.memory)

pub returns-in-Ok-None-clause-done : goal.returns-in-Ok-None-clause-done
returns-in-Ok-None-clause-done g c =
    let mapped = ap (map (λ (w : Word). w.now)) c.as_slice.ensures ∙ c.in_ok-words.ensures.words in
    let none = rw c.in-Ok-None.field-0-is at c.in-Ok-None.ensures in (
      no_trace,
      [],
      (c.is_short.ensures.0 c.if-not-is_short.false, (c.as_slice.result.now, mapped, inl (none, refl, refl))),
      inl (sym mapped ∙ ap (map (λ (w : Word). w.now)) none, refl),
      Appends-nil _,
      refl,
    )

pub returns-clause-done : goal.returns-clause-done
returns-clause-done g c =
    let short = c.is_short.ensures.0 c.if-not-is_short.false in
    let mapped = ap (map (λ (w : Word). w.now)) c.as_slice.ensures ∙ c.in_ok-words.ensures.words in
    let command = c.in-Ok-Some.command in
    let says = rw c.in-Ok-Some.field-0-is at c.in-Ok-Some.ensures in
    let d = c.in_ok-outcome.ensures.ok in (
      d.0,
      d.1,
      (short, (c.as_slice.result.now, mapped, inr (command, says, d.3))),
      inr (command, (c.as_slice.result.now, (short, mapped), says), d.4),
      d.5,
      d.2,
    )

pub returns-in-Err-clause-stopped : goal.returns-in-Err-clause-stopped
returns-in-Err-clause-stopped g c =
    let has : HasWords c.args.line.now c.as_slice.result.now = (
      c.is_short.ensures.0 c.if-not-is_short.false,
      ap (map (λ (w : Word). w.now)) c.as_slice.ensures
          ∙ c.in_ok-words.ensures.words,
    ) in
    (refl, words_fault _ _ c.as_slice.result.now _ has c.in-Err.ensures)

pub returns-in_err-outcome-clause-stopped : goal.returns-in_err-outcome-clause-stopped
returns-in_err-outcome-clause-stopped g c =
    let p = err_from_is_err_and c.from_residual-in_err-outcome.result c.from_residual-in_err-outcome.ensures.1 in
    let has : HasWords c.args.line.now c.as_slice.result.now = (
      c.is_short.ensures.0 c.if-not-is_short.false,
      ap (map (λ (w : Word). w.now)) c.as_slice.ensures
          ∙ c.in_ok-words.ensures.words,
    ) in
    let says : Says c.args.line.now c.in-Ok-Some.command =
    (c.as_slice.result.now, has, rw c.in-Ok-Some.field-0-is at c.in-Ok-Some.ensures) in
    rw (p.1, p.2) (command_ends _ _ _ c.in-Ok-Some.command _ says c.in_err-outcome.ensures.err.0)

pub returns-in_err-outcome-clause-unprinted : goal.returns-in_err-outcome-clause-unprinted
returns-in_err-outcome-clause-unprinted g c =
    let p = err_from_is_err_and c.from_residual-in_err-outcome.result c.from_residual-in_err-outcome.ensures.1 in
    rw (p.1, p.2) c.in_err-outcome.ensures.unprinted
