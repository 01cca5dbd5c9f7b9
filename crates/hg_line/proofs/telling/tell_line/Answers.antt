use Rattle.std.proofs.Common.{refl, sym, ap, ◌∙◌, inl, map, length, []}
use Rattle.std.proofs.KnownBytes.{Appends-nil}
use Rattle.std.proofs.lemmas.Bool.{eqb-true}
use Rattle.std.proofs.lemmas.List.{nil_from_length}
use Rattle.std.proofs.lemmas.Result.{err_from_is_err_and}
use Rattle.hg_line.specs.Commands.{Word}
use Rattle.hg_line.specs.Events.{no_trace}
use Rattle.hg_line.proofs.EndingLemmas.{not_nil, over_limit}
use Rattle.hg_line.proofs.LineLemmas.{wordless_line}
use Rattle.hg_line.proofs.telling.tell_line.Goals as goal

pub returns-then-not-is_short-clause-stopped : goal.returns-then-not-is_short-clause-stopped
returns-then-not-is_short-clause-stopped g c =
    rw c.from.ensures (refl, over_limit _ _ _ c.is_short.ensures.1 c.if-not-is_short.true)

pub returns-in_err-words-clause-stopped : goal.returns-in_err-words-clause-stopped
returns-in_err-words-clause-stopped g c =
    let p = err_from_is_err_and c.from_residual.result c.from_residual.ensures.1 in
    rw (p.1, p.2) (c.is_short.ensures.0 c.if-not-is_short.false, inl c.in_err-words.ensures.memory)

pub tell_words-requires-clause-has : goal.tell_words-requires-clause-has
tell_words-requires-clause-has g c = (
  c.is_short.ensures.0 c.if-not-is_short.false,
  ap (map (λ (w : Word). w.now)) c.as_slice-words.ensures ∙ c.in_ok-words.ensures.words,
)

pub tell_words-requires-clause-some : goal.tell_words-requires-clause-some
tell_words-requires-clause-some g c =
    not_nil c.as_slice-words.result.now (sym c.is_empty.ensures ∙ c.if-is_empty.false)

pub returns-then-is_empty-clause-done : goal.returns-then-is_empty-clause-done
returns-then-is_empty-clause-done g c =
    let words = c.as_slice-words.result.now in
    let mapped = ap (map (λ (w : Word). w.now)) c.as_slice-words.ensures ∙ c.in_ok-words.ensures.words in
    let none = nil_from_length words (eqb-true (length words) 0 (sym c.is_empty.ensures ∙ c.if-is_empty.true)) in (
      no_trace,
      [],
      wordless_line _ _ _ _ words (c.is_short.ensures.0 c.if-not-is_short.false) mapped none,
      Appends-nil _,
      refl,
    )
