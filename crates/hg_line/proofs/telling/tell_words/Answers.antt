use Rattle.std.proofs.Common.{count_by, inr, subst, ap, ◌∙◌}
use Rattle.std.proofs.lemmas.Result.{err_from_is_err_and}
use Rattle.hg_line.specs.Endings.{IsOfLine}
use Rattle.hg_line.specs.Events.{is_refusal}
use Rattle.hg_line.proofs.EndingLemmas.{done_ends, some_words, text_own, text_stops, wanting_ends}
use Rattle.hg_line.proofs.telling.tell_words.Goals as goal

pub returns-in_err-before-clause-stopped : goal.returns-in_err-before-clause-stopped
returns-in_err-before-clause-stopped g c =
    let p = err_from_is_err_and c.from_residual.result c.from_residual.ensures.1 in
    rw (p.1, p.2) (wanting_ends c.args.number c.args.fleet.now c.args.line.now c.args.words.now c.requires.has
    c.in_err-before.ensures)

pub returns-in_err-push_notes-in-Ok-clause-stopped : goal.returns-in_err-push_notes-in-Ok-clause-stopped
returns-in_err-push_notes-in-Ok-clause-stopped g c =
    let p = err_from_is_err_and c.from_residual-in_err-push_notes-in-Ok.result
    c.from_residual-in_err-push_notes-in-Ok.ensures.1 in
    let (t, text, does, prints, shows, is) = c.in-Ok.ensures.done in
    rw (p.1, p.2) (done_ends c.args.number c.args.fleet.now c.args.line.now t c.show_line.new.fleet
    (some_words c.args.line.now c.args.words.now c.requires.has c.requires.some) does)

pub returns-in_err-write_text-in-Ok-clause-stopped : goal.returns-in_err-write_text-in-Ok-clause-stopped
returns-in_err-write_text-in-Ok-clause-stopped g c =
    let p = err_from_is_err_and c.from_residual-in_err-write_text-in-Ok.result
    c.from_residual-in_err-write_text-in-Ok.ensures.1 in
    let (t, text, does, prints, shows, is) = c.in-Ok.ensures.done in
    rw (p.1, p.2, c.in_err-write_text-in-Ok.ensures.err) (inr (
      t,
      c.show_line.new.fleet,
      c.push_notes.new.text.items,
      (does, (c.show_line.new.text.items, shows, c.in_ok-push_notes-in-Ok.ensures)),
      λ empty. c.in_err-write_text-in-Ok.ensures.some (c.deref.ensures.value ∙ empty),
    ))

pub returns-in_err-write_text-in-Ok-clause-unwritten : goal.returns-in_err-write_text-in-Ok-clause-unwritten
returns-in_err-write_text-in-Ok-clause-unwritten g c =
    let p = err_from_is_err_and c.from_residual-in_err-write_text-in-Ok.result
    c.from_residual-in_err-write_text-in-Ok.ensures.1 in
    rw (p.1, p.2, c.in_err-write_text-in-Ok.ensures.err) (λ own. absurd own)

pub returns-in_ok-write_text-in-Ok-clause-done : goal.returns-in_ok-write_text-in-Ok-clause-done
returns-in_ok-write_text-in-Ok-clause-done g c =
    let (t, output, does, prints, shows, is) = c.in-Ok.ensures.done in (
      t,
      c.push_notes.new.text.items,
      (does, (c.show_line.new.text.items, shows, c.in_ok-push_notes-in-Ok.ensures)),
      rw (← c.deref.ensures.value) c.in_ok-write_text-in-Ok.ensures.written,
      c.refusals.ensures.count ∙ ap (count_by is_refusal) is,
    )

pub returns-in-Err-clause-stopped : goal.returns-in-Err-clause-stopped
returns-in-Err-clause-stopped g c =
    rw (c.blamed.ensures, c.in_text.ensures) (text_stops c.args.notes c.args.number c.args.fleet.now c.args.line.now
    c.in-Err.fault c.in-Err.ensures.stopped)

pub returns-in-Err-clause-unwritten : goal.returns-in-Err-clause-unwritten
returns-in-Err-clause-unwritten g c = λ own.
    let own_text = subst IsOfLine (c.blamed.ensures ∙ c.in_text.ensures) own in
    c.keep_printed.ensures.stays (c.deref-in-Err.ensures.value ∙ c.in-Err.ensures.unshown (text_own _ own_text))
