use Rattle.std.proofs.Common.{◌≡◌, ◌++◌, ℕ, length, refl, ap₂, subst, ◌∙◌}
use Rattle.std.proofs.KnownBytes.{Appends-trans}
use Rattle.std.proofs.lemmas.Result.{on_ok_weaker}
use Rattle.hg_log.specs.Drawings.{IsLine}
use Rattle.hg_replica.specs.Change.{ChangeValue}
use Rattle.hg_preview.specs.Lines.{HasLinesOf}
use Rattle.hg_preview.specs.Answers.{IsCountsLine, IsTakenText, counts_text}
use Rattle.hg_preview.proofs.answer.write_taken.Goals as goal

pub returns : goal.returns
returns g c =
    let inside = c.change.inside in
    let change : ChangeValue = record {
      added = inside.added.items;
      lowered = inside.lowered.items;
      markers = inside.markers.items;
    } in
    let front = c.in_ok-line.line.items in
    let written = c.in_ok-write_line.ensures.written in
    let lowered = c.in_ok-write_lowered.ensures in
    let counted : c.push_counts.new.line.items ≡ front ++ counts_text (length change.added) (length change.markers) =
    c.in_ok-push_counts.ensures
    ∙ ap₂ (λ (m n : ℕ). front ++ counts_text m n) c.len.ensures.value c.len-2.ensures.value in
    let counts : IsCountsLine change written.0 = (front, subst (λ l. IsLine l written.0) counted written.1) in
    let lines : HasLinesOf change.lowered lowered.0 =
    subst (λ ns. HasLinesOf ns lowered.0) c.deref.ensures.value lowered.1 in
    on_ok_weaker c.write_kinds.result
    (λ kinds. (
      written.0 ++ (lowered.0 ++ kinds.0),
      subst (λ (k : ChangeValue). IsTakenText k c.args.turned.now (written.0 ++ (lowered.0 ++ kinds.0)))
          c.change.view_is
          (record {
            counts = written.0;
            lowered = lowered.0;
            kinds = kinds.0;
            of_counts = counts;
            of_lowered = lines;
            of_kinds = kinds.1;
            all = refl;
          }),
      Appends-trans _ _ _ written.0 (lowered.0 ++ kinds.0) written.2
          (Appends-trans _ _ _ lowered.0 kinds.0 lowered.2 kinds.2),
    ))
    c.write_kinds.ensures
