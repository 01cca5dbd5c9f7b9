use Rattle.std.proofs.Common.{ℕ, Option, List, ◌∙◌, subst}
use Rattle.std.specs.Io.KnownBytes.{Appends}
use Rattle.hg_race.specs.Lines.{race_lines}
use Rattle.hg_race.specs.Pairs.{IsOfPairs}
use Rattle.hg_race.proofs.race.run_race.Goals as goal

pub returns-clause-printed : goal.returns-clause-printed
returns-clause-printed g c =
    let before : Option (List ℕ) = g.W.Write.contents c.args.writer.now in
    let after : Option (List ℕ) = g.W.Write.contents c.print_result.new.writer in
    let written : ℕ = c.all_counts-counts.result.written in
    let read_back : ℕ = c.all_counts-counts.result.read_back in
    let agreeing : ℕ = c.in_ok-count_agreeing.field-0 in
    let lines : ℕ → ℕ → List ℕ = λ nodes rounds. race_lines nodes rounds written read_back agreeing in (
      written,
      read_back,
      agreeing,
      subst (λ (n : ℕ). IsOfPairs n agreeing) (c.in_ok-outcomes.ensures ∙ c.in_ok-ring.ensures)
          c.in_ok-count_agreeing.ensures,
      subst (λ (n : ℕ). Appends before after (lines n c.args.rounds)) c.from.ensures
          (subst (λ (m : ℕ). Appends before after (lines c.from.result m)) c.from-2.ensures
          c.in_ok-print_result.ensures.printed),
    )
