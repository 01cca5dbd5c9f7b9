use Rattle.std.proofs.Common.{◌∷◌, [], ap, arith, length}
use Rattle.std.proofs.lemmas.List.{length-append, length-map}
use Rattle.std.specs.Str.Lines.{lines}
use Rattle.hg_expect.specs.Expectations.{marked, marked_line}
use Rattle.hg_expect.specs.Filled.{under}
use Rattle.hg_expect.proofs.FilledLemmas.{under-long}
use Rattle.hg_expect.proofs.filling.push_filled.Goals as goal

pub returns-clause-few : goal.returns-clause-few
returns-clause-few c =
    let line = c.args.line.now in
    let output = c.args.output.now in
    omega (
      arith,
      c.count_lines.ensures.count,
      length-map (lines output) marked_line,
      under-long [] (line ∷ []),
      under-long [] (marked output),
      ap length (c.in_ok-push_line.ensures),
      ap length (c.in_ok-push_marked.ensures),
      length-append c.args.out.now.items (under [] (line ∷ [])),
      length-append c.push_line.new.out.items (under [] (marked output)),
    )
