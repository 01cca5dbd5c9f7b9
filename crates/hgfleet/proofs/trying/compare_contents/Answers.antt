use Rattle.std.proofs.Common.{◌∙◌, Bool, Option, Some, ap, subst}
use Rattle.hg_preview.specs.Comparisons.{ComparesMessages}
use Rattle.hgfleet.proofs.trying.compare_contents.Goals as goal

pub returns-in-Some-true-clause-done : goal.returns-in-Some-true-clause-done
returns-in-Some-true-clause-done g c =
    let first = c.args.mine.now.bytes.now in
    let second = c.args.theirs.now.bytes.now in
    let P : Option Bool → Type 0 = ComparesMessages first second (g.W.Write.contents c.args.writer.now)
    (g.W.Write.contents c.compare_messages.new.writer) in
    let is = c.in-Some-true.is ∙ ap Some c.in-Some-true.field-0-test in
    (first, second, subst P is c.in_ok-compare_messages.ensures)

pub returns-in-Some-false-clause-failed : goal.returns-in-Some-false-clause-failed
returns-in-Some-false-clause-failed g c =
    let first = c.args.mine.now.bytes.now in
    let second = c.args.theirs.now.bytes.now in
    let P : Option Bool → Type 0 = ComparesMessages first second (g.W.Write.contents c.args.writer.now)
    (g.W.Write.contents c.compare_messages.new.writer) in
    let is = c.in-Some-false.is ∙ ap Some c.in-Some-false.field-0-test in
    (first, second, subst P is c.in_ok-compare_messages.ensures)
