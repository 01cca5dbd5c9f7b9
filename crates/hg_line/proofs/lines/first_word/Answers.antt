use Rattle.std.proofs.Common.{rules, tests, ◌==◌, not, length}
use Rattle.std.proofs.lemmas.Iterator.Search.{find_from_yields_List}
use Rattle.std.proofs.lemmas.Iterator.Splits.{YieldsList-from_slice_split}
use Rattle.hg_line.proofs.lines.first_word.Goals as goal

pub returns : goal.returns
returns c =
    find_from_yields_List
    (λ word. not (length word == 0))
    _
    _
    c.find.result
    c.find.ensures.ran
    (YieldsList-from_slice_split _ _ c.args.line.now c.split.ensures.rest c.split.ensures.done c.split.ensures.closure
    (λ x r q k. search (rules, tests)))
    (λ x r q k. search (rules, tests))
