use Rattle.std.proofs.Common.{◌∙◌, sym}
use Rattle.hg_log.proofs.TitleLemmas.{none_behind}
use Rattle.hg_log.proofs.titles.behind_empty_line.Goals as goal

pub returns : goal.returns
returns c =
    sym (c.loop-index.invariant.1 ∙ none_behind c.args.text.now c.loop-index.index c.loop-index-test.false)
