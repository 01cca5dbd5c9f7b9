use Rattle.std.proofs.Common.{length, sym, ◌∙◌}
use Rattle.std.proofs.KnownBytes.{Appends-nil}
use Rattle.std.proofs.lemmas.Bool.{eqb-true}
use Rattle.std.proofs.lemmas.List.{nil_from_length}
use Rattle.hg_line.proofs.EndingLemmas.{not_nil}
use Rattle.hg_line.proofs.telling.write_text.Goals as goal

pub returns-then-is_empty-clause-written : goal.returns-then-is_empty-clause-written
returns-then-is_empty-clause-written g c =
    let text = c.args.text.now in
    rw (nil_from_length text (eqb-true (length text) 0 (sym c.is_empty.ensures ∙ c.if-is_empty.true)))
    (Appends-nil (g.W.Write.contents c.args.writer.now))

pub returns-in-Err-clause-some : goal.returns-in-Err-clause-some
returns-in-Err-clause-some g c = not_nil c.args.text.now (sym c.is_empty.ensures ∙ c.if-is_empty.false)
