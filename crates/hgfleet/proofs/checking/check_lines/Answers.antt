use Rattle.std.proofs.Common.{Bool, IfErr, OnOk, subst, sym}
use Rattle.hgfleet.specs.Commands.{DoesCheck, EndsDoneCheck}
use Rattle.hgfleet.proofs.checking.check_lines.Goals as goal

pub returns-then-explains-clause-done : goal.returns-then-explains-clause-done
returns-then-explains-clause-done g c =
    subst (λ (explains : Bool). OnOk c.check_explained.result (DoesCheck explains c.args.fills
    (g.R.Read.remaining c.args.reader.now) (g.W.Write.contents c.args.writer.now)
    (g.W.Write.contents c.check_explained.new.writer) c.args.refusals.now.items
    c.check_explained.new.refusals.items)) (sym c.if-explains.true) c.check_explained.ensures.done

pub returns-then-explains-clause-failed : goal.returns-then-explains-clause-failed
returns-then-explains-clause-failed g c =
    subst (λ (explains : Bool). IfErr c.check_explained.result (EndsDoneCheck explains c.args.fills
    (g.R.Read.remaining c.args.reader.now) (g.W.Write.contents c.args.writer.now)
    (g.W.Write.contents c.check_explained.new.writer) c.args.refusals.now.items
    c.check_explained.new.refusals.items)) (sym c.if-explains.true) c.check_explained.ensures.failed

pub returns-else-explains-clause-done : goal.returns-else-explains-clause-done
returns-else-explains-clause-done g c =
    let text = c.args.refusals.now.items in
    subst (λ (explains : Bool). OnOk c.check_unexplained.result (DoesCheck explains c.args.fills
    (g.R.Read.remaining c.args.reader.now) (g.W.Write.contents c.args.writer.now)
    (g.W.Write.contents c.check_unexplained.new.writer) text text)) (sym c.if-explains.false)
    c.check_unexplained.ensures.done

pub returns-else-explains-clause-failed : goal.returns-else-explains-clause-failed
returns-else-explains-clause-failed g c =
    let text = c.args.refusals.now.items in
    subst (λ (explains : Bool). IfErr c.check_unexplained.result (EndsDoneCheck explains c.args.fills
    (g.R.Read.remaining c.args.reader.now) (g.W.Write.contents c.args.writer.now)
    (g.W.Write.contents c.check_unexplained.new.writer) text text)) (sym c.if-explains.false)
    c.check_unexplained.ensures.failed
