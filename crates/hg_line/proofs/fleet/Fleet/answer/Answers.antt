use Rattle.std.proofs.Common.{refl}
use Rattle.hg_line.specs.declared.command.Command.TheVariants as command
use Rattle.hg_line.proofs.EndingLemmas.{left_unchanged, on_err_always}
use Rattle.hg_line.proofs.GrowLemmas.{grows_stays}
use Rattle.hg_line.proofs.LineLemmas.{quiet}
use Rattle.hg_line.proofs.fleet.Fleet.answer.Goals as goal

pub returns-in-Node-clause-ok : goal.returns-in-Node-clause-ok
returns-in-Node-clause-ok g c =
    rw c.in-Node.is (quiet c.args.self.now (command.Node c.in-Node.at) c.add_node.new.self _
    c.add_node.result (λ t. refl) c.add_node.ensures.ok)

pub returns-in-Operation-clause-ok : goal.returns-in-Operation-clause-ok
returns-in-Operation-clause-ok g c =
    rw c.in-Operation.is (quiet c.args.self.now (command.Operation c.in-Operation.at c.in-Operation.operation)
    c.operate.new.self _ c.operate.result (λ t. refl) c.operate.ensures.ok)

pub returns-in-Mark-clause-ok : goal.returns-in-Mark-clause-ok
returns-in-Mark-clause-ok g c =
    rw c.in-Mark.is (quiet c.args.self.now (command.Mark c.in-Mark.at c.in-Mark.marking) c.mark.new.self _
    c.mark.result (λ t. refl) c.mark.ensures.ok)

pub returns-in-Offer-clause-ok : goal.returns-in-Offer-clause-ok
returns-in-Offer-clause-ok g c =
    rw c.in-Offer.is (quiet c.args.self.now
    (command.Offer c.in-Offer.scope c.in-Offer.at c.in-Offer.message c.in-Offer.labels) c.keep_offer.new.self _
    c.keep_offer.result (λ t. refl) c.keep_offer.ensures.ok)

pub returns-in-Take-clause-ok : goal.returns-in-Take-clause-ok
returns-in-Take-clause-ok g c =
    rw c.in-Take.is (quiet c.args.self.now (command.Take c.in-Take.at c.in-Take.message) c.take.new.self _
    c.take.result (λ t. refl) c.take.ensures.ok)

pub returns-in-Pull-clause-ok : goal.returns-in-Pull-clause-ok
returns-in-Pull-clause-ok g c =
    rw c.in-Pull.is (quiet c.args.self.now (command.Pull c.in-Pull.scope c.in-Pull.to c.in-Pull.from) c.pull.new.self _
    c.pull.result (λ t. refl) c.pull.ensures.ok)

pub returns-in-Report-clause-ok : goal.returns-in-Report-clause-ok
returns-in-Report-clause-ok g c = rw c.in-Report.is c.report.ensures.ok

pub returns-in-Report-clause-err : goal.returns-in-Report-clause-err
returns-in-Report-clause-err g c =
    rw c.in-Report.is (left_unchanged c.args.self.now (command.Report c.in-Report.at) c.report.result
    c.report.ensures.err)

pub returns-in-Agree-clause-ok : goal.returns-in-Agree-clause-ok
returns-in-Agree-clause-ok g c = rw c.in-Agree.is c.agree.ensures.ok

pub returns-in-Agree-clause-err : goal.returns-in-Agree-clause-err
returns-in-Agree-clause-err g c =
    rw c.in-Agree.is (left_unchanged c.args.self.now (command.Agree c.in-Agree.one c.in-Agree.other) c.agree.result
    c.agree.ensures.err)

pub returns-in-Node-clause-grows : goal.returns-in-Node-clause-grows
returns-in-Node-clause-grows g c = on_err_always c.add_node.result (grows_stays _)

pub returns-in-Operation-clause-grows : goal.returns-in-Operation-clause-grows
returns-in-Operation-clause-grows g c = on_err_always c.operate.result (grows_stays _)

pub returns-in-Mark-clause-grows : goal.returns-in-Mark-clause-grows
returns-in-Mark-clause-grows g c = on_err_always c.mark.result (grows_stays _)

pub returns-in-Offer-clause-grows : goal.returns-in-Offer-clause-grows
returns-in-Offer-clause-grows g c = on_err_always c.keep_offer.result (grows_stays _)

pub returns-in-Take-clause-grows : goal.returns-in-Take-clause-grows
returns-in-Take-clause-grows g c = on_err_always c.take.result (grows_stays _)

pub returns-in-Pull-clause-grows : goal.returns-in-Pull-clause-grows
returns-in-Pull-clause-grows g c = on_err_always c.pull.result (grows_stays _)

pub returns-in-Offer-clause-err : goal.returns-in-Offer-clause-err
returns-in-Offer-clause-err g c = rw c.in-Offer.is c.keep_offer.ensures.err
