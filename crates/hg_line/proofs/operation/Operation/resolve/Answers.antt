use Rattle.std.proofs.Common.{sym, subst, IfOk, IfErr}
use Rattle.hg_line.specs.declared.operation.Operation.{Operation}
use Rattle.hg_line.specs.Events.{IsOperation, IsUnresolved, old_labels}
use Rattle.hg_names.specs.Labels.{labelled}
use Rattle.hg_line.proofs.operation.Operation.resolve.Goals as goal

pub returns-in-Split-clause-ok : goal.returns-in-Split-clause-ok
returns-in-Split-clause-ok c =
    subst (λ (o : Operation). IfOk c.split.result (IsOperation (labelled c.args.names.now.labels.now) o))
    (sym c.in-Split.is) c.split.ensures.ok

pub returns-in-Fold-clause-ok : goal.returns-in-Fold-clause-ok
returns-in-Fold-clause-ok c =
    subst (λ (o : Operation). IfOk c.fold.result (IsOperation (labelled c.args.names.now.labels.now) o))
    (sym c.in-Fold.is) c.fold.ensures.ok

pub returns-in-Fold-clause-err : goal.returns-in-Fold-clause-err
returns-in-Fold-clause-err c =
    subst (λ (o : Operation). IfErr c.fold.result (IsUnresolved c.args.names.now (old_labels o))) (sym c.in-Fold.is)
    c.fold.ensures.err
