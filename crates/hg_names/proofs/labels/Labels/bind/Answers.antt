use Rattle.std.proofs.Common.{nat_eq, eqb-true, sym}
use Rattle.std.proofs.lemmas.Bool.{false_from_ne_true}
use Rattle.indexmap.specs.IndexMap.{get}
use Rattle.hg_names.specs.Labels.{text_value}
use Rattle.hg_names.proofs.DigitLemmas.{bound_key}
use Rattle.hg_names.proofs.labels.Labels.bind.Goals as goal

pub returns-in_ok-insert-in-Some-clause-bound : goal.returns-in_ok-insert-in-Some-clause-bound
returns-in_ok-insert-in-Some-clause-bound c =
    let updates = c.in_ok-insert-in-Some.ensures.updates in
    bound_key (get nat_eq c.args.self.now.short) (get nat_eq c.insert.new.self)
    (text_value c.args.self.now.long) c.args.label.now c.args.node c.in-Some.key c.in-Some.ensures (record {
      here = updates.1;
      others = λ other apart. updates.2 other
          (false_from_ne_true (nat_eq c.in-Some.key other) (λ h. apart (sym (eqb-true c.in-Some.key other h))));
    })
