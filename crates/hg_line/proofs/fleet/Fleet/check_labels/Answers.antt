use Rattle.std.proofs.Common.{Option, sym, subst, ◌∙◌}
use Rattle.hg_replica.specs.Least.{PartValue}
use Rattle.hg_line.specs.Endings.{IsDecided}
use Rattle.hg_line.specs.Lines.{ids}
use Rattle.hg_line.proofs.LabelLemmas.{free_unbound, free_made, taken_made}
use Rattle.hg_line.proofs.fleet.Fleet.check_labels.Goals as goal

pub returns-then-are_unbound-clause-free : goal.returns-then-are_unbound-clause-free
returns-then-are_unbound-clause-free c =
    free_unbound (ids c.args.self.now) c.args.labels.now c.args.kept.now c.args.op.now
    (c.in_ok-are_distinct.ensures.0 c.if-are_distinct.true) (sym c.are_unbound.ensures ∙ c.if-are_unbound.true)

pub returns-then-not-are_free-clause-err : goal.returns-then-not-are_free-clause-err
returns-then-not-are_free-clause-err c =
    let d = subst (λ (o : Option PartValue). IsDecided c.args.kept.now c.args.op.now o) c.in-Some.is
    c.in_ok-made.ensures.ok in
    taken_made (ids c.args.self.now) c.args.labels.now c.args.kept.now c.args.op.now c.in-Some.part
    c.in_ok-are_distinct.are_distinct c.in_ok-are_distinct.ensures d
    (sym c.are_free.ensures ∙ c.if-not-are_free.true)

pub returns-else-not-are_free-clause-free : goal.returns-else-not-are_free-clause-free
returns-else-not-are_free-clause-free c =
    let d = subst (λ (o : Option PartValue). IsDecided c.args.kept.now c.args.op.now o) c.in-Some.is
    c.in_ok-made.ensures.ok in
    free_made (ids c.args.self.now) c.args.labels.now c.args.kept.now c.args.op.now c.in-Some.part
    c.in_ok-are_distinct.are_distinct c.in_ok-are_distinct.ensures.0 d
    (sym c.are_free.ensures ∙ c.if-not-are_free.false)

pub returns-in-None-clause-free : goal.returns-in-None-clause-free
returns-in-None-clause-free c = λ part d.
    absurd (subst (λ (o : Option PartValue). IsDecided c.args.kept.now c.args.op.now o) c.in-None.is
    c.in_ok-made.ensures.ok part d)
