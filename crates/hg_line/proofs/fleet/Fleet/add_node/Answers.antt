use Rattle.std.proofs.Common.{ℕ, refl, sym, ap, subst, ◌∙◌, is_some, Option}
use Rattle.std.proofs.lemmas.Result.{err_from_is_err_and}
use Rattle.hg_line.specs.Events.{no_trace}
use Rattle.hg_names.specs.Names.{Binds}
use Rattle.hg_line.proofs.NameLemmas.{unbound}
use Rattle.hg_line.proofs.fleet.Fleet.add_node.Goals as goal

pub returns-then-is_some-clause-err : goal.returns-then-is_some-clause-err
returns-then-is_some-clause-err c = (
  ap (λ (o : Option ℕ). is_some o) (sym c.bound.ensures) ∙ sym c.is_some.ensures ∙ c.if-is_some.true,
  (no_trace, refl),
)

pub returns-in_err-bind-clause-err : goal.returns-in_err-bind-clause-err
returns-in_err-bind-clause-err c =
    let p = err_from_is_err_and c.from_residual.result c.from_residual.ensures.1 in
    let free = sym c.bound.ensures ∙ unbound c.bound.result (sym c.is_some.ensures ∙ c.if-is_some.false) in
    rw (p.1, p.2) (free, (no_trace, refl))

pub returns-clause-ok : goal.returns-clause-ok
returns-clause-ok c =
    let old = c.args.self.now in
    let taken = unbound c.bound.result (sym c.is_some.ensures ∙ c.if-is_some.false) in
    let binds = subst (λ (n : ℕ). Binds old.nodes c.args.at.now n c.bind.new.names) c.len-place.ensures.len
    c.in_ok-bind.ensures.bound in (
      no_trace,
      refl,
      record { asked = refl; ran = refl; printed = tt; named = (sym c.bound.ensures ∙ taken, binds, refl, refl) },
    )
