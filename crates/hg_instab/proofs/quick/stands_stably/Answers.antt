use Rattle.std.proofs.Common.{List, Contains, inl, inr, sym, subst}
use Rattle.hg_changeset.specs.declared.node.Node.{Node}
use Rattle.hg_changeset.proofs.ListLemmas.{Contains-none}
use Rattle.hg_instab.proofs.QueryLemmas.{not_true}
use Rattle.hg_instab.proofs.TurnedLemmas.{now-none}
use Rattle.hg_instab.proofs.quick.stands_stably.Goals as goal

pub returns : goal.returns
returns c t = λ p parent unstable. not_true c.stands_on_unstable.result t (c.stands_on_unstable.ensures.1 (
  p,
  parent,
  elim unstable [
    | inl o ↦ inl o
    | inr o ↦ inr ((now-none c.orphan.result.now.keys c.new-none.result.keys p
        (λ x. Contains-none p (subst (λ ns. Contains ns p) c.new-none.ensures.empty x))).1
        (subst (λ (xs : List Node). Contains xs p) (sym c.orphan.ensures) o))
  ],
))
