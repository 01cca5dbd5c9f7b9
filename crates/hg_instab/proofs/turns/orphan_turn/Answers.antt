use Rattle.std.proofs.Common.{List, Contains, sym, subst}
use Rattle.std.proofs.lemmas.Result.{IfOk-weaker}
use Rattle.hg_changeset.specs.declared.node.Node.{Node}
use Rattle.hg_instab.proofs.SetLemmas.{along}
use Rattle.hg_instab.proofs.turns.orphan_turn.Goals as goal

pub returns-clause-told : goal.returns-clause-told
returns-clause-told c = IfOk-weaker c.of.result _ _
    (λ turn then s change was v follows seeds was_obsolete is_obsolete orphans n. along (then n)
    (c.in_ok-turned-2.ensures s change v follows seeds
    (λ m not.
    let same = c.in_ok-turned.ensures was m
    (λ h. not (subst (λ (xs : List Node). Contains xs m) (sym c.deref.ensures.value) h)) in (
      λ h. (was_obsolete m).0 (same.0 ((is_obsolete m).1 h)),
      λ h. (is_obsolete m).0 (same.1 ((was_obsolete m).1 h)),
    ))
    orphans n)) c.of.ensures.then
