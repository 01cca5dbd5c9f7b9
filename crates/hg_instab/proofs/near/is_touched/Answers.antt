use Rattle.std.proofs.Common.{IsTrue, ◌↔◌, inl, inr, true≢false, sym, subst, ◌∙◌}
use Rattle.hg_changeset.specs.declared.node.Node.{Node}
use Rattle.hg_instab.specs.Walk.{IsFork}
use Rattle.hg_instab.proofs.near.is_touched.Goals as goal

pub returns-then-is_fork : goal.returns-then-is_fork
returns-then-is_fork c =
    let fork = subst (λ (x : Node). IsTrue c.is_fork.result ↔ IsFork c.args.store.now x)
    c.predecessor.ensures.predecessor c.is_fork.ensures in
    (λ t. inl (fork.0 t), λ h. c.if-is_fork.true)

pub returns-else-is_fork : goal.returns-else-is_fork
returns-else-is_fork c =
    let fork = subst (λ (x : Node). IsTrue c.is_fork.result ↔ IsFork c.args.store.now x)
    c.predecessor.ensures.predecessor c.is_fork.ensures in (
      λ t. inr (c.names_near.ensures.0 t),
      λ h. elim h [
        | inl is ↦ absurd (true≢false (sym (fork.1 is) ∙ c.if-is_fork.false))
        | inr named ↦ c.names_near.ensures.1 named
      ],
    )
