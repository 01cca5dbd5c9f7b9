use Rattle.std.proofs.Common.{List, Contains, IsTrue, ◌↔◌, inl, inr, true≢false, sym, subst, ◌∙◌}
use Rattle.hg_changeset.specs.declared.node.Node.{Node}
use Rattle.hg_instab.specs.Region.{IsOneNear}
use Rattle.hg_instab.proofs.near.names_near.Goals as goal

pub returns-then-has : goal.returns-then-has
returns-then-has c =
    let near = c.args.near.now.keys in (
      λ t. (
        c.predecessor.result,
        inl (sym c.predecessor.ensures.predecessor),
        c.has.ensures.0 t,
      ),
      λ h. c.if-has.true,
    )

pub returns-else-has : goal.returns-else-has
returns-else-has c =
    let near = c.args.near.now.keys in
    let one = subst (λ (ns : List Node). IsTrue c.is_one_near.result ↔ IsOneNear (Contains ns) near)
    c.successors.ensures c.is_one_near.ensures in (
      λ t. let x = one.0 t in (x.0, inr x.1, x.2),
      λ h. elim h.1 [
        | inl e ↦ absurd (true≢false (sym (c.has.ensures.1 (subst (Contains near)
            (sym (c.predecessor.ensures.predecessor ∙ e)) h.2)) ∙ c.if-has.false))
        | inr at ↦ one.1 (h.0, at, h.2)
      ],
    )
