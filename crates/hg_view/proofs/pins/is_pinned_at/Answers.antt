use Rattle.std.proofs.Common.{IsTrue, ◌↔◌, Contains, sym, subst, ◌∙◌}
use Rattle.std.proofs.lemmas.Option.{same_Some, none-some}
use Rattle.hg_changeset.specs.declared.node.Node.{Node}
use Rattle.hg_view.proofs.pins.is_pinned_at.Goals as goal

pub returns-in-Some : goal.returns-in-Some
returns-in-Some c = λ n at. subst (λ (m : Node). IsTrue c.is_pinned.result ↔ Contains c.args.pins.now m)
    (same_Some c.in-Some.node n (sym c.in-Some.is ∙ c.node_at.ensures ∙ at)) c.is_pinned.ensures

pub returns-in-None : goal.returns-in-None
returns-in-None c = λ n at. absurd (none-some n (sym c.in-None.is ∙ c.node_at.ensures ∙ at))
