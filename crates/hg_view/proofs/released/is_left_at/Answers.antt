use Rattle.std.proofs.Common.{true≢false, sym, subst, ◌∙◌}
use Rattle.std.proofs.lemmas.Option.{same_Some, none-some}
use Rattle.hg_graph.specs.Places.{IsAt}
use Rattle.hg_view.specs.Released.{IsLeft}
use Rattle.hg_view.proofs.released.is_left_at.Goals as goal

pub returns-in-Some : goal.returns-in-Some
returns-in-Some c =
    let node = c.in-Some.node in
    let at : IsAt c.args.graph.now node c.args.place = sym c.node_at.ensures ∙ c.in-Some.is in (
      λ t. (node, at, c.is_left.ensures.0 t),
      λ h. c.is_left.ensures.1 (subst (IsLeft c.args.upheld.now.keys c.args.gone.now.keys)
          (same_Some h.0 node (sym h.1 ∙ at)) h.2),
    )

pub returns-in-None : goal.returns-in-None
returns-in-None c = (
  λ t. absurd (true≢false (sym t)),
  λ h. absurd (none-some h.0 (sym c.in-None.is ∙ c.node_at.ensures ∙ h.1)),
)
