use Rattle.std.proofs.Common.{◌≡◌, List, Some, slice_get, refl, sym, ap, subst, ◌∙◌}
use Rattle.std.proofs.lemmas.Option.{same_Some, none-some}
use Rattle.hg_changeset.specs.Contents.{Contents}
use Rattle.hg_graph.specs.Graph.{nodes}
use Rattle.hg_graph.specs.Places.{IsAt}
use Rattle.hg_phases.specs.State.{changesets}
use Rattle.hg_instab.specs.Changed.{IsNow}
use Rattle.hg_instab.proofs.extinct_walk.is_extinct_at.Goals as goal

pub returns-in-Some : goal.returns-in-Some
returns-in-Some c =
    let node = c.in-Some.node in
    let at : IsAt (changesets c.args.replica.now.history) node c.args.place =
    subst (λ (cs : List Contents). slice_get (nodes cs) c.args.place ≡ Some node) c.graph.ensures.graph
    (sym c.node_at.ensures ∙ c.in-Some.is) in (
      λ t n at_n. subst (IsNow c.args.extinct.now.keys c.args.turned.now.keys) (same_Some node n (sym at ∙ at_n))
          (c.has_now.ensures.0 t),
      λ h. c.has_now.ensures.1 (h node at),
    )

pub returns-in-None : goal.returns-in-None
returns-in-None c = (
  λ _ n at. absurd (none-some n
      (sym c.in-None.is ∙ c.node_at.ensures ∙ ap (λ (cs : List Contents). slice_get (nodes cs) c.args.place)
      c.graph.ensures.graph ∙ at)),
  λ _. refl,
)
