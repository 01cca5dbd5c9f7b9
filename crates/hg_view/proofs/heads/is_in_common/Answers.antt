use Rattle.std.proofs.Common.{List, sym, subst, true≢false, ◌∙◌}
use Rattle.std.proofs.lemmas.Option.{same_Some}
use Rattle.hg_changeset.specs.Contents.{Contents}
use Rattle.hg_graph.specs.Graph.{nodes}
use Rattle.hg_graph.specs.Places.{IsAt}
use Rattle.hg_graph.proofs.GraphLemmas.{Contains-from_place}
use Rattle.hg_phases.specs.State.{changesets}
use Rattle.hg_replica.specs.Content.{content_of}
use Rattle.hg_history.proofs.ContentLemmas.{content-node}
use Rattle.hg_view.specs.Pins.{IsServedUnder}
use Rattle.hg_view.proofs.heads.is_in_common.Goals as goal

pub returns-then-not-has_phase_at : goal.returns-then-not-has_phase_at
returns-then-not-has_phase_at c =
    let s = c.args.replica.now in
    let n = c.in-Some.node in
    let at : IsAt (changesets s.history) n c.args.place =
    subst (λ (cs : List Contents). IsAt cs n c.args.place) c.graph.ensures.graph
    (sym c.node_at.ensures ∙ c.in-Some.is) in
    let held = content-node s.history c.graph.ensures.valid.graph n
    (Contains-from_place (nodes (changesets s.history)) c.args.place n at) in
    let secret = c.has_phase_at.ensures n at in (
      λ t. (
        n,
        at,
        (held, λ h. true≢false (sym (secret.1 h) ∙ c.if-not-has_phase_at.true)),
        c.is_served_by_guess.ensures.0 t,
      ),
      λ h. c.is_served_by_guess.ensures.1
          (subst (IsServedUnder (content_of c.args.other.now.replica) c.args.other.now.pins)
          (same_Some h.0 n (sym h.1 ∙ at)) h.3),
    )
