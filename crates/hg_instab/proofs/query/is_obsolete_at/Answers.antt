use Rattle.std.proofs.Common.{◌≡◌, true≢false, List, slice_get, refl, sym, ap, subst, ◌∙◌}
use Rattle.std.proofs.lemmas.Option.{same_Some, none-some}
use Rattle.hg_changeset.specs.Contents.{Contents}
use Rattle.hg_graph.specs.Graph.{nodes}
use Rattle.hg_phases.specs.declared.phase.Phase.TheVariants.{Public}
use Rattle.hg_replica.specs.Content.{content_of}
use Rattle.hg_replica.specs.Evolution.{HasPhase, IsPredecessor}
use Rattle.hg_instab.proofs.QueryLemmas.{mutable_there, phase_from_mutable, not_true}
use Rattle.hg_instab.proofs.query.is_obsolete_at.Goals as goal

pub returns-then-not-has_phase_at : goal.returns-then-not-has_phase_at
returns-then-not-has_phase_at c = λ n at.
    let s = c.args.replica.now in
    let f = content_of s in
    let node : c.in-Some.node ≡ n = same_Some c.in-Some.node n
    (sym c.in-Some.is ∙ c.node_at.ensures ∙ ap (λ (cs : List Contents). slice_get (nodes cs) c.args.place)
    c.graph.ensures.graph ∙ at) in (
      λ t. (
        mutable_there s c.graph.ensures.valid c.args.place n at
            (λ public. true≢false (sym ((c.has_phase_at.ensures n at).1 public) ∙ c.if-not-has_phase_at.true)),
        subst (IsPredecessor f) node (c.is_predecessor.ensures.0 t),
      ),
      λ h. c.is_predecessor.ensures.1 (subst (IsPredecessor f) (sym node) h.1),
    )

pub returns-else-not-has_phase_at : goal.returns-else-not-has_phase_at
returns-else-not-has_phase_at c = λ n at.
    let f = content_of c.args.replica.now in
    let public : HasPhase f n Public = (c.has_phase_at.ensures n at).0 c.if-not-has_phase_at.false in (
      λ t. absurd (not_true c.has_phase_at.result t c.if-not-has_phase_at.false),
      λ h. absurd (phase_from_mutable f n Public public h.0 refl),
    )

pub returns-in-None : goal.returns-in-None
returns-in-None c = λ n at.
    absurd (none-some n
    (sym c.in-None.is ∙ c.node_at.ensures ∙ ap (λ (cs : List Contents). slice_get (nodes cs) c.args.place)
    c.graph.ensures.graph ∙ at))
