use Rattle.std.proofs.Common.{true, true≢false, IsTrue, ◌↔◌, inl, inr, refl, sym, subst, ◌∙◌}
use Rattle.hg_graph.specs.Graph.{nodes}
use Rattle.hg_graph.specs.Places.{IsAt}
use Rattle.hg_graph.proofs.GraphLemmas.{Contains-from_place}
use Rattle.hg_phases.specs.State.{changesets}
use Rattle.hg_replica.specs.Content.{content_of}
use Rattle.hg_view.specs.Kept.{KeptValue}
use Rattle.hg_view.specs.Pins.{IsVisibleUnder}
use Rattle.hg_view.proofs.UpheldLemmas.{visible-held}
use Rattle.hg_view.proofs.kept.Kept.is_visible_at.Goals as goal

pub returns-then-is_obsolete_at : goal.returns-then-is_obsolete_at
returns-then-is_obsolete_at c =
    let s = c.self.inside.replica in
    let node = c.args.node in
    let at = subst (λ (k : KeptValue). IsAt (changesets k.replica.history) node c.args.place) (sym c.self.view_is)
    c.requires in
    let are = visible-held s c.is_valid.ensures c.self.inside.pins c.self.inside.upheld.keys c.self.invariant.2
    c.self.inside.instabilities c.self.invariant.0 node
    (Contains-from_place (nodes (changesets s.history)) c.args.place node at) in
    subst (λ (k : KeptValue). IsTrue c.stays_in_view.result ↔ IsVisibleUnder (content_of k.replica) k.pins node)
    c.self.view_is (
      λ is. are.0 (inr (c.stays_in_view.ensures.0 is)),
      λ seen. elim (are.1 seen) [
        | inl current ↦ absurd (current ((c.is_obsolete_at.ensures node at).0 c.if-is_obsolete_at.true))
        | inr stays ↦ c.stays_in_view.ensures.1 stays
      ],
    )

pub returns : goal.returns
returns c =
    let s = c.self.inside.replica in
    let node = c.args.node in
    let at = subst (λ (k : KeptValue). IsAt (changesets k.replica.history) node c.args.place) (sym c.self.view_is)
    c.requires in
    let are = visible-held s c.is_valid.ensures c.self.inside.pins c.self.inside.upheld.keys c.self.invariant.2
    c.self.inside.instabilities c.self.invariant.0 node
    (Contains-from_place (nodes (changesets s.history)) c.args.place node at) in
    subst (λ (k : KeptValue). IsTrue true ↔ IsVisibleUnder (content_of k.replica) k.pins node) c.self.view_is (
      λ _. are.0 (inl (λ is. true≢false (sym ((c.is_obsolete_at.ensures node at).1 is) ∙ c.if-is_obsolete_at.false))),
      λ _. refl,
    )
