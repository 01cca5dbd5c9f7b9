use Rattle.std.proofs.Common.{take, ◌+◌, List, ◌≡◌, Contains, true≢false, sym, ap, subst, ◌∙◌}
use Rattle.hg_changeset.specs.declared.node.Node.{Node}
use Rattle.hg_marker.specs.Fields.{Fields}
use Rattle.hg_replica.specs.Content.{content_of}
use Rattle.hg_replica.specs.Evolution.{IsObsolete}
use Rattle.hg_replica.proofs.MarkerLemmas.{in_from_holds}
use Rattle.hg_instab.proofs.AmongLemmas.{AreThose, IsAlso, HavePredecessor, those-pushed, those-other, those-all}
use Rattle.hg_instab.proofs.AmongLemmas.{also-predecessor}
use Rattle.hg_instab.proofs.among.obsolete_nodes.Goals as goal
use Rattle.hg_instab.proofs.among.obsolete_nodes.Goals.{then-is_obsolete+in_ok-push, else-is_obsolete}

pub loop-marker-preserved : goal.loop-marker-preserved
loop-marker-preserved c =
    let ms = c.markers-marker-items.result.now in
    let i = c.loop-marker.marker-index in
    let node = c.predecessor-node.result in
    let P = IsObsolete (content_of c.args.replica.now) in
    let also = subst (λ (n : Node). IsAlso n (HavePredecessor (take i ms)) (HavePredecessor (take (i + 1) ms)))
    (sym c.predecessor-node.ensures.predecessor)
    (also-predecessor ms i c.marker-item.result c.loop-marker-test.true (sym c.marker-item.is)) in
    elim c.if-is_obsolete.branch [
      | then-is_obsolete+in_ok-push w ↦
          those-pushed (HavePredecessor (take i ms)) (HavePredecessor (take (i + 1) ms)) P c.loop-marker.found.items
          node c.loop-marker.invariant also (c.is_obsolete.ensures.0 w.if-is_obsolete.true) _
          (ap (λ v. v.items) w.found-is ∙ w.in_ok-push.ensures.items)
      | else-is_obsolete w ↦
          subst (AreThose (HavePredecessor (take (i + 1) ms)) P) (sym (ap (λ v. v.items) w.found-is))
          (those-other (HavePredecessor (take i ms)) (HavePredecessor (take (i + 1) ms)) P c.loop-marker.found.items
          node c.loop-marker.invariant also
          (λ is. true≢false (sym (c.is_obsolete.ensures.1 is) ∙ w.if-is_obsolete.false)))
    ]

pub returns : goal.returns
returns c n =
    let ms = c.markers-marker-items.result.now in
    let is : ms ≡ c.args.replica.now.markers = c.markers-marker-items.ensures.markers ∙ c.store.ensures in
    let those = those-all HavePredecessor (IsObsolete (content_of c.args.replica.now)) ms c.loop-marker.marker-index
    c.loop-marker.found.items c.loop-marker-test.false c.loop-marker.invariant in (
      λ h. ((those n).0 h).1,
      λ h.
          let m = h.1.0 in
          (those n).1 (
            (
              m,
              subst (λ (xs : List Fields). Contains xs m) (sym is)
                  (in_from_holds c.args.replica.now.markers m h.1.1),
              h.1.2,
            ),
            h,
          ),
    )
