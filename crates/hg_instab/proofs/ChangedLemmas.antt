-- What a change didn't touch is as it was.
use Rattle.std.proofs.Common.{◌≡◌, ◌↔◌, inl, inr, sym, subst, ◌∙◌, List}
use Rattle.hg_changeset.specs.declared.node.Node.{Node}
use Rattle.hg_graph.specs.Graph.{IsParent}
use Rattle.hg_history.specs.Content.{IsHeld}
use Rattle.hg_marker.specs.Fields.{Fields}
use Rattle.hg_replica.specs.Content.{Content}
use Rattle.hg_replica.specs.Change.{ChangeValue}
use Rattle.hg_replica.specs.Evolution.{IsMarker, IsMutable, IsPredecessor, IsObsolete, IsCurrent}
use Rattle.hg_instab.specs.Changed.{Follows, IsMoved, IsSeed}
use Rattle.hg_instab.specs.Local.{IsParentOf}

module _ (f g : Content) (change : ChangeValue) (ms : List Fields) (follows : Follows f g change ms) where
  -- what was held still is
  pub held-after : (n : Node) → IsHeld f.0 n → IsHeld g.0 n
  held-after n held = let after = follows.above n held.0 held.1 in (after.0, after.1)

  pub parent-after : (p n : Node) → IsParentOf f p n → IsParentOf g p n
  parent-after p n parent =
      let after = follows.above n parent.0 parent.1 in
      (after.0, after.1, subst (λ d. IsParent d p) (sym after.2) parent.2)

  -- what wasn't moved has the parents that it had
  pub parent-before : (p n : Node) → ¬ (IsMoved change n) → IsParentOf g p n → IsParentOf f p n
  parent-before p n stays parent = (parent.0, sym (follows.same n stays) ∙ parent.1, parent.2)

  -- a marker of before is one of after
  pub marker-after : (m : Fields) → IsMarker f m → IsMarker g m
  marker-after m held = (follows.markers m).1 (inl held)

  pub predecessor-after : (n : Node) → IsPredecessor f n → IsPredecessor g n
  predecessor-after n h = (h.0, marker-after h.0 h.1, h.2)

  pub predecessor-untouched : (n : Node) → ¬ (IsSeed ms change n) → IsPredecessor g n ↔ IsPredecessor f n
  predecessor-untouched n out = (
    λ h. elim ((follows.markers h.0).0 h.1) [
      | inl old ↦ (h.0, old, h.2)
      | inr fresh ↦ absurd (out (inr (h.0, fresh, h.2)))
    ],
    predecessor-after n,
  )

  pub mutable-untouched : (n : Node) → ¬ (IsSeed ms change n) → IsMutable g n ↔ IsMutable f n
  mutable-untouched n out =
      let same : g.0 n ≡ f.0 n = follows.same n (λ moved. out (inl moved)) in
      ((λ h. (h.0, sym same ∙ h.1, h.2)), (λ h. (h.0, same ∙ h.1, h.2)))

  pub obsolete-untouched : (n : Node) → ¬ (IsSeed ms change n) → IsObsolete g n ↔ IsObsolete f n
  obsolete-untouched n out =
      let mutable = mutable-untouched n out in
      let predecessor = predecessor-untouched n out in
      ((λ h. (mutable.0 h.0, predecessor.0 h.1)), (λ h. (mutable.1 h.0, predecessor.1 h.1)))

  pub current-untouched : (n : Node) → ¬ (IsSeed ms change n) → IsCurrent g n ↔ IsCurrent f n
  current-untouched n out =
      let mutable = mutable-untouched n out in
      let obsolete = obsolete-untouched n out in (
        λ h. (mutable.0 h.0, λ o. h.1 (obsolete.1 o)),
        λ h. (mutable.1 h.0, λ o. h.1 (obsolete.0 o)),
      )
