-- Walks over markers, in the words of contents.
use Rattle.std.proofs.Common.{List, Contains, ◌⊎◌, ◌↔◌, inl, inr, refl, sym, subst}
use Rattle.hg_changeset.specs.declared.node.Node.{Node}
use Rattle.hg_marker.specs.Fields.{Fields}
use Rattle.hg_replica.specs.State.{ReplicaState}
use Rattle.hg_replica.specs.Content.{Content, content_of}
use Rattle.hg_replica.specs.Evolution.{IsMarker, IsPredecessor, Precedes, IsCurrent}
use Rattle.hg_replica.specs.Evolution.Precedes.{step, further as precedes_further}
use Rattle.hg_replica.proofs.MarkerLemmas.{holds-from, in_from_holds}
use Rattle.hg_instab.specs.Walk.{IsReached, IsNext, Leads}
use Rattle.hg_instab.specs.Walk.Leads.{one, further}

module _ (s : ReplicaState) (Kind : Fields → Type 0) where
  -- what steps to successors lead to is what is preceded
  precedes-from_leads : (p n : Node) → Leads (IsNext Kind s.markers) p n → Precedes (content_of s) Kind p n
  precedes-from_leads p n (one next) = step (holds-from s.markers next.0 next.1) next.3 next.4 next.2
  precedes-from_leads p n (further {q = q} far next) =
      precedes_further (holds-from s.markers next.0 next.1) next.3 next.4
      (subst (Precedes (content_of s) Kind p) (sym next.2) (precedes-from_leads p q far))

  leads-from_precedes : (p n : Node) → Precedes (content_of s) Kind p n → Leads (IsNext Kind s.markers) p n
  leads-from_precedes p n (step {m = m} held kind at is) = one (m, in_from_holds s.markers m held, is, kind, at)
  leads-from_precedes p n (precedes_further {m = m} held kind at r) = further (leads-from_precedes p m.predecessor r)
      (m, in_from_holds s.markers m held, refl, kind, at)

-- what precedes something is the predecessor of a marker
pub precedes-predecessor : (f : Content) (Kind : Fields → Type 0) (p n : Node) → Precedes f Kind p n → IsPredecessor f p
precedes-predecessor f Kind p n (step {m = m} held kind at is) = (m, held, is)
precedes-predecessor f Kind p n (precedes_further {m = m} held kind at r) = precedes-predecessor f Kind p
    m.predecessor r

-- of the steps to something the last one, over a marker that rewrote to it what is so, or what comes after such an id
pub precedes-last : (f : Content) (Kind : Fields → Type 0) (P : Node → Type 0) (n : Node)
    → ((p : Node) × P p × Precedes f Kind p n)
    ↔ ((m : Fields) × IsMarker f m × Kind m × Contains m.successors n
    × (P m.predecessor ⊎ ((p : Node) × P p × Precedes f Kind p m.predecessor)))
precedes-last f Kind P n = (λ h. last h.0 h.1 h.2, first)
  where
    last : (p : Node) → P p → Precedes f Kind p n → (m : Fields) × IsMarker f m × Kind m × Contains m.successors n
        × (P m.predecessor ⊎ ((q : Node) × P q × Precedes f Kind q m.predecessor))
    last p so (step {m = m} held kind at is) = (m, held, kind, at, inl (subst P (sym is) so))
    last p so (precedes_further {m = m} held kind at r) = (m, held, kind, at, inr (p, so, r))

    first : ((m : Fields) × IsMarker f m × Kind m × Contains m.successors n
        × (P m.predecessor ⊎ ((p : Node) × P p × Precedes f Kind p m.predecessor)))
        → (p : Node) × P p × Precedes f Kind p n
    first h = elim h.4 [
      | inl so ↦ (h.0.predecessor, so, step h.1 h.2 h.3 refl)
      | inr far ↦ (far.0, far.1, precedes_further h.1 h.2 h.3 far.2)
    ]

-- steps over markers of the one content are steps over markers of the other, as long as they lead over what is so
pub precedes-along : (f g : Content) (Kind : Fields → Type 0) (P : Node → Type 0)
    → ((m : Fields) (n : Node) → IsMarker f m → Contains m.successors n → P n → IsMarker g m × P m.predecessor)
    → (p n : Node) → P n → Precedes f Kind p n → Precedes g Kind p n
precedes-along f g Kind P moves p n so (step {m = m} held kind at is) = step (moves m n held at so).0 kind at is
precedes-along f g Kind P moves p n so (precedes_further {m = m} held kind at r) =
    let there = moves m n held at so in
    precedes_further there.0 kind at (precedes-along f g Kind P moves p m.predecessor there.1 r)

-- of what was reached from predecessors that are so the current ones are those that such a one precedes: no predecessor
-- is current
pub reached-current : (s : ReplicaState) (Kind : Fields → Type 0) (P : Node → Type 0) (starts : List Node) (n : Node)
    → ((p : Node) → Contains starts p ↔ (IsPredecessor (content_of s) p × P p))
    → (IsReached (IsNext Kind s.markers) starts n × IsCurrent (content_of s) n)
    ↔ (IsCurrent (content_of s) n × ((p : Node) × P p × Precedes (content_of s) Kind p n))
reached-current s Kind P starts n are = (
  λ h. elim h.0 [
    | inl first ↦ absurd (h.1.1 (h.1.0, ((are n).0 first).0))
    | inr far ↦ (h.1, (far.0, ((are far.0).0 far.1).1, precedes-from_leads s Kind far.0 n far.2))
  ],
  λ h. (
    inr (
      h.1.0,
      (are h.1.0).1 (precedes-predecessor (content_of s) Kind h.1.0 n h.1.2, h.1.1),
      leads-from_precedes s
          Kind h.1.0 n h.1.2,
    ),
    h.0,
  ),
)
