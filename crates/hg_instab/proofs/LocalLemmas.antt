-- Orphans by their parents, and what is extinct by its children.
use Rattle.std.proofs.Common.{◌≡◌, ◌↔◌, ◌⊎◌, inl, inr, true≢false, List, [], ◌∷◌, Contains, refl}
use Rattle.std.proofs.Common.{sym, ap, subst, ◌∙◌, arith}
use Rattle.std.proofs.lemmas.Bool.{cases_Bool}
use Rattle.hg_changeset.specs.declared.node.Node.{Node}
use Rattle.hg_changeset.specs.Node.{node_eq}
use Rattle.hg_changeset.proofs.NodeLemmas.{same_node, node_eq_laws}
use Rattle.hg_changeset.proofs.ListLemmas.{Contains-none, Contains-first, Contains-later, Contains-cons_cases}
use Rattle.hg_graph.specs.Graph.{IsParent}
use Rattle.hg_phases.specs.declared.phase.Phase.TheVariants.{Public}
use Rattle.hg_phases.specs.State.{rank}
use Rattle.hg_phases.proofs.RankLemmas.{rank-apart}
use Rattle.hg_marker.specs.Fields.{Fields}
use Rattle.hg_history.specs.Content.{IsHeld, Leads, IsValidContent as IsValidHistory}
use Rattle.hg_history.specs.Content.Leads.{itself, below}
use Rattle.hg_history.specs.ContentLaws.{leads-low}
use Rattle.hg_replica.specs.State.{ReplicaState, IsValid}
use Rattle.hg_replica.specs.Content.{Content, content_of}
use Rattle.hg_replica.specs.Evolution.{IsMutable, IsPredecessor, IsObsolete, IsCurrent, IsOrphan, IsExtinct}
use Rattle.hg_replica.proofs.ContentLemmas.{content-valid}
use Rattle.hg_replica.proofs.MarkerLemmas.{holds-from, in_from_holds}
use Rattle.hg_instab.specs.Local.{IsParentOf, StandsUnstably, HoldsNothing}

-- ---- what can be decided

predecessor-among : (ms : List Fields) (n : Node)
    → ((m : Fields) × Contains ms m × (m.predecessor ≡ n)) ⊎ (¬ ((m : Fields) × Contains ms m × (m.predecessor ≡ n)))
predecessor-among [] n = inr (λ h. Contains-none h.0 h.1)
predecessor-among (m ∷ ms) n = elim (cases_Bool (node_eq m.predecessor n)) [
  | inl t ↦ inl (m, Contains-first m ms, same_node m.predecessor n t)
  | inr f ↦ elim (predecessor-among ms n) [
    | inl h ↦ inl (h.0, Contains-later m ms h.0 h.1, h.2)
    | inr none ↦ inr (λ h. elim (Contains-cons_cases m ms h.0 h.1) [
      | inl is ↦ true≢false (sym (node_eq_laws.refl n) ∙ ap (λ x. node_eq x n)
          (sym h.2 ∙ ap (λ x. x.predecessor) (sym is)) ∙ f)
      | inr later ↦ none (h.0, later, h.2)
    ])
  ]
]

predecessor-or : (s : ReplicaState) (n : Node) → IsPredecessor (content_of s) n ⊎ (¬ (IsPredecessor (content_of s) n))
predecessor-or s n = elim (predecessor-among s.markers n) [
  | inl h ↦ inl (h.0, holds-from s.markers h.0 h.1, h.2)
  | inr none ↦ inr (λ h. none (h.0, in_from_holds s.markers h.0 h.1, h.2))
]

-- what isn't public is obsolete or current
pub obsolete-or_current : (s : ReplicaState) (n : Node) → IsMutable (content_of s) n
    → IsObsolete (content_of s) n ⊎ IsCurrent (content_of s) n
obsolete-or_current s n m = elim (predecessor-or s n) [
  | inl p ↦ inl (m, p)
  | inr none ↦ inr (m, λ o. none o.1)
]

-- ---- one step

-- what leads to d is d, or a child of it does
leads-up : (f : Content) (n d : Node) → Leads f.0 n d → (n ≡ d) ⊎ ((c : Node) × IsParentOf f n c × Leads f.0 c d)
leads-up f n d itself = inl refl
leads-up f n d (below {p = p} {h = h} r e is) = elim (leads-up f n p r) [
  | inl same ↦ inr (d, (h, e, subst (IsParent h.changeset) (sym same) is), itself)
  | inr c ↦ inr (c.0, c.1, below c.2 e is)
]

-- a parent leads to whatever its child leads to
pub leads-from_parent : (f : Content) (p c d : Node) → IsParentOf f p c → Leads f.0 c d → Leads f.0 p d
leads-from_parent f p c d parent itself = below itself parent.1 parent.2
leads-from_parent f p c d parent (below {p = q} r e is) = below (leads-from_parent f p c q parent r) e is

module _ (s : ReplicaState) (v : IsValid s) where
  valid : IsValidHistory (content_of s).0
  valid = content-valid s v

  -- what stands on something that isn't public isn't either
  pub mutable-above : (a n : Node) → Leads (content_of s).0 a n → IsHeld (content_of s).0 n
      → IsMutable (content_of s) a → IsMutable (content_of s) n
  mutable-above a n r held m =
      let low = leads-low (content_of s).0 valid a n r m.0 held.0 m.1 held.1 in (
        held.0,
        held.1,
        λ public. m.2 (rank-apart m.0.phase Public
            (let top : rank held.0.phase ≡ 0 = ap rank public in omega (arith, low, top))),
      )

  parent-held : (p n : Node) → IsParentOf (content_of s) p n → IsHeld (content_of s).0 p
  parent-held p n parent = let g = valid.parents n parent.0 p parent.1 parent.2 in (g.0, g.1)

  -- the obsolete changeset that an orphan stands on is a parent of it, or a parent of it is an orphan by that
  under-orphan : (a n : Node) → Leads (content_of s).0 a n → IsObsolete (content_of s) a → IsCurrent (content_of s) n
      → (p : Node) × IsParentOf (content_of s) p n × (IsObsolete (content_of s) p ⊎ IsOrphan (content_of s) p)
  under-orphan a n itself o current = absurd (current.1 o)
  under-orphan a n (below {p = p} {h = h} r e is) o current =
      let held = parent-held p n (h, e, is) in (
        p,
        (h, e, is),
        elim (obsolete-or_current s p (mutable-above a p r held o.0)) [
          | inl obsolete ↦ inl obsolete
          | inr its ↦ inr (its, (a, (held, r), o))
        ],
      )

  pub orphan-by_parents : (n : Node) → IsOrphan (content_of s) n
      ↔ StandsUnstably (content_of s) (IsOrphan (content_of s)) n
  orphan-by_parents n = (
    λ o. (o.0, under-orphan o.1.0 n o.1.1.1 o.1.2 o.0),
    λ h. (
      h.0,
      elim h.1.2 [
        | inl obsolete ↦ (h.1.0, ((h.1.1.0, h.1.1.1), below itself h.1.1.1 h.1.1.2), obsolete)
        | inr orphan ↦ (orphan.1.0, ((h.1.1.0, h.1.1.1), below orphan.1.1.1 h.1.1.1 h.1.1.2), orphan.1.2)
      ],
    ),
  )

  pub extinct-by_children : (n : Node) → IsExtinct (content_of s) n
      ↔ HoldsNothing (content_of s) (IsExtinct (content_of s)) n
  extinct-by_children n = (
    λ x. (
      x.0,
      λ c parent.
          let m = mutable-above n c (below itself parent.1 parent.2) (parent.0, parent.1) x.0.0 in
          elim (obsolete-or_current s c m) [
            | inl obsolete ↦ (
              obsolete,
              λ suspended. x.1 (
                x.0,
                (
                  suspended.1.0,
                  (
                    suspended.1.1.0,
                    leads-from_parent (content_of s) n c suspended.1.0 parent suspended.1.1.1,
                  ),
                  suspended.1.2,
                ),
              ),
            )
            | inr current ↦ absurd (x.1 (
              x.0,
              (
                c,
                ((parent.0, parent.1), below itself parent.1 parent.2),
                (
                  current,
                  (n, ((parent.0, parent.1), below itself parent.1 parent.2), x.0),
                ),
              ),
            ))
          ],
    ),
    λ h. (
      h.0,
      λ suspended.
          let d = suspended.1 in
          elim (leads-up (content_of s) n d.0 d.1.1) [
            | inl same ↦ d.2.0.1 (subst (IsObsolete (content_of s)) same h.0)
            | inr c ↦ let x = h.1 c.0 c.1 in x.1 (x.0, (d.0, (d.1.0, c.2), d.2))
          ],
    ),
  )
