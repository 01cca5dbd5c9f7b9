-- What is obsolete and not extinct is suspended: a way up from it leads to an orphan.
use Rattle.std.proofs.Common.{◌≡◌, ℕ, zero, suc, ◌+◌, ◌<◌, ◌≤◌, ◌⊎◌, ◌↔◌, inl, inr, Option, Some, None, List, [], ◌∷◌}
use Rattle.std.proofs.Common.{length, Contains, refl, sym, subst, ◌∙◌, arith}
use Rattle.std.proofs.lemmas.Option.{same_Some, none-some}
use Rattle.hg_changeset.specs.declared.node.Node.{Node}
use Rattle.hg_changeset.specs.Node.{null_node}
use Rattle.hg_changeset.specs.Contents.{Contents}
use Rattle.hg_changeset.proofs.NodeLemmas.{node_cases}
use Rattle.hg_changeset.proofs.ListLemmas.{Contains-none, Contains-cons_cases}
use Rattle.hg_graph.specs.Graph.{nodes, IsParent}
use Rattle.hg_graph.specs.Places.{IsAt}
use Rattle.hg_graph.proofs.GraphLemmas.{place_from_Contains}
use Rattle.hg_graph.proofs.PlaceLemmas.{IsAt-from, placed_within, place_from_Holds, parent_first}
use Rattle.hg_phases.specs.State.{Held, changesets}
use Rattle.hg_history.specs.Content.Leads.{itself, below}
use Rattle.hg_history.proofs.ContentLemmas.{changeset_in_content, node_in_content}
use Rattle.hg_replica.specs.State.{ReplicaState, IsValid}
use Rattle.hg_replica.specs.Content.{Content, content_of}
use Rattle.hg_replica.specs.Evolution.{IsObsolete, IsSuspended, IsExtinct}
use Rattle.hg_instab.specs.Local.{IsParentOf}
use Rattle.hg_instab.proofs.LocalLemmas.{obsolete-or_current, mutable-above, leads-from_parent, extinct-by_children}

is_parent-or : (c : Contents) (p : Node) → IsParent c p ⊎ (¬ (IsParent c p))
is_parent-or c p = elim (node_cases p null_node) [
  | inl null ↦ inr (λ h. h.0 null)
  | inr some ↦ elim (node_cases c.first p) [
    | inl e ↦ inl (some, inl e)
    | inr a ↦ elim (node_cases c.second p) [
      | inl e ↦ inl (some, inr e)
      | inr b ↦ inr (λ h. elim h.1 [ inl x ↦ a x | inr x ↦ b x ])
    ]
  ]
]

module _ (f : Content) (n : Node) (Is : Node → Type 0) (told : (c : Node) → Is c ⊎ (¬ (Is c))) where
  parent-or : (c : Node) → IsParentOf f n c ⊎ (¬ (IsParentOf f n c))
  parent-or c = by (f.0 c) refl
    where
      by : (o : Option Held) → f.0 c ≡ o → IsParentOf f n c ⊎ (¬ (IsParentOf f n c))
      by None e = inr (λ p. none-some p.0 (sym e ∙ p.1))
      by (Some h) e = elim (is_parent-or h.changeset n) [
        | inl is ↦ inl (h, e, is)
        | inr not ↦ inr (λ p. not (subst (λ (x : Held). IsParent x.changeset n) (same_Some p.0 h (sym p.1 ∙ e)) p.2))
      ]

  -- one of the nodes is a child of which it isn't so, or of each child among them it is
  child-or_all : (ns : List Node) → ((c : Node) × IsParentOf f n c × ¬ (Is c))
      ⊎ ((c : Node) → Contains ns c → IsParentOf f n c → Is c)
  child-or_all [] = inr (λ c at. absurd (Contains-none c at))
  child-or_all (x ∷ ns) = elim (child-or_all ns) [
    | inl found ↦ inl found
    | inr rest ↦ elim (told x) [
      | inl is ↦ inr (λ c at p. elim (Contains-cons_cases x ns c at)
          [ inl e ↦ subst Is e is | inr later ↦ rest c later p ])
      | inr not ↦ elim (parent-or x) [
        | inl p ↦ inl (x, p, not)
        | inr other ↦ inr (λ c at p. elim (Contains-cons_cases x ns c at)
            [ inl e ↦ absurd (other (subst (IsParentOf f n) (sym e) p)) | inr later ↦ rest c later p ])
      ]
    ]
  ]

module _ (s : ReplicaState) (v : IsValid s)
    (told : (c : Node) → IsExtinct (content_of s) c ⊎ (¬ (IsExtinct (content_of s) c))) where
  -- a child stands behind its parent
  child-place : (p c : Node) (i : ℕ) → IsAt (changesets s.history) p i → IsParentOf (content_of s) p c
      → (j : ℕ) × IsAt (changesets s.history) c j × (i < j)
  child-place p c i at parent =
      let held = changeset_in_content s.history v.graph c parent.0.changeset (parent.0, parent.1, refl) in
      let there = place_from_Contains (changesets s.history) parent.0.changeset held.0 in (
        there.0,
        IsAt-from (changesets s.history) there.0 parent.0.changeset c there.1 held.1,
        parent_first (changesets s.history) v.graph there.0 i (parent.0.changeset, p, there.1, parent.2, at),
      )

  suspended-up : (k : ℕ) (n : Node) (i : ℕ) → IsAt (changesets s.history) n i
      → length (changesets s.history) ≤ i + k → IsObsolete (content_of s) n → ¬ (IsExtinct (content_of s) n)
      → IsSuspended (content_of s) n
  suspended-up zero n i at le o not =
      let within = placed_within (changesets s.history) n i at in absurd (omega (arith, within, le))
  suspended-up (suc k) n i at le o not =
      elim (child-or_all (content_of s) n (IsExtinct (content_of s)) told (nodes (changesets s.history))) [
        | inl c ↦
            let up = below itself c.1.1 c.1.2 in
            elim (obsolete-or_current s c.0 (mutable-above s v n c.0 up (c.1.0, c.1.1) o.0)) [
              | inl obsolete ↦
                  let place = child-place n c.0 i at c.1 in
                  let far = suspended-up k c.0 place.0 place.1 (omega (arith, le, place.2)) obsolete c.2 in (
                    o,
                    (
                      far.1.0,
                      (far.1.1.0, leads-from_parent (content_of s) n c.0 far.1.0 c.1 far.1.1.1),
                      far.1.2,
                    ),
                  )
              | inr current ↦ (
                o,
                (c.0, ((c.1.0, c.1.1), up), (current, (n, ((c.1.0, c.1.1), up), o))),
              )
            ]
        | inr all ↦ absurd (not ((extinct-by_children s v n).1 (
          o,
          λ c parent. all c (node_in_content s.history v.graph c (parent.0, parent.1)) parent,
        )))
      ]

  -- so it is suspended exactly where it is obsolete and not extinct
  pub suspended-by_extinct : (n : Node) → IsSuspended (content_of s) n
      ↔ (IsObsolete (content_of s) n × ¬ (IsExtinct (content_of s) n))
  suspended-by_extinct n = (
    λ h. (h.0, λ x. x.1 h),
    λ h.
        let place = place_from_Holds (changesets s.history) n
        (node_in_content s.history v.graph n (h.0.0.0, h.0.0.1)) in
        suspended-up (length (changesets s.history)) n place.0 place.1 (omega arith) h.0 h.1,
  )
