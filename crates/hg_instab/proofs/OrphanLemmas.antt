-- What stands on obsolete changesets, and what is below orphans.
use Rattle.std.proofs.Common.{◌≡◌, List, [], ◌∷◌, filter, Bool, true, false, true≢false, Contains, IsTrue, ◌↔◌, inl}
use Rattle.std.proofs.Common.{inr, refl, sym, ap, subst, ◌∙◌}
use Rattle.hg_changeset.specs.declared.node.Node.{Node}
use Rattle.hg_changeset.specs.Contents.{Contents}
use Rattle.hg_graph.specs.Graph.{nodes, Holds, IsAncestorOfOne, IsDescendantOfOne, Selects}
use Rattle.hg_graph.proofs.PlaceLemmas.{Holds-reaching, Holds-reached}
use Rattle.hg_phases.specs.State.{changesets}
use Rattle.hg_changeset.proofs.ListLemmas.{Contains-none, Contains-first, Contains-cons_cases, Contains-later}
use Rattle.hg_history.proofs.ContentLemmas.{content-node, node_in_content, leads_from_reach, reach_from_leads}
use Rattle.hg_replica.specs.State.{ReplicaState, IsValid}
use Rattle.hg_replica.specs.Content.{content_of}
use Rattle.hg_replica.specs.Evolution.{IsObsolete, IsOrphan, IsSuspended, IsCurrent}

-- what a filter keeps
passed_by : (test : Node → Bool) (x : Node) (xs : List Node) (y : Node)
    → (Contains (filter test xs) y ↔ (Contains xs y × IsTrue (test y))) → (b : Bool)
    → test x ≡ b → Contains (filter test (x ∷ xs)) y ↔ (Contains (x ∷ xs) y × IsTrue (test y))
passed_by test x xs y rest true e = rw e (
  λ h. elim (Contains-cons_cases x (filter test xs) y h) [
    | inl is ↦ (subst (Contains (x ∷ xs)) is (Contains-first x xs), subst (λ z. IsTrue (test z)) is e)
    | inr r ↦ let p = rest.0 r in (Contains-later x xs y p.0, p.1)
  ],
  λ h. elim (Contains-cons_cases x xs y h.0) [
    | inl is ↦ subst (Contains (x ∷ filter test xs)) is (Contains-first x (filter test xs))
    | inr later ↦ Contains-later x (filter test xs) y (rest.1 (later, h.1))
  ],
)
passed_by test x xs y rest false e = rw e (
  λ h. let p = rest.0 h in (Contains-later x xs y p.0, p.1),
  λ h. elim (Contains-cons_cases x xs y h.0) [
    | inl is ↦ absurd (true≢false (sym h.1 ∙ sym (ap test is) ∙ e))
    | inr later ↦ rest.1 (later, h.1)
  ],
)

passed : (test : Node → Bool) (xs : List Node) (y : Node) → Contains (filter test xs) y
    ↔ (Contains xs y × IsTrue (test y))
passed test [] y = (λ h. absurd (Contains-none y h), λ h. absurd (Contains-none y h.0))
passed test (x ∷ xs) y = passed_by test x xs y (passed test xs y) (test x) refl

-- the selected nodes are those that are so
pub selected : (cs : List Contents) (P : Node → Type 0) (found : List Node) → Selects cs P found → (n : Node)
    → Contains found n ↔ (Holds cs n × P n)
selected cs P found select n = (
  λ h. let x = (passed select.0 (nodes cs) n).0 (subst (λ ns. Contains ns n) select.1 h) in
      (x.0, (select.2 n x.0).0 x.1),
  λ h. subst (λ ns. Contains ns n) (sym select.1) ((passed select.0 (nodes cs) n).1 (h.0, (select.2 n h.0).1 h.1)),
)

-- the orphans are the current ones among the obsolete changesets and their descendants
pub orphans-are : (s : ReplicaState) → IsValid s → (obsolete above : List Node)
    → ((n : Node) → Contains obsolete n ↔ IsObsolete (content_of s) n)
    → Selects (changesets s.history) (IsDescendantOfOne (changesets s.history) obsolete) above → (n : Node)
    → (Contains above n × IsCurrent (content_of s) n) ↔ IsOrphan (content_of s) n
orphans-are s valid obsolete above are select n = (
  λ h.
      let x = (selected (changesets s.history) (IsDescendantOfOne (changesets s.history) obsolete) above select
      n).0 h.0 in
      let a = x.1 in (
        h.1,
        (
          a.0,
          (content-node s.history valid.graph n x.0, leads_from_reach s.history valid.graph a.0 n a.2),
          (are a.0).0 a.1,
        ),
      ),
  λ h.
      let a = h.1 in
      let held = node_in_content s.history valid.graph n a.1.0 in
      let reach = reach_from_leads s.history valid.graph a.0 n held a.1.1 in (
        (selected (changesets s.history) (IsDescendantOfOne (changesets s.history) obsolete) above select n).1
            (held, (a.0, (are a.0).1 a.2, reach)),
        h.0,
      ),
)

-- the suspended changesets are the obsolete ones among the orphans and their ancestors
pub suspended-are : (s : ReplicaState) → IsValid s → (orphans below : List Node)
    → ((n : Node) → Contains orphans n ↔ IsOrphan (content_of s) n)
    → Selects (changesets s.history) (IsAncestorOfOne (changesets s.history) orphans) below → (n : Node)
    → (Contains below n × IsObsolete (content_of s) n) ↔ IsSuspended (content_of s) n
suspended-are s valid orphans under are select n = (
  λ h.
      let d = ((selected (changesets s.history) (IsAncestorOfOne (changesets s.history) orphans) under select n).0
      h.0).1 in (
        h.1,
        (
          d.0,
          (
            content-node s.history valid.graph d.0 (Holds-reached (changesets s.history) d.2),
            leads_from_reach s.history valid.graph n d.0 d.2,
          ),
          (are d.0).0 d.1,
        ),
      ),
  λ h.
      let d = h.1 in
      let reach = reach_from_leads s.history valid.graph n d.0 (node_in_content s.history valid.graph d.0 d.1.0)
      d.1.1 in (
        (selected (changesets s.history) (IsAncestorOfOne (changesets s.history) orphans) under select n).1
            (Holds-reaching (changesets s.history) reach, (d.0, (are d.0).1 d.2, reach)),
        h.0,
      ),
)
