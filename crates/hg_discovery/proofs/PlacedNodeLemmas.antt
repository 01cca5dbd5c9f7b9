-- What stands at places, one more.
use Rattle.std.proofs.Common.{◌↔◌, ◌∙◌, ℕ, ◌<◌, ◌+◌, inl, inr, List, [], ◌∷◌, ◌++◌, length, take, get_or, Contains}
use Rattle.std.proofs.Common.{sym, ap, subst}
use Rattle.std.proofs.lemmas.List.Elements.{Contains-append_left, Contains-push, Contains-push_cases}
use Rattle.std.proofs.lemmas.Option.{same_Some}
use Rattle.hg_changeset.specs.declared.node.Node.{Node}
use Rattle.hg_changeset.specs.Contents.{Contents}
use Rattle.hg_graph.specs.Places.{IsAt}
use Rattle.hg_graph.proofs.WalkLemmas.{taken_one}
use Rattle.hg_discovery.specs.declared.finding.PlacedNode.{PlacedNode}
use Rattle.hg_discovery.proofs.StartLemmas.{one_placed_node}

module _ (cs : List Contents) (places : List ℕ) (i : ℕ) (l : i < length places) (found : List PlacedNode)
    (before : (x : PlacedNode) → Contains found x ↔ (Contains (take i places) x.place × IsAt cs x.node x.place)) where
  pub placed_nodes-push : (n : Node) → IsAt cs n (get_or places i 0) → (x : PlacedNode)
      → Contains (found ++ record { node = n; place = get_or places i 0 } ∷ []) x
      ↔ (Contains (take (i + 1) places) x.place × IsAt cs x.node x.place)
  placed_nodes-push n at x =
      let placed_node : PlacedNode = record { node = n; place = get_or places i 0 } in (
        λ h. elim (Contains-push_cases found placed_node x h) [
          | inl old ↦ let b = (before x).0 old in ((taken_one places i 0 x.place l).1 (inl b.0), b.1)
          | inr e ↦ (
            (taken_one places i 0 x.place l).1 (inr (ap (λ (y : PlacedNode). y.place) e)),
            subst (λ (y : PlacedNode). IsAt cs y.node y.place) e at,
          )
        ],
        λ h. elim ((taken_one places i 0 x.place l).0 h.0) [
          | inl old ↦ Contains-append_left found (placed_node ∷ []) x ((before x).1 (old, h.1))
          | inr e ↦ subst (Contains (found ++ placed_node ∷ []))
              (one_placed_node placed_node x (same_Some n x.node (sym at ∙ subst (IsAt cs x.node) (sym e) h.1)) e)
              (Contains-push found placed_node)
        ],
      )

  pub placed_nodes-skip : ((n : Node) → ¬ (IsAt cs n (get_or places i 0))) → (x : PlacedNode) → Contains found x
      ↔ (Contains (take (i + 1) places) x.place × IsAt cs x.node x.place)
  placed_nodes-skip none x = (
    λ h. let b = (before x).0 h in ((taken_one places i 0 x.place l).1 (inl b.0), b.1),
    λ h. elim ((taken_one places i 0 x.place l).0 h.0) [
      | inl old ↦ (before x).1 (old, h.1)
      | inr e ↦ absurd (none x.node (subst (IsAt cs x.node) (sym e) h.1))
    ],
  )
