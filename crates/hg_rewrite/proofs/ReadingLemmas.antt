-- What is read of a valid state.
use Rattle.std.proofs.Common.{◌≡◌, ◌⊎◌, inl, inr, Option, Some, None, Contains, refl, sym, ap, subst, ◌∙◌}
use Rattle.std.specs.Option.{option_map_or}
use Rattle.std.proofs.lemmas.Option.{none-some}
use Rattle.hg_changeset.specs.declared.node.Node.{Node}
use Rattle.hg_changeset.specs.Node.{null_node}
use Rattle.hg_changeset.specs.Contents.{Contents}
use Rattle.hg_changeset.specs.Changeset.{node_of}
use Rattle.hg_changeset.proofs.ListLemmas.{Contains-map_from, Contains-map}
use Rattle.hg_graph.specs.Graph.{Holds as GraphHolds}
use Rattle.hg_graph.proofs.GraphLemmas.{Holds-changeset, Holds-from}
use Rattle.hg_phases.specs.declared.phase.Phase.{Phase}
use Rattle.hg_phases.specs.declared.phase.Phase.TheVariants.{Public}
use Rattle.hg_graph.specs.Graph.Reaches.{itself}
use Rattle.hg_phases.specs.State.{State, Held, Holds, Reaches, IsPhaseOf, IsValid, changesets}
use Rattle.hg_phases.specs.Content.{content_of}
use Rattle.hg_phases.proofs.ContentLemmas.{held_in_content, content-held}
use Rattle.hg_rewrite.specs.Reading.{phase_in, parents_in}

-- what isn't held has no content
content-missing : (s : State) (n : Node) → ¬ (Holds s n) → content_of s n ≡ None
content-missing s n missing = by (content_of s n) refl
  where
    by : (o : Option Held) → content_of s n ≡ o → content_of s n ≡ None
    by None e = e
    by (Some h) e =
        let r = held_in_content s n h e in
        absurd (missing (subst (GraphHolds (changesets s)) r.1
        (Holds-from (changesets s) h.changeset (Contains-map (λ (x : Held). x.changeset) s.held h r.0))))

pub phase_in-held : (s : State) → IsValid s → (n : Node) (k : Phase) → IsPhaseOf s n k → phase_in s n ≡ k
unfolding phase_in
phase_in-held s valid n k h = ap (λ o. option_map_or (λ (x : Held). x.phase) o Public)
    (content-held s valid.graph n h.0 h.1 h.2) ∙ h.3

pub phase_in-missing : (s : State) (n : Node) → ¬ (Holds s n) → phase_in s n ≡ Public
unfolding phase_in
phase_in-missing s n missing = ap (λ o. option_map_or (λ (x : Held). x.phase) o Public) (content-missing s n missing)

pub parents_in-held : (s : State) → IsValid s → (n : Node) (c : Contents) → Contains (changesets s) c → node_of c ≡ n
    → parents_in s n ≡ (c.first, c.second)
unfolding parents_in
parents_in-held s valid n c at is =
    let h = Contains-map_from (λ (x : Held). x.changeset) s.held c at in
    ap (λ o. option_map_or (λ (x : Held). (x.changeset.first, x.changeset.second)) o (null_node, null_node))
    (content-held s valid.graph n h.0 h.1 (ap node_of h.2 ∙ is))
    ∙ ap (λ (x : Contents). (x.first, x.second)) h.2

pub parents_in-missing : (s : State) (n : Node) → ¬ (Holds s n) → parents_in s n ≡ (null_node, null_node)
unfolding parents_in
parents_in-missing s n missing =
    ap (λ o. option_map_or (λ (x : Held). (x.changeset.first, x.changeset.second)) o (null_node, null_node))
    (content-missing s n missing)

-- a node is held or isn't
pub held_or_not : (s : State) → IsValid s → (n : Node) → Holds s n ⊎ (¬ (Holds s n))
held_or_not s valid n = by (content_of s n) refl
  where
    by : (o : Option Held) → content_of s n ≡ o → Holds s n ⊎ (¬ (Holds s n))
    by (Some h) e =
        let r = held_in_content s n h e in
        inl (subst (GraphHolds (changesets s)) r.1 (Holds-from (changesets s) h.changeset
        (Contains-map (λ (x : Held). x.changeset) s.held h r.0)))
    by None e = inr (λ held.
        let c = Holds-changeset (changesets s) n held in
        let h = Contains-map_from (λ (x : Held). x.changeset) s.held c.0 c.1 in
        none-some h.0 (sym e ∙ content-held s valid.graph n h.0 h.1 (ap node_of h.2 ∙ c.2)))

-- no step leads from a node to itself
pub reaches_itself : (s : State) (a n : Node) → Holds s a → a ≡ n → Reaches s a n
reaches_itself s a n held same = subst (Reaches s a) same (itself held)
