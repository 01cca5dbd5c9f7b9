use Rattle.std.proofs.Common.{ℕ, Some, List, true≢false, inl, inr, sym, subst, ◌∙◌, ◌⊎◌, ◌≡◌, ◌↔◌}
use Rattle.hg_changeset.specs.declared.node.Node.{Node}
use Rattle.hg_changeset.specs.Contents.{Contents}
use Rattle.hg_graph.specs.Places.{IsParentPlace}
use Rattle.hg_phases.specs.State.{changesets}
use Rattle.hg_replica.specs.Content.{content_of}
use Rattle.hg_replica.specs.Evolution.{IsObsolete}
use Rattle.hg_instab.specs.Changed.{IsNow}
use Rattle.hg_instab.proofs.SettlingLemmas.{parents-by_place}
use Rattle.hg_instab.proofs.orphan_walk.stands_on_unstable.Goals as goal
use Rattle.hg_instab.proofs.orphan_walk.stands_on_unstable.Goals.{Start, After-parent_places-parents}

are : (c : After-parent_places-parents) (k : ℕ) → IsParentPlace (changesets c.args.replica.now.history) c.args.place k
    ↔ ((c.parent_places-parents.result.first ≡ Some k) ⊎ (c.parent_places-parents.result.second ≡ Some k))
are c =
    subst (λ (cs : List Contents). (k : ℕ) → IsParentPlace cs c.args.place k
    ↔ ((c.parent_places-parents.result.first ≡ Some k) ⊎ (c.parent_places-parents.result.second ≡ Some k)))
    c.graph.ensures.graph c.parent_places-parents.ensures.places

abbrev IsUnstable : Start → Node → Type 0
IsUnstable c p = IsObsolete (content_of c.args.replica.now) p ⊎ IsNow c.args.orphan.now.keys c.args.turned.now.keys p

pub returns-then-is_unstable_at : goal.returns-then-is_unstable_at
returns-then-is_unstable_at c =
    let by = parents-by_place c.args.replica.now c.graph.ensures.valid c.args.node c.args.place c.requires
    (IsUnstable (goal.at.returns-then-is_unstable_at c).Start) in
    let told = are (goal.at.returns-then-is_unstable_at c).After-parent_places-parents in
    let h = c.is_unstable_at.ensures.0 c.if-is_unstable_at.true in
    (λ t. by.1 (h.0, h.1, (told h.0).1 (inl h.2), h.3, h.4), λ x. c.if-is_unstable_at.true)

pub returns-else-is_unstable_at : goal.returns-else-is_unstable_at
returns-else-is_unstable_at c =
    let by = parents-by_place c.args.replica.now c.graph.ensures.valid c.args.node c.args.place c.requires
    (IsUnstable (goal.at.returns-else-is_unstable_at c).Start) in
    let told = are (goal.at.returns-else-is_unstable_at c).After-parent_places-parents in (
      λ t. let h = c.is_unstable_at-else-is_unstable_at.ensures.0 t in
          by.1 (h.0, h.1, (told h.0).1 (inr h.2), h.3, h.4),
      λ x.
          let h = by.0 x in
          elim ((told h.0).0 h.2) [
            | inl first ↦
                let yes = c.is_unstable_at.ensures.1 (h.0, h.1, first, h.3, h.4) in
                absurd (true≢false (sym yes ∙ c.if-is_unstable_at.false))
            | inr second ↦ c.is_unstable_at-else-is_unstable_at.ensures.1 (h.0, h.1, second, h.3, h.4)
          ],
    )
