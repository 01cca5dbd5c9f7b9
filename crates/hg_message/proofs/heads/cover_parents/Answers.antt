use Rattle.std.proofs.Common.{◌≡◌, ◌↔◌, ◌⊎◌, ℕ, List, Some, inl, inr, subst}
use Rattle.hg_changeset.specs.Contents.{Contents}
use Rattle.hg_graph.specs.Places.{IsParentPlace}
use Rattle.hg_graph.proofs.MarkLemmas.{MarksAlso-then}
use Rattle.hg_message.proofs.heads.cover_parents.Goals as goal

pub returns : goal.returns
returns c =
    let parents = c.parent_places-parents.result in
    let told = subst (λ (ds : List Contents). (k : ℕ) → IsParentPlace ds c.args.place k
    ↔ ((parents.first ≡ Some k) ⊎ (parents.second ≡ Some k))) c.graph.ensures.graph
    c.parent_places-parents.ensures.places in
    MarksAlso-then 0 _ _ _ c.args.covered.now c.cover_parent.new.covered c.cover_parent-2.new.covered
    c.cover_parent.ensures c.cover_parent-2.ensures (λ k l. (
      λ h. elim ((told k).0 h.0) [ inl e ↦ inl (e, h.1) | inr e ↦ inr (e, h.1) ],
      λ h. elim h [ inl p ↦ ((told k).1 (inl p.0), p.1) | inr p ↦ ((told k).1 (inr p.0), p.1) ],
    ))
