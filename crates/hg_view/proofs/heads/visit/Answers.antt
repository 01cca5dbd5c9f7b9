use Rattle.std.proofs.Common.{◌≡◌, ◌↔◌, ◌⊎◌, ℕ, Contains, List, sym, subst, true≢false, ◌∙◌}
use Rattle.hg_changeset.specs.Contents.{Contents}
use Rattle.hg_graph.specs.Places.{IsParentPlace}
use Rattle.hg_phases.specs.State.{changesets}
use Rattle.hg_view.specs.Common.{IsCommonAt}
use Rattle.hg_view.specs.Descent.{Finds}
use Rattle.hg_view.proofs.DescentLemmas.{goes-nowhere, goes-up, finds-nothing, finds-head}
use Rattle.hg_view.proofs.heads.visit.Goals as goal

pub returns-then-not-is_in_common-clause-waits : goal.returns-then-not-is_in_common-clause-waits
returns-then-not-is_in_common-clause-waits c =
    let place = c.args.place in
    let old = c.args.waiting.now in
    let new = c.insert_parents.new.self in
    goes-up _ _ _ (λ so. true≢false (sym (c.is_in_common.ensures.1 so) ∙ c.if-not-is_in_common.true)) _ _
    (subst (λ (cs : List Contents). (k : ℕ) → Contains new k ↔ (Contains old k ⊎ IsParentPlace cs place k))
    c.graph.ensures.graph c.in_ok-insert_parents.ensures)

pub returns-then-not-is_in_common-clause-finds : goal.returns-then-not-is_in_common-clause-finds
returns-then-not-is_in_common-clause-finds c =
    finds-nothing _ _ _ (λ head. true≢false (sym (c.is_in_common.ensures.1 head.0) ∙ c.if-not-is_in_common.true)) _

pub returns-then-has_child_in_common-clause-waits : goal.returns-then-has_child_in_common-clause-waits
returns-then-has_child_in_common-clause-waits c =
    goes-nowhere _ _ _ (c.is_in_common.ensures.0 c.if-not-is_in_common.false) _

pub returns-then-has_child_in_common-clause-finds : goal.returns-then-has_child_in_common-clause-finds
returns-then-has_child_in_common-clause-finds c =
    let child = c.has_child_in_common.ensures.0 c.if-has_child_in_common.true in
    finds-nothing _ _ _ (λ head. head.1 child.0 child.1 child.2) _

pub returns-clause-waits : goal.returns-clause-waits
returns-clause-waits c =
    goes-nowhere _ _ _ (c.is_in_common.ensures.0 c.if-not-is_in_common.false) _

pub returns-clause-finds : goal.returns-clause-finds
returns-clause-finds c =
    let cs = changesets c.args.replica.now.history in
    let P = IsCommonAt c.args.replica.now c.args.other.now in
    subst (Finds cs P (λ j. c.args.place ≡ j) c.args.found.now.items) (sym c.in_ok-push.ensures.items)
    (finds-head cs P c.args.place (
      c.is_in_common.ensures.0 c.if-not-is_in_common.false,
      λ j parent so. true≢false (sym (c.has_child_in_common.ensures.1 (j, parent, so))
          ∙ c.if-has_child_in_common.false),
    ) c.args.found.now.items)
