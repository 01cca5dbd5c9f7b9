use Rattle.std.proofs.Common.{◌≡◌, ◌⊎◌, ◌↔◌, ◌∙◌, ℕ, Some, sym, subst, true≢false}
use Rattle.hg_graph.specs.Places.{IsParentPlace}
use Rattle.hg_phases.specs.State.{changesets}
use Rattle.hg_view.specs.Flags.{IsParentOfOne}
use Rattle.hg_view.specs.HeadPlaces.{IsAmong}
use Rattle.hg_view.proofs.FlagLemmas.{taken-none, taken-then, parents-at}
use Rattle.hg_view.proofs.head_updates.take_out_parents.Goals as goal

pub returns-then-is_among : goal.returns-then-is_among
returns-then-is_among c =
    let t = c.args.replica.now.history in
    let cs = changesets t in
    let place = c.args.place in
    let Q : ℕ → Type 0 = IsAmong c.args.among t in
    let first = c.parent_places-parents.result.first in
    let second = c.parent_places-parents.result.second in
    taken-then (λ k. first ≡ Some k) (λ k. second ≡ Some k) (IsParentOfOne cs (λ j. place ≡ j) Q) c.args.heads.now
    c.take_out.new.heads c.take_out-then-is_among.new.heads c.take_out.ensures c.take_out-then-is_among.ensures
    (λ k.
    let at = parents-at cs Q place (c.is_among.ensures.0 c.if-is_among.true) k in
    let parents = subst (λ ds. IsParentPlace ds place k ↔ ((first ≡ Some k) ⊎ (second ≡ Some k)))
    c.graph.ensures.graph (c.parent_places-parents.ensures.places k) in
    ((λ h. parents.0 (at.0 h)), (λ h. at.1 (parents.1 h))))

pub returns-else-is_among : goal.returns-else-is_among
returns-else-is_among c =
    let t = c.args.replica.now.history in
    let Q : ℕ → Type 0 = IsAmong c.args.among t in
    taken-none (IsParentOfOne (changesets t) (λ j. c.args.place ≡ j) Q) c.args.heads.now
    (λ k h. true≢false (sym (c.is_among.ensures.1 (subst Q (sym h.1) h.2)) ∙ c.if-is_among.false))
