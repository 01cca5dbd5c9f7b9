use Rattle.std.proofs.Common.{arith, ◌≡◌, List, ℕ, sym, subst}
use Rattle.std.proofs.lemmas.Grind.{common_steps}
use Rattle.std.specs.List.{AllByRecursion}
use Rattle.hg_changeset.specs.Contents.{Contents}
use Rattle.hg_changeset.specs.Changeset.{IsChangeset}
use Rattle.hg_obsstore.specs.Places.{picked}
use Rattle.hg_phases.specs.State.{changesets}
use Rattle.hg_message.specs.Spelling.{HasNode, IsMessageSpelling, message_spelling}
use Rattle.hg_message.proofs.OfferLemmas.{not-too-large}
use Rattle.hg_message.proofs.WritingLemmas.{message_spells}
use Rattle.hg_message.proofs.outgoing.Outgoing.written.Goals as goal

pub returns-clause-spells : goal.returns-clause-spells
returns-clause-spells c =
    let m = c.args.self.now in
    let s = c.self.inside.replica.now in
    let written : c.write_markers_at.new.out.items ≡ message_spelling m = grind (arith, common_steps) in
    let out : AllByRecursion IsChangeset m.changesets = rw (← c.self.view_is) (
    subst (λ (places : List ℕ). AllByRecursion IsChangeset (picked (changesets s.history) places))
    c.deref-2.ensures.value
    (subst (λ (cs : List Contents). AllByRecursion IsChangeset (picked cs c.deref-2.result.now))
    c.graph-graph.ensures.graph c.in_ok-write_records_at.ensures.changesets)) in
    let bounds : AllByRecursion HasNode m.bounds = rw (← c.self.view_is)
    (subst (AllByRecursion HasNode) c.deref-3.ensures.value c.in_ok-write_bounds_and_len.ensures.nodes) in
    subst (IsMessageSpelling m) (sym written) (message_spells m
    (not-too-large m c.requires.small) out bounds c.requires.markers)
