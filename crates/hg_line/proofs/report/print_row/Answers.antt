use Rattle.std.proofs.Common.{◌≡◌, ◌≤◌, List, ◌++◌, codes, length, slice_get, Option, Some, MatchOption, sym, ap}
use Rattle.std.proofs.Common.{subst, ◌∙◌}
use Rattle.hg_changeset.specs.Contents.{Contents}
use Rattle.hg_graph.specs.Graph.{nodes}
use Rattle.hg_phases.specs.declared.phase.Phase.{Phase}
use Rattle.hg_phases.specs.State.{Held, changesets}
use Rattle.hg_phases.specs.Words.{phase_word}
use Rattle.hg_replica.specs.State.{ReplicaState}
use Rattle.hg_line.specs.Commands.{Text}
use Rattle.hg_line.specs.Reports.{line_of, with_words}
use Rattle.hg_line.proofs.ReportLemmas.{row_of}
use Rattle.hg_line.proofs.EndingLemmas.{on_err_always}
use Rattle.hg_line.proofs.GrowLemmas.{grows_stays}
use Rattle.hg_line.proofs.report.print_row.Goals as goal

pub returns-clause-printed : goal.returns-clause-printed
returns-clause-printed g c =
    let s = c.args.kept.now in
    let same = c.replica-replica.ensures.replica in
    let place = c.args.place in
    let label = c.args.label.now in
    let phase = c.unwrap-phase.result in
    let status = c.status.result in
    let graph = c.graph.ensures.graph ∙ ap (λ (t : ReplicaState). changesets t.history) same in
    let at = sym c.unwrap-node.ensures ∙ c.node_at.ensures
    ∙ ap (λ (cs : List Contents). slice_get (nodes cs) place) graph in
    let phase_at = subst (λ (t : ReplicaState). MatchOption c.phase_at.result (length t.history.held ≤ place)
    (λ k. (h : Held) × (slice_get t.history.held place ≡ Some h) × (h.phase ≡ k))) same c.phase_at.ensures in
    let held = subst (λ (o : Option Phase). MatchOption o (length s.replica.history.held ≤ place)
    (λ k. (h : Held) × (slice_get s.replica.history.held place ≡ Some h) × (h.phase ≡ k))) c.unwrap-phase.ensures
    phase_at in
    let front = c.in_ok-push_phase.ensures
    ∙ ap (λ (l : Text). l ++ (codes " " ++ phase_word phase))
    (c.in_ok-extend_from_slice.ensures.items ∙ ap (λ (l : Text). l ++ label) c.requires.empty) in
    let whole = ap line_of (c.in_ok-push_words.ensures ∙ ap (λ (l : Text). with_words l status) front) in (
      line_of c.push_words.new.line.items,
      row_of s place c.unwrap-node.result phase label _ status at held
          c.status.ensures whole,
      c.in_ok-print_line.ensures.printed,
    )

pub returns-in_err-push_words-clause-grows : goal.returns-in_err-push_words-clause-grows
returns-in_err-push_words-clause-grows g c =
    on_err_always c.from_residual-in_err-push_words.result (grows_stays (g.W.Write.contents c.args.writer.now))
