use Rattle.std.proofs.Common.{◌<◌, ℕ, List, All, length, subst, sym}
use Rattle.hg_phases.specs.State.{changesets}
use Rattle.hg_replica.specs.State.{ReplicaState}
use Rattle.hg_line.specs.Commands.{Word}
use Rattle.hg_line.specs.Reports.{AreRows, row_values}
use Rattle.hg_line.proofs.ReportLemmas.{places_within}
use Rattle.hg_line.proofs.report.print_changesets.Goals as goal

pub print_rows-requires-clause-places : goal.print_rows-requires-clause-places
print_rows-requires-clause-places g c =
    let s = c.args.kept.now.replica in
    subst (λ (rows : List (Word × ℕ)). All (λ (r : Word × ℕ). r.1 < length (changesets s.history)) rows)
    (sym c.deref.ensures.value) (places_within s c.in_ok-rows.rows.items
    (subst (λ (t : ReplicaState). AreRows t (row_values c.in_ok-rows.rows.items)) c.replica.ensures.replica
    c.in_ok-rows.ensures))

pub returns-clause-printed : goal.returns-clause-printed
returns-clause-printed g c =
    let rows = row_values c.deref.result.now in
    let d = c.in_ok-print_rows.ensures.printed in
    let are = subst (λ (rs : List (Word × ℕ)). AreRows c.args.kept.now.replica (row_values rs))
    (sym c.deref.ensures.value)
    (subst (λ (t : ReplicaState). AreRows t (row_values c.in_ok-rows.rows.items)) c.replica.ensures.replica
    c.in_ok-rows.ensures) in
    (rows, d.0, are, d.1, d.2)
