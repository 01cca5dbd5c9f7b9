use Rattle.std.proofs.Common.{◌∙◌, ◌++◌, ◌∷◌, [], ap, sym, ℕ, List}
use Rattle.crossbeam_queue.specs.Passes.{view}
use Rattle.hg_inbox.specs.Rule.{numbered}
use Rattle.hg_inbox.specs.Views.{seat_log}
use Rattle.hg_inbox.proofs.inbox.Inbox.take.Goals.{in-Some, in-None}
use Rattle.hg_inbox.proofs.inbox.Inbox.take.Goals as goal

pub returns-clause-take : goal.returns-clause-take
returns-clause-take g c =
    let same = c.take.ensures.same in
    let v = view c.seat.inside.pass in
    elim c.match-take.branch [
      | in-Some w ↦ let e = w.in-Some.ensures.take in
          rw (w.result-is, ← c.seat.view_is) (
            e.0,
            (λ i. seat_log (same.0 i) (e.1 i).puts (e.1 i).takes)
                ∙ ap (λ (m : List ℕ). seat_log c.seat.inside.pass.table_id v.puts (v.takes ++ numbered e.0 m ∷ []))
                (sym w.message.view_is),
            e.2,
          )
      | in-None w ↦ let e = w.in-None.ensures.take in
          rw (w.result-is, ← c.seat.view_is) ((λ i. seat_log (same.0 i) (e.0 i).puts (e.0 i).takes), e.1)
    ]
