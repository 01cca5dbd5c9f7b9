use Rattle.std.proofs.Common.{◌∙◌}
use Rattle.hg_inbox.specs.Views.{seat_log}
use Rattle.hg_inbox.proofs.inbox.Inbox.put.Goals.{in-Ok, in-Err}
use Rattle.hg_inbox.proofs.inbox.Inbox.put.Goals as goal

pub returns-clause-put : goal.returns-clause-put
returns-clause-put g c =
    let same = c.put.ensures.same in
    elim c.match-put.branch [
      | in-Ok w ↦ let e = w.in-Ok.ensures.put in
          rw (w.result-is, ← c.seat.view_is) (e.0, (λ i. seat_log (same.0 i) (e.1 i).puts (e.1 i).takes), e.2)
      | in-Err w ↦ let e = w.in-Err.ensures.put in
          rw (w.result-is, ← c.seat.view_is, ← c.self.view_is)
          (w.back.view_is ∙ e.0, (λ i. seat_log (same.0 i) (e.1 i).puts (e.1 i).takes), e.2)
    ]
