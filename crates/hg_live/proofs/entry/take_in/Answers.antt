use Rattle.hg_live.proofs.AfterLemmas.{absorbed_next}
use Rattle.hg_live.proofs.CallLemmas.{fault_told}
use Rattle.hg_live.proofs.entry.take_in.Goals.{in-Ok, in-Err}
use Rattle.hg_live.proofs.entry.take_in.Goals as goal

pub returns-clause-ok : goal.returns-clause-ok
returns-clause-ok c =
    elim c.match-absorb.branch [
      | in-Ok w ↦ rw w.result-is (absorbed_next c.args.peer.now c.absorb.new.self c.args.part.now w.in-Ok.field-0
          w.in-Ok.ensures.answer w.in-Ok.ensures.pins)
      | in-Err w ↦ rw w.result-is tt
    ]

pub returns-clause-refused : goal.returns-clause-refused
returns-clause-refused c =
    elim c.match-absorb.branch [
      | in-Ok w ↦ rw w.result-is tt
      | in-Err w ↦ rw w.result-is (rw w.into.ensures (fault_told c.args.peer.now c.args.part.now w.in-Err.fault
          w.in-Err.ensures.fault (λ e. w.in-Err.ensures.memory (cc (e)))))
    ]
