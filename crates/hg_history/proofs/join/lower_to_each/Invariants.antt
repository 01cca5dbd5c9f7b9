use Rattle.std.proofs.Common.{◌≡◌, ◌⊎◌, List, length, take}
use Rattle.hg_phases.specs.declared.phase.Phase.{Phase}
use Rattle.hg_phases.specs.State.{IsValid, state_of}
use Rattle.hg_phases.specs.Least.{part_of}
use Rattle.hg_phases.specs.Log.{IsLog, restored}
use Rattle.hg_history.specs.Answer.{HasHigher}
use Rattle.hg_history.specs.Steps.{IsLoweredTo}
use Rattle.hg_history.proofs.join.lower_to_each.Given as goal

abbrev pub invariant-loop-place : goal.invariant-loop-place
invariant-loop-place l = record {
  len : length l.phases ≡ length l.fn.phases;
  valid : IsValid (state_of l.graph l.phases);
  lowered : IsLoweredTo l.graph (take l.place (part_of (state_of l.other l.other_phases)).bounds) l.phase l.fn.phases
      l.phases;
  logged : (start : List Phase) → IsLog l.phase start l.fn.phases l.fn.log → IsLog l.phase start l.phases l.log;
  undoes : restored l.phases l.log ≡ restored l.fn.phases l.fn.log;
  still : HasHigher (state_of l.graph l.fn.phases) (part_of (state_of l.other l.other_phases)).bounds
      ⊎ ((l.phases ≡ l.fn.phases) × (l.log ≡ l.fn.log));
}
