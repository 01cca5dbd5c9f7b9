use Rattle.std.proofs.Common.{◌≡◌, ◌≤◌, ◌++◌, length, map, vec_capacity}
use Rattle.crossbeam_queue.specs.Passes.{view, IsPassOf}
use Rattle.hg_inbox.specs.Rule.{log, numbered_from}
use Rattle.hg_inbox.proofs.steps.take_rest.Given as goal

abbrev pub invariant-loop : goal.invariant-loop
invariant-loop g l = record {
  pass : IsPassOf l.queue l.pass;
  taken : view l.pass ≡ log (view l.fn.pass).parts (view l.fn.pass).puts
      ((view l.fn.pass).takes ++ numbered_from (length (view l.fn.pass).takes) (map (λ m. m.items) l.rest.items));
  counted : length l.rest.items ≡ l.counter;
  room : l.left ≤ vec_capacity l.rest;
}
