use Rattle.std.proofs.Common.{true≢false, sym, ◌∙◌}
use Rattle.hg_instab.proofs.quick.is_stable_at.Goals as goal

pub returns-then-not-is_predecessor : goal.returns-then-not-is_predecessor
returns-then-not-is_predecessor c t = record {
  last = λ rewritten. true≢false (sym (c.is_predecessor.ensures.1 rewritten) ∙ c.if-not-is_predecessor.true);
  stands = c.stands_stably.ensures t;
}
