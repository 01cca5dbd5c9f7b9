use Rattle.std.proofs.Common.{arith}
use Rattle.hg_changeset.proofs.ExtrasLemmas.{item_within}
use Rattle.hg_changeset.proofs.extras.extra_len_bound.Goals as goal

pub returns : goal.returns
returns c = omega (
  arith,
  item_within c.args.key.now c.args.value.now,
  c.saturating_add.ensures,
  c.saturating_mul.ensures,
  c.saturating_add-2.ensures,
)
