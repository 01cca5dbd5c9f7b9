use Rattle.std.proofs.Common.{◌≡◌, [], List, Vec, Global, ℕ, None, ap, arith}
use Rattle.hg_changeset.specs.EntryValue.{extra_bytes}
use Rattle.hg_changeset.specs.Lengths.{len_without}
use Rattle.hg_changeset.proofs.ExtrasLemmas.{ascend}
use Rattle.hg_changeset.proofs.extras.extras_len_bound.Goals as goal

pub returns-clause-most : goal.returns-clause-most
returns-clause-most c =
    let none : c.loop-key.key-iterator ≡ [] = c.in-None.ensures.steps.0 in
    omega (
      arith,
      c.loop-key.invariant,
      ap (λ (es : List (Vec ℕ Global × Vec ℕ Global)). len_without None (extra_bytes es)) none,
    )

pub returns-clause-ascending : goal.returns-clause-ascending
returns-clause-ascending c = ascend c.args.extra.now.entries c.into_iter-key-iterator.ensures.into_iter_gives.5
