use Rattle.std.proofs.Common.{◌≡◌, [], List, Vec, Global, ℕ, ap, arith}
use Rattle.hg_changeset.specs.EntryValue.{extra_bytes}
use Rattle.hg_changeset.specs.Lengths.{len_without}
use Rattle.hg_changeset.proofs.extras.extras_len.Goals as goal

pub returns : goal.returns
returns c =
    let none : c.loop-key.key-iterator ≡ [] = c.in-None.ensures.steps.0 in
    omega (
      arith,
      c.loop-key.invariant.0,
      c.loop-key.invariant.1,
      ap (λ (es : List (Vec ℕ Global × Vec ℕ Global)). len_without c.args.left_out (extra_bytes es)) none,
    )
