use Rattle.std.proofs.Common.{length, sym, ap, ◌∙◌, arith}
use Rattle.hg_changeset.proofs.ExtrasLemmas.{all_plain}
use Rattle.hg_changeset.proofs.extras.escaped_len.Goals as goal

pub returns-then-are_plain : goal.returns-then-are_plain
returns-then-are_plain c =
    let plain = sym c.are_plain.ensures ∙ c.if-are_plain.true in
    omega (arith, ap length (all_plain c.args.bytes.now plain))
