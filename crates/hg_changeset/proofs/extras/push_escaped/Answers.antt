use Rattle.std.proofs.Common.{List, ℕ, ◌++◌, sym, ap, ◌∙◌}
use Rattle.hg_changeset.proofs.ExtrasLemmas.{all_plain}
use Rattle.hg_changeset.proofs.extras.push_escaped.Goals as goal

pub returns-then-are_plain : goal.returns-then-are_plain
returns-then-are_plain c =
    let plain = sym c.are_plain.ensures ∙ c.if-are_plain.true in
    c.in_ok-extend_from_slice.ensures.items
    ∙ ap (λ (t : List ℕ). c.args.text.now.items ++ t) (sym (all_plain c.args.bytes.now plain))
