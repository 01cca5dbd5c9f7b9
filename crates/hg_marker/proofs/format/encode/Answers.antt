use Rattle.std.proofs.Common.{◌++◌, ◌∙◌, ap, sym, subst, List, ℕ}
use Rattle.hg_marker.specs.Grammar.{IsSpelling, spelling}
use Rattle.hg_marker.proofs.MarkerLemmas.{is_spelling}
use Rattle.hg_marker.proofs.format.encode.Goals as goal

pub returns-clause-spells : goal.returns-clause-spells
returns-clause-spells c =
    let m = c.args.marker.now in
    let written = c.push_marker.ensures.written ∙ ap (λ (t : List ℕ). t ++ spelling m) c.in_ok-out.ensures.items in
    subst (IsSpelling m) (sym written) (is_spelling m c.push_marker.ensures.marker)
