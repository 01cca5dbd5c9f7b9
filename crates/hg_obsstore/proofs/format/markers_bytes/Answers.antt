use Rattle.std.proofs.Common.{◌++◌, ap, sym, subst, ◌∙◌, List, ℕ}
use Rattle.hg_obsstore.specs.Spelling.{IsStoreSpelling, store_spelling}
use Rattle.hg_obsstore.proofs.format.markers_bytes.Goals as goal

pub returns-clause-spells : goal.returns-clause-spells
returns-clause-spells c =
    let ms = c.args.markers.now in
    let is = c.in_ok-write_markers.ensures.ok
    ∙ ap (λ (front : List ℕ). front ++ store_spelling ms) c.in_ok-out.ensures.items in
    subst (IsStoreSpelling ms) (sym is) c.markers_len.ensures.spells
