use Rattle.std.proofs.Common.{Some, ap, sym, codes, ◌∙◌, rules}
use Rattle.std.specs.Int.{w32, w64}
use Rattle.std.proofs.lemmas.Int.{to_z-of_z}
use Rattle.hg_rewrite.specs.Parts.{noted, metadata}
use Rattle.hg_rewrite.proofs.markers.note.Goals as goal

pub returns-in-Prune : goal.returns-in-Prune
returns-in-Prune c =
    let op = c.in-Prune in
    c.noted.ensures ∙ (λ i. noted (codes "prune") (Some (c.parents_in-parents.ensures i))
    (c.deref-in-Prune.ensures.value i) (to_z-of_z w64 op.secs (search rules) i)
    (to_z-of_z w32 op.offset (search rules) i))
    ∙ ap (metadata c.args.replica.now.history) (sym op.is)
