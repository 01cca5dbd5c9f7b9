use Rattle.std.proofs.Common.{List, Contains, sym, subst}
use Rattle.hg_changeset.specs.Contents.{Contents}
use Rattle.hg_graph.specs.Places.{IsAt}
use Rattle.hg_instab.proofs.QueryLemmas.{isnt_so}
use Rattle.hg_view.proofs.pins.counts_as_obsolete_at.Goals as goal

pub returns-then-is_obsolete_at : goal.returns-then-is_obsolete_at
returns-then-is_obsolete_at c n at =
    let obsolete = c.is_obsolete_at.ensures n at in
    let pinned = c.is_pinned_at.ensures n
    (subst (λ (cs : List Contents). IsAt cs n c.args.place) (sym c.graph.ensures.graph) at) in
    let isnt = isnt_so c.is_pinned_at.result (Contains c.args.pins.now n) pinned in
    (λ t. (obsolete.0 c.if-is_obsolete_at.true, isnt.0 t), λ h. isnt.1 h.1)
