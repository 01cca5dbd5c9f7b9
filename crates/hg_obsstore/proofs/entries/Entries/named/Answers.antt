use Rattle.std.proofs.Common.{◌↔◌, ◌∙◌, List, Contains, sym, subst}
use Rattle.indexmap.specs.IndexMap.{keys}
use Rattle.hg_changeset.specs.declared.node.Node.{Node}
use Rattle.hg_obsstore.specs.Entries.{Table, IsPlaced}
use Rattle.hg_obsstore.proofs.EntryLemmas.{named_placed}
use Rattle.hg_obsstore.proofs.entries.Entries.named.Goals as goal

pub returns-clause-exact : goal.returns-clause-exact
returns-clause-exact c = λ n.
    subst (λ (ns : List Node). Contains ns n ↔ IsPlaced c.args.self.now n)
    (sym (c.as_slice.ensures ∙ c.keys.ensures.rest))
    (subst (λ (t : Table). Contains (keys c.self.inside.table) n ↔ IsPlaced t n) c.self.view_is
    (named_placed (record { entries = c.self.inside.table.entries }) c.self.invariant.1 n))
