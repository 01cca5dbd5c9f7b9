use Rattle.std.proofs.Common.{◌≡◌, sym, subst, ap, take, ◌∙◌}
use Rattle.std.specs.Map.{keys_of, values_of}
use Rattle.indexmap.specs.IndexMap.{keys, values}
use Rattle.hg_graph.specs.Graph.{nodes, IsGraph}
use Rattle.hg_graph.specs.Places.{ArePlaces}
use Rattle.hg_graph.proofs.GraphLemmas.{IsGraph-take, keyed-take, map-take}
use Rattle.hg_graph.proofs.PlaceLemmas.{ArePlaces-take}
use Rattle.hg_graph.proofs.graph.Graph.truncate.Goals as goal

pub invariant_of-self : goal.invariant_of-self
invariant_of-self c =
    let n = c.args.len in
    let m = c.self.inside.changesets in
    let cs = values m in
    let cut = c.give_back_table.ensures ∙ c.truncate.ensures.entries in
    let values_are : take n cs ≡ values c.give_back_table.new.table = sym (ap values_of cut
    ∙ map-take (λ e. e.1) n m.entries) in
    let keys_are : keys c.give_back_table.new.table ≡ take n (keys m) = ap keys_of cut
    ∙ map-take (λ e. e.0) n m.entries in
    let places = ArePlaces-take cs c.self.invariant.1 n c.self.inside.links c.self.invariant.2 in (
      keys_are ∙ keyed-take n cs (keys m) c.self.invariant.0 ∙ ap nodes values_are,
      subst IsGraph values_are (IsGraph-take n cs c.self.invariant.1),
      rw c.truncate-2.ensures (subst (λ ds. ArePlaces ds (take n c.self.inside.links)) values_are places),
    )

pub returns : goal.returns
returns c = ap values_of (c.give_back_table.ensures ∙ c.truncate.ensures.entries)
    ∙ map-take (λ e. e.1) c.args.len c.self.inside.changesets.entries ∙ ap (take c.args.len) c.self.view_is
