use Rattle.std.proofs.Common.{◌↔◌, List, ℕ, Contains, IsTrue, sym, subst, ◌∙◌}
use Rattle.std.proofs.lemmas.Cmp.{nat_cmp_total}
use Rattle.std.proofs.lemmas.Map.Lookups.{exact_unsigned}
use Rattle.std.proofs.lemmas.Map.Views.{btree_set_contains_iff}
use Rattle.hg_graph.proofs.place_queue.PlaceQueue.contains.Goals as goal

pub returns : goal.returns
returns c =
    let has = btree_set_contains_iff nat_cmp_total exact_unsigned c.self.inside.places c.args.place in
    subst (λ (ks : List ℕ). IsTrue c.contains.result ↔ Contains ks c.args.place) c.self.view_is
    (λ t. has.0 (sym c.contains.ensures ∙ t), λ h. c.contains.ensures ∙ has.1 h)
