use Rattle.std.proofs.Common.{◌≡◌, ◌∷◌, [], List, Contains, sym, ap, subst, ◌∙◌}
use Rattle.hg_changeset.specs.declared.node.Node.{Node}
use Rattle.hg_changeset.proofs.ListLemmas.{Contains-first}
use Rattle.hg_node_set.specs.Keys.{insert_key}
use Rattle.hg_succ.proofs.successors.successors_sets.Goals as goal

pub sets-requires-clause-done : goal.sets-requires-clause-done
sets-requires-clause-done c = λ is.
    let keys : c.insert.new.self.keys ≡ c.args.node ∷ [] =
    c.in_ok-insert.ensures.keys ∙ ap (λ (ks : List Node). insert_key ks c.args.node)
    c.with_keys-roots.ensures in
    c.in_ok-table.ensures.done c.args.node
    (subst (λ (ks : List Node). Contains ks c.args.node) (sym keys) (Contains-first c.args.node []))
