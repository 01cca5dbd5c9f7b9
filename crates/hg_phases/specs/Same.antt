-- Lists of roots are equal where they list the same, in the same order: the test that `==` makes.
use Rattle.std.specs.Prelude.{List, Bool, nat_eq, ◌&&◌}
use Rattle.std.specs.Cmp.{IsEquivalence, on_equiv, and_equiv, nat_eq_equiv}
use Rattle.std.specs.Cmp.Lexicographic.{pointwise}
use Rattle.std.proofs.lemmas.Cmp.{nat_list_eq_equiv, lists_equiv}
use Rattle.hg_changeset.specs.declared.node.Node.{Node}
use Rattle.hg_changeset.specs.Node.{node_eq}
use Rattle.hg_phases.specs.declared.phase.Phase.{Phase}
use Rattle.hg_phases.specs.State.{rank}

-- the same phase and the same node
abbrev pub same_root : Phase × Node → Phase × Node → Bool
same_root r q = nat_eq (rank r.0) (rank q.0) && node_eq r.1 q.1

-- the same roots, in order
abbrev pub same_roots : List (Phase × Node) → List (Phase × Node) → Bool
same_roots = pointwise same_root

pub roots_equivalence : IsEquivalence same_roots
roots_equivalence =
    lists_equiv (and_equiv (on_equiv (λ (r : Phase × Node). rank r.0) nat_eq_equiv)
    (on_equiv (λ (r : Phase × Node). r.1.0) nat_list_eq_equiv))
