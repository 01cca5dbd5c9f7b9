-- What is answered of a node.
use Rattle.std.specs.Prelude.{List, map}
use Rattle.std.specs.declared.vec.Vec.{Vec}
use Rattle.std.specs.declared.alloc.Global.{Global}
use Rattle.hg_changeset.specs.declared.node.Node.{Node}
use Rattle.hg_replica.specs.Content.{Content}
use Rattle.hg_succ.specs.declared.sets.Sets.{Sets}
use Rattle.hg_succ.specs.declared.sets.Sets.TheVariants.{Family, Overfull}
use Rattle.hg_succ.specs.Successors.{IsFamily, IsOverfull}

-- the sets that lists in memory are
abbrev pub sets_of : List (Vec Node Global) → List (List Node)
sets_of sets = map (λ set. set.items) sets

-- exactly the successors sets of n, which isn't overfull; or n is overfull
abbrev pub AreSets : Content → Node → Sets → Type 0
AreSets f n (Family family) = IsFamily f n (sets_of family.items) × ¬ (IsOverfull f n)
AreSets f n Overfull = IsOverfull f n
