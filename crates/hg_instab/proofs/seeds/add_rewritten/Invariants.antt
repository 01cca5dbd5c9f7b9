use Rattle.std.proofs.Common.{◌≡◌, ◌↔◌, ◌⊎◌, Contains, take}
use Rattle.hg_changeset.specs.declared.node.Node.{Node}
use Rattle.hg_instab.specs.Walk.{IsOfOneAt}
use Rattle.hg_instab.proofs.seeds.add_rewritten.Given as goal

abbrev pub invariant-loop-place : goal.invariant-loop-place
invariant-loop-place l = (n : Node) → Contains l.found.items n
    ↔ (Contains l.fn.found.items n ⊎ IsOfOneAt (λ m x. m.predecessor ≡ x) l.store (take l.place-index l.places) n)
