use Rattle.std.proofs.Common.{take}
use Rattle.hg_obsstore.specs.Index.{places_of, AddsPlace, KeepsOthers}
use Rattle.hg_obsstore.proofs.index.Index.put_each.Given as goal

abbrev pub invariant-loop-node : goal.invariant-loop-node
invariant-loop-node l =
    AddsPlace (take l.node-index l.nodes) l.place (places_of l.role l.initial.self) (places_of l.role l.self)
    × KeepsOthers l.role l.initial.self l.self
