use Rattle.std.proofs.Common.{◌↔◌, Contains, take}
use Rattle.hg_changeset.specs.declared.node.Node.{Node}
use Rattle.hg_message.specs.Covered.{IsAtOneIn}
use Rattle.hg_message.proofs.heads.set_in.Given as goal

abbrev pub invariant-loop-place : goal.invariant-loop-place
invariant-loop-place l = (n : Node) → Contains l.found.keys n
    ↔ IsAtOneIn l.replica.history (take l.place-index l.places) l.phase n
