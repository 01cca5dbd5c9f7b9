use Rattle.std.proofs.Common.{◌≡◌, List, Contains, take, true}
use Rattle.hg_changeset.specs.declared.node.Node.{Node}
use Rattle.hg_succ.specs.Answer.{sets_of}
use Rattle.hg_succ.specs.Unions.{is_largest}
use Rattle.hg_succ.proofs.unions.are_as_long.Given as goal

abbrev pub invariant-loop-set : goal.invariant-loop-set
invariant-loop-set l = (set : List Node) → Contains (sets_of (take l.set-index l.sets)) set
    → is_largest (sets_of l.sets) set ≡ true
