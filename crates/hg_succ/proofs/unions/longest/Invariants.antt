use Rattle.std.proofs.Common.{◌≤◌, List, length, take, Contains}
use Rattle.hg_changeset.specs.declared.node.Node.{Node}
use Rattle.hg_succ.specs.Answer.{sets_of}
use Rattle.hg_succ.proofs.unions.longest.Given as goal

abbrev pub invariant-loop-set : goal.invariant-loop-set
invariant-loop-set l = (set : List Node) → Contains (sets_of (take l.set-index l.sets)) set → length set ≤ l.longest
