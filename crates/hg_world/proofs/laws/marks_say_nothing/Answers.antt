use Rattle.hg_world.proofs.Marks.{mark_says_nothing, others_leave_own}
use Rattle.hg_world.proofs.laws.marks_say_nothing.Goals as goal

pub returns-clause-nothing : goal.returns-clause-nothing
returns-clause-nothing g c = mark_says_nothing g.S.JoinState g.S.Actor g.met.S.Actor.marked_says_the_same

pub returns-clause-others : goal.returns-clause-others
returns-clause-others g c = others_leave_own g.S.JoinState g.S.Actor g.met.S.Actor.told_leaves_own
