use Rattle.hg_view.proofs.AboveLemmas.{IsLowered, IsLowered-step, IsLowered-end, lowered_smaller}
use Rattle.hg_view.proofs.AboveLemmas.{later_within, under_here}
use Rattle.hg_view.proofs.above.is_under.Goals as goal

pub insert_parents-requires : goal.insert_parents-requires
insert_parents-requires c =
    later_within _ c.requires.graph _ c.loop-later.invariant _ c.in-Some.ensures

pub loop-later-preserved : goal.loop-later-preserved
loop-later-preserved c =
    IsLowered-step _ c.requires.graph _ c.loop-later.invariant _ c.in-Some.ensures _ c.in_ok-insert_parents.ensures

pub loop-later-smaller : goal.loop-later-smaller
loop-later-smaller c =
    lowered_smaller _ c.requires.graph _ c.loop-later.invariant _ c.in-Some.ensures _ c.in_ok-insert_parents.ensures

lowered : (c : goal.After-contains) → IsLowered c.args.graph.now c.args.place c.args.waiting.now
    c.pop_after.new.self
lowered c =
    IsLowered-end _ c.requires.graph _ c.loop-later.invariant c.in_default.ensures

pub returns-clause-answer : goal.returns-clause-answer
returns-clause-answer c =
    let under = under_here _ c.requires.graph _ c.loop-later.invariant c.in_default.ensures in
    (λ t. under.0 (c.contains.ensures.0 t), λ h. c.contains.ensures.1 (under.1 h))

pub returns-clause-within : goal.returns-clause-within
returns-clause-within c = (lowered c).within

pub returns-clause-under : goal.returns-clause-under
returns-clause-under c = (lowered c).under
