use Rattle.std.proofs.Common.{sym, subst}
use Rattle.hg_instab.specs.declared.settling.Kind.{Kind}
use Rattle.hg_instab.specs.Settling.{TakesNext}
use Rattle.hg_instab.proofs.settling.take_next.Goals as goal

pub returns-in-Orphan : goal.returns-in-Orphan
returns-in-Orphan c = subst (λ (kind : Kind). TakesNext kind c.args.waiting.now c.pop_first.new.self c.pop_first.result)
    (sym c.in-Orphan.is) c.pop_first.ensures

pub returns-in-Extinct : goal.returns-in-Extinct
returns-in-Extinct c = subst (λ (kind : Kind). TakesNext kind c.args.waiting.now c.pop_last.new.self c.pop_last.result)
    (sym c.in-Extinct.is) c.pop_last.ensures
