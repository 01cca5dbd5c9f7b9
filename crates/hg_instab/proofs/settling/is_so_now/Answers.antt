use Rattle.std.proofs.Common.{IsTrue, ◌↔◌, sym, subst}
use Rattle.hg_replica.specs.Content.{content_of}
use Rattle.hg_instab.specs.declared.settling.Kind.{Kind}
use Rattle.hg_instab.specs.Changed.{IsNow}
use Rattle.hg_instab.specs.Settling.{IsSoBy}
use Rattle.hg_instab.proofs.settling.is_so_now.Goals as goal

pub returns-in-Orphan : goal.returns-in-Orphan
returns-in-Orphan c = subst (λ (kind : Kind). IsTrue c.is_orphan_now.result
    ↔ IsSoBy kind (content_of c.args.replica.now) (IsNow c.args.set.now.keys c.args.turned.now.keys) c.args.node)
    (sym c.in-Orphan.is) c.is_orphan_now.ensures

pub returns-in-Extinct : goal.returns-in-Extinct
returns-in-Extinct c = subst (λ (kind : Kind). IsTrue c.is_extinct_now.result
    ↔ IsSoBy kind (content_of c.args.replica.now) (IsNow c.args.set.now.keys c.args.turned.now.keys) c.args.node)
    (sym c.in-Extinct.is) c.is_extinct_now.ensures
