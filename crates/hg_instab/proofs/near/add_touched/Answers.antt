use Rattle.std.proofs.Common.{◌≡◌, subst}
use Rattle.hg_changeset.specs.declared.node.Node.{Node}
use Rattle.hg_instab.specs.Region.{IsStartOf}
use Rattle.hg_instab.specs.Walk.{Adds}
use Rattle.hg_instab.proofs.WalkLemmas.{adds-one, adds-same}
use Rattle.hg_instab.proofs.near.add_touched.Goals as goal

pub returns-in_ok-insert : goal.returns-in_ok-insert
returns-in_ok-insert c =
    let m = c.args.marker.now in
    let old = c.args.starts.now.keys in
    let new = c.insert.new.self.keys in
    adds-same (λ n. m.predecessor ≡ n) (IsStartOf c.args.store.now c.args.near.now.keys m) old new
    (λ n. (λ h. h.1, λ e. (c.is_touched.ensures.0 c.if-is_touched.true, e)))
    (subst (λ (x : Node). Adds (λ n. x ≡ n) old new) c.predecessor.ensures.predecessor
    (adds-one old new c.predecessor.result c.in_ok-insert.ensures.keys))
