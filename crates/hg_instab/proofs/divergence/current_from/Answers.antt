use Rattle.std.proofs.Common.{List, Contains, ◌↔◌, subst}
use Rattle.std.proofs.lemmas.Result.{IfOk-weaker}
use Rattle.hg_changeset.specs.declared.node.Node.{Node}
use Rattle.hg_marker.specs.Fields.{Fields}
use Rattle.hg_instab.specs.declared.walk.Followed.TheVariants.{Every}
use Rattle.hg_instab.specs.declared.walk.Way.TheVariants.{ToSuccessors}
use Rattle.hg_instab.specs.Walk.{IsReached, IsStep}
use Rattle.hg_instab.proofs.divergence.current_from.Goals as goal

pub returns : goal.returns
returns c =
    let reached = subst (λ (ms : List Fields). (n : Node) → Contains c.in_ok-led_to.led_to.keys n
    ↔ IsReached (IsStep (ToSuccessors Every) ms) c.args.starts.keys n) c.store.ensures c.in_ok-led_to.ensures in
    IfOk-weaker c.current_among.result _ _
    (λ found those n. (
      λ h. let x = (those n).0 h in ((reached n).0 (rw c.as_slice.ensures.keys at x.0), x.1),
      λ h. (those n).1 (rw c.as_slice.ensures.keys ((reached n).1 h.0), h.1),
    )) c.current_among.ensures
