use Rattle.std.proofs.Common.{Contains}
use Rattle.std.proofs.lemmas.Result.{on_ok_weaker}
use Rattle.hg_instab.specs.Walk.{IsFollowed}
use Rattle.hg_instab.proofs.WalkLemmas.{adds-same}
use Rattle.hg_instab.proofs.walk.follow.Goals as goal

pub returns-then-is_followed : goal.returns-then-is_followed
returns-then-is_followed c =
    let m = c.args.marker.now in
    let Kind = IsFollowed c.args.followed in
    on_ok_weaker c.add_all.result
    (λ adds. adds-same (Contains c.successors.result.now) (λ n. Kind m × Contains m.successors n) c.args.seen.now.keys
    c.add_all.new.seen.keys
    (λ n. (
      λ h. rw c.successors.ensures h.1,
      λ h. (c.is_followed.ensures.0 c.if-is_followed.true, rw c.successors.ensures at h),
    )) adds)
    c.add_all.ensures
