use Rattle.std.proofs.Common.{Contains, true≢false, sym, subst, ◌∙◌}
use Rattle.std.proofs.lemmas.Result.{on_ok_weaker}
use Rattle.hg_changeset.specs.declared.node.Node.{Node}
use Rattle.hg_replica.specs.Content.{content_of}
use Rattle.hg_instab.specs.declared.walk.Followed.TheVariants.{NotBumpedFix}
use Rattle.hg_instab.specs.AfterPublic.{IsSource, HandsOn}
use Rattle.hg_instab.specs.Walk.{IsFollowed}
use Rattle.hg_instab.proofs.WalkLemmas.{adds-nothing, adds-same}
use Rattle.hg_instab.proofs.after_public.hand_on.Goals as goal

pub returns-then-is_source : goal.returns-then-is_source
returns-then-is_source c =
    let m = c.args.marker.now in
    let g = content_of c.args.replica.now in
    let known = c.args.known.now.keys in
    let source : IsSource g known m.predecessor = subst (λ (p : Node). IsSource g known p)
    c.predecessor.ensures.predecessor (c.is_source.ensures.0 c.if-is_source.true) in
    on_ok_weaker c.follow.result
    (λ adds. adds-same (λ n. IsFollowed NotBumpedFix m × Contains m.successors n)
    (λ n. HandsOn g known m × Contains m.successors n) c.args.seen.now.keys c.follow.new.seen.keys
    (λ n. (λ h. (h.0.1, h.1), λ h. ((source, h.0), h.1))) adds)
    c.follow.ensures

pub returns : goal.returns
returns c =
    let m = c.args.marker.now in
    let g = content_of c.args.replica.now in
    let known = c.args.known.now.keys in
    adds-nothing (λ n. HandsOn g known m × Contains m.successors n) c.args.seen.now.keys
    (λ n h. absurd (true≢false (sym (c.is_source.ensures.1 (subst (λ (p : Node). IsSource g known p)
    (sym c.predecessor.ensures.predecessor) h.0.0)) ∙ c.if-is_source.false)))
