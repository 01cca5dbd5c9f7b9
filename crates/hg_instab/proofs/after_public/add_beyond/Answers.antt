use Rattle.std.proofs.Common.{true≢false, sym, ◌∙◌}
use Rattle.std.proofs.lemmas.Result.{on_ok_weaker}
use Rattle.hg_instab.specs.AfterPublic.{IsRewrittenTo, IsRewrittenBeyond}
use Rattle.hg_instab.proofs.AfterPublicLemmas.{next-beyond}
use Rattle.hg_instab.proofs.WalkLemmas.{adds-nothing, adds-same}
use Rattle.hg_instab.proofs.after_public.add_beyond.Goals as goal

pub returns-then-has : goal.returns-then-has
returns-then-has c =
    let known = c.args.known.now.keys in
    adds-nothing (IsRewrittenBeyond known c.args.store.now c.args.node) c.args.seen.now.keys
    (λ n h. absurd (((next-beyond known c.args.store.now c.args.node n).0 h).0
    (c.has.ensures.0 c.if-has.true)))

pub returns : goal.returns
returns c =
    let known = c.args.known.now.keys in
    let ms = c.args.store.now in
    let node = c.args.node in
    on_ok_weaker c.add_successors.result
    (λ adds. adds-same (IsRewrittenTo ms node) (IsRewrittenBeyond known ms node) c.args.seen.now.keys
    c.add_successors.new.seen.keys
    (λ n. (
      λ h. ((next-beyond known ms node n).0 h).1,
      λ h. (next-beyond known ms node n).1
          (λ at. true≢false (sym (c.has.ensures.1 at) ∙ c.if-has.false), h),
    )) adds)
    c.add_successors.ensures
