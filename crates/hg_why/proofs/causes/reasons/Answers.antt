use Rattle.hg_replica.specs.Content.{content_of}
use Rattle.hg_why.proofs.CauseLemmas.{all-told}
use Rattle.hg_why.proofs.causes.reasons.Goals as goal

pub returns : goal.returns
returns c =
    let s = c.args.kept.now.replica in
    all-told (content_of s) c.args.node _ _ _ _ c.new-found.ensures.items c.in_ok-add_parents.ensures
    c.in_ok-add_public.ensures c.in_ok-add_several.ensures
    (c.neighbours_decide_what_is_orphan_and_extinct.ensures.orphan s c.args.node c.replica.ensures.valid)
