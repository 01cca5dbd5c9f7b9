use Rattle.std.proofs.Common.{◌↔◌, List, Contains, sym, subst}
use Rattle.std.proofs.lemmas.Result.{IfOk-weaker}
use Rattle.hg_changeset.specs.declared.node.Node.{Node}
use Rattle.hg_marker.specs.Fields.{Fields}
use Rattle.hg_instab.specs.AfterPublic.{IsRewrittenBeyond}
use Rattle.hg_instab.specs.Walk.{IsReached}
use Rattle.hg_instab.proofs.AfterPublicLemmas.{after-met}
use Rattle.hg_instab.proofs.SetLemmas.{along}
use Rattle.hg_instab.proofs.after_public.newly_after_public.Goals as goal

pub returns : goal.returns
returns c =
    let known = c.args.after_public.now.keys in
    let starts = c.in_ok-starts.starts.keys in
    let seen = c.as_slice.result.now in
    let walked = subst (λ (ms : List Fields). (n : Node) → Contains seen n
    ↔ IsReached (IsRewrittenBeyond known ms) starts n) c.store.ensures
    (subst (λ (ns : List Node). (n : Node) → Contains ns n
    ↔ IsReached (IsRewrittenBeyond known c.store.result.now) starts n) (sym c.as_slice.ensures.keys)
    c.in_ok-seen.ensures) in
    IfOk-weaker c.set_of.result _ _ (λ met told s v follows exact. after-met s c.args.replica.now c.args.change.now
    known starts seen follows exact c.in_ok-starts.ensures walked met.keys
    (λ n. along (told n) (c.in_ok-met.ensures n)))
    c.set_of.ensures
