use Rattle.std.proofs.Common.{◌≡◌, ◌↔◌, IsTrue, inl, inr, true≢false, sym, subst, ◌∙◌}
use Rattle.hg_replica.specs.State.{ReplicaState}
use Rattle.hg_replica.specs.Content.{content_of}
use Rattle.hg_why.specs.FateLines.{IsKnown}
use Rattle.hg_why.proofs.fate_line.knows.Goals as goal

pub returns-else-holds : goal.returns-else-holds
returns-else-holds c =
    let rewritten = c.is_rewritten.ensures in
    let Tells : ReplicaState → Type 0 = λ s. IsTrue c.is_rewritten.result ↔ IsKnown (content_of s) c.args.node in
    let told : Tells c.replica-replica.result.now = (
      λ h. inr (rewritten.0 h),
      λ known. elim known [
        | inl held ↦ absurd (true≢false (sym (c.holds.ensures.1 held) ∙ c.if-holds.false))
        | inr is ↦ rewritten.1 is
      ],
    ) in
    subst Tells c.replica-replica.ensures.replica told
