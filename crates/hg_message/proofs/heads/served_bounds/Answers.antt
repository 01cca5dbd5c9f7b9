use Rattle.std.proofs.Common.{◌↔◌, Contains, subst, ◌∙◌, ap, ◌++◌}
use Rattle.std.proofs.lemmas.Result.{IfOk-weaker}
use Rattle.hg_changeset.specs.declared.node.Node.{Node}
use Rattle.hg_phases.specs.declared.phase.Phase.TheVariants.{Public, Draft}
use Rattle.hg_replica.specs.State.{ReplicaState}
use Rattle.hg_message.specs.Covered.{IsAtOneIn}
use Rattle.hg_message.specs.Offer.{bounds_in}
use Rattle.hg_message.proofs.ServedLemmas.{public-heads, draft-heads}
use Rattle.hg_message.proofs.heads.served_bounds.Goals as goal

pub returns : goal.returns
returns c = IfOk-weaker c.bounds_on.result _ _
    (λ bounds both.
    let k = c.args.kept.now in
    let valid = c.replica-replica.ensures.valid in
    let here = c.replica-replica.ensures.replica in
    let told = subst (λ (s : ReplicaState). (n : Node) → Contains c.in_ok-public.public.items n
    ↔ IsAtOneIn s.history c.public_heads.result.now Public n) here c.in_ok-public.ensures.exact in
    let drafts = subst (λ (s : ReplicaState). (n : Node) → Contains c.in_ok-draft.draft.items n
    ↔ IsAtOneIn s.history c.args.heads.now Draft n) here c.in_ok-draft.ensures.exact in
    record {
      public = c.in_ok-public.public.items;
      draft = c.in_ok-draft.draft.items;
      public_heads = public-heads k valid c.public_heads.result.now c.public_heads.ensures c.in_ok-public.public.items
          told c.in_ok-public.ensures.ascending;
      draft_heads = draft-heads k valid c.args.heads.now c.requires c.in_ok-draft.draft.items drafts
          c.in_ok-draft.ensures.ascending;
      both = both ∙ ap (λ p. bounds_in Public p ++ bounds_in Draft c.deref-2.result.now) c.deref.ensures.value
          ∙ ap (λ d. bounds_in Public c.in_ok-public.public.items ++ bounds_in Draft d) c.deref-2.ensures.value;
    })
    c.bounds_on.ensures
