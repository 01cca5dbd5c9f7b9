use Rattle.std.proofs.Common.{◌↔◌, ℕ, List, Bool, Contains, length, sym, subst, ◌∙◌, ap, ◌++◌}
use Rattle.std.proofs.lemmas.Result.{IfOk-weaker}
use Rattle.hg_changeset.specs.declared.node.Node.{Node}
use Rattle.hg_graph.specs.Marks.{IsMarked}
use Rattle.hg_obsstore.specs.Places.{ListsAll}
use Rattle.hg_phases.specs.declared.phase.Phase.TheVariants.{Public, Draft}
use Rattle.hg_message.specs.Covered.{IsAtOneIn}
use Rattle.hg_message.specs.Offer.{bounds_in}
use Rattle.hg_message.proofs.CoveredLemmas.{heads-named}
use Rattle.hg_message.proofs.heads.head_bounds.Goals as goal

pub marked_but-requires : goal.marked_but-requires
marked_but-requires c =
    ap length c.deref.ensures.value ∙ c.in_ok-covered.ensures.covered.len ∙ sym c.requires

pub returns : goal.returns
returns c = IfOk-weaker c.bounds_on.result _ _
    (λ bounds both pins scope are.
    let s = c.args.replica.now in
    let named = c.args.named.now in
    let valid = c.covered.ensures.valid in
    let covered = c.in_ok-covered.covered.items in
    let heads = c.in_ok-heads.heads.items in
    let are_heads = subst (λ (ms : List Bool). ListsAll (λ k. IsMarked 0 named k × ¬ (IsMarked 0 ms k)) heads)
    c.deref.ensures.value c.in_ok-heads.ensures in
    let public = subst (λ (places : List ℕ). (n : Node) → Contains c.in_ok-public.public.items n
    ↔ IsAtOneIn s.history places Public n) c.deref-2.ensures.value c.in_ok-public.ensures.exact in
    let draft = subst (λ (places : List ℕ). (n : Node) → Contains c.in_ok-draft.draft.items n
    ↔ IsAtOneIn s.history places Draft n) c.deref-3.ensures.value c.in_ok-draft.ensures.exact in
    record {
      public = c.in_ok-public.public.items;
      draft = c.in_ok-draft.draft.items;
      public_heads = heads-named s valid pins scope named covered are c.in_ok-covered.ensures.covered heads are_heads
          Public
          c.in_ok-public.public.items public c.in_ok-public.ensures.ascending;
      draft_heads = heads-named s valid pins scope named covered are c.in_ok-covered.ensures.covered heads are_heads
          Draft
          c.in_ok-draft.draft.items draft c.in_ok-draft.ensures.ascending;
      both = both ∙ ap (λ p. bounds_in Public p ++ bounds_in Draft c.deref-5.result.now) c.deref-4.ensures.value
          ∙ ap (λ d. bounds_in Public c.in_ok-public.public.items ++ bounds_in Draft d) c.deref-5.ensures.value;
    })
    c.bounds_on.ensures
