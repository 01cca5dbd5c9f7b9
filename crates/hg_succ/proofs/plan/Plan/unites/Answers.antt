use Rattle.std.proofs.Common.{◌∙◌, inl, inr, sym, true≢false}
use Rattle.hg_succ.proofs.RangeLemmas.{among, test_among}
use Rattle.hg_succ.proofs.plan.Plan.unites.Goals as goal

pub returns-else-lists : goal.returns-else-lists
returns-else-lists c = (
  λ t. inr (among c.args.self.now.overlapping.keys c.args.node (sym c.contains.ensures.contains ∙ t)),
  λ h. elim h [
    | inl lists ↦ absurd (true≢false (sym (c.lists.ensures.1 lists) ∙ c.if-lists.false))
    | inr in' ↦ c.contains.ensures.contains ∙ test_among c.args.self.now.overlapping.keys c.args.node in'
  ],
)
