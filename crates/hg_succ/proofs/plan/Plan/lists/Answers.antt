use Rattle.std.proofs.Common.{◌∙◌, inl, inr, sym, true≢false}
use Rattle.hg_succ.proofs.RangeLemmas.{among, test_among}
use Rattle.hg_succ.proofs.plan.Plan.lists.Goals as goal

pub returns-else-self : goal.returns-else-self
returns-else-self c = (
  λ t. inr (among c.args.self.now.listed.keys c.args.node (sym c.contains.ensures.contains ∙ t)),
  λ h. elim h [
    | inl whole ↦ absurd (true≢false (sym whole ∙ c.if-self.false))
    | inr in' ↦ c.contains.ensures.contains ∙ test_among c.args.self.now.listed.keys c.args.node in'
  ],
)
