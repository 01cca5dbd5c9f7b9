use Rattle.std.proofs.Common.{ap, subst, ◌∙◌}
use Rattle.hg_replica.specs.Change.{ChangeValue}
use Rattle.hg_replica.specs.Content.{content_of}
use Rattle.hg_instab.specs.Quick.{AreStable, AreUnchanged}
use Rattle.hg_instab.proofs.quick.moves_nothing.Goals as goal

pub returns-then-are_stable : goal.returns-then-are_stable
returns-then-are_stable c t = (
  subst (AreStable (content_of c.args.replica.now) c.args.sets.now)
      (c.deref.ensures ∙ ap (λ (x : ChangeValue). x.added) c.change.view_is)
      (c.are_stable.ensures c.if-are_stable.true),
  subst (AreUnchanged (content_of c.args.replica.now) c.args.sets.now)
      (c.deref-then-are_stable.ensures.value ∙ ap (λ (x : ChangeValue). x.lowered) c.change.view_is)
      (c.are_unchanged.ensures t),
)
