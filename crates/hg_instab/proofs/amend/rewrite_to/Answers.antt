use Rattle.std.proofs.Common.{[], ◌∷◌, ap, subst, ◌∙◌}
use Rattle.std.proofs.lemmas.Option.{IfSome_then}
use Rattle.hg_instab.specs.Amend.{IsOnlyAdded}
use Rattle.hg_instab.proofs.amend.rewrite_to.Goals as goal

pub returns-in-Some : goal.returns-in-Some
returns-in-Some c = IfSome_then c.rewrite_by.result c.rewrite_by.ensures (λ amend h added. record {
  added = subst (IsOnlyAdded c.args.change.now) h.1 added;
  fresh = c.in-Some.marker.now;
  only = c.in-Some.ensures;
  predecessor = h.0;
  successors = h.2 ∙ ap (λ x. x ∷ []) h.1;
})
