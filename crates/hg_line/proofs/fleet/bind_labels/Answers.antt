use Rattle.std.proofs.Common.{◌∙◌, inl, inr}
use mathlib.Core.Logic.{⊎_elim}
use Rattle.hg_names.specs.Labels.{labelled}
use Rattle.hg_line.proofs.NameLemmas.{bound_step, bound_end}
use Rattle.hg_line.proofs.fleet.bind_labels.Goals as goal

pub loop-label-preserved : goal.loop-label-preserved
loop-label-preserved c = λ name.
    bound_step c.loop-label.names c.bind.new.self c.in-Some.label.now c.in-Some.node.now _ _ _ _
    c.in_ok-bind.ensures.bound
    c.in-Some.ensures.steps.0 c.in-Some.ensures.steps.1 name
    ∙ c.loop-label.invariant name

pub returns-clause-ok : goal.returns-clause-ok
returns-clause-ok c = λ name.
    bound_end (labelled c.loop-label.names) _ _ (⊎_elim (λ a. inl a.1.0) (λ b. inr b.1.0) c.in-None.ensures.steps) name
    ∙ c.loop-label.invariant name
