use Rattle.std.proofs.Common.{sym, ◌∙◌, inl, inr}
use mathlib.Core.Logic.{⊎_elim}
use Rattle.hg_names.specs.Labels.{labelled}
use Rattle.hg_line.proofs.LabelLemmas.{each_end}
use Rattle.hg_line.proofs.fleet.may_bind.Goals as goal

pub returns : goal.returns
returns c =
    sym (each_end (labelled c.args.names.now) _ _ (⊎_elim (λ a. inl a.1.0) (λ b. inr b.1.0) c.in-None.ensures.steps))
    ∙ c.loop-label.invariant
