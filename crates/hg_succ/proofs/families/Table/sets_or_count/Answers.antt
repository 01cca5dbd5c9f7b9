use Rattle.std.proofs.Common.{◌≡◌, ◌∙◌, ℕ, sym}
use Rattle.std.proofs.lemmas.Result.{IfOk-weaker}
use Rattle.hg_changeset.specs.declared.node.Node.{Node}
use Rattle.hg_replica.specs.Content.{Content}
use Rattle.hg_succ.specs.declared.families.Solved.TheVariants.{Counted}
use Rattle.hg_succ.specs.Answer.{sets_of}
use Rattle.hg_succ.specs.Cover.{IsSolved, PutsLast, Solves}
use Rattle.hg_succ.specs.Cover.Known.{are_sets}
use Rattle.hg_succ.proofs.SolveLemmas.{length_sets}
use Rattle.hg_succ.proofs.TableLemmas.{solves_same, solves_last, last_kept}
use Rattle.hg_succ.proofs.families.Table.sets_or_count.Goals as goal

pub returns-then-wants_sets-clause-solves : goal.returns-then-wants_sets-clause-solves
returns-then-wants_sets-clause-solves c =
    IfOk-weaker c.keep.result (PutsLast c.args.family c.args.self.now c.keep.new.self)
    (λ e. (f : Content) (n : Node) → IsSolved f n (are_sets (sets_of c.args.family.items))
    → Solves f n c.args.self.now c.keep.new.self e)
    (λ e put f n solved. solves_last f n c.args.self.now c.keep.new.self c.args.family e solved put) c.keep.ensures

pub returns-then-wants_sets-clause-kept : goal.returns-then-wants_sets-clause-kept
returns-then-wants_sets-clause-kept c t =
    IfOk-weaker c.keep.result (PutsLast c.args.family c.args.self.now c.keep.new.self)
    (λ e. (count : ℕ) → ¬ (e ≡ Counted count))
    (λ e put. last_kept c.args.self.now c.keep.new.self c.args.family e put) c.keep.ensures

pub returns-clause-solves : goal.returns-clause-solves
returns-clause-solves c f n solved =
    let family = sets_of c.args.family.items in
    solves_same f n c.args.self.now (Counted c.len.result)
    (tt, ((family, solved.0, sym (c.len.ensures ∙ length_sets c.args.family)), solved.1))
