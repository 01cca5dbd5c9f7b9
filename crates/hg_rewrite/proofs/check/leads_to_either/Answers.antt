use Rattle.std.proofs.Common.{inl, inr, refl, sym, ◌∙◌}
use Rattle.hg_changeset.specs.Same.{node_eq_decides}
use Rattle.hg_rewrite.proofs.ReadingLemmas.{reaches_itself}
use Rattle.hg_rewrite.proofs.check.leads_to_either.Goals as goal
use Rattle.hg_rewrite.proofs.check.leads_to_either.Goals.{then-eq-via-then-eq, then-eq-via-else-eq+then-eq-2}

pub returns-then-eq-clause-answer : goal.returns-then-eq-clause-answer
returns-then-eq-clause-answer c =
    let s = c.args.replica.now.history in
    let node = c.args.node in (
      λ _. elim c.then-eq.branch [
        | then-eq-via-then-eq w ↦
            inl (reaches_itself s node c.args.p c.requires ((node_eq_decides node c.args.p).0
            (sym c.eq.ensures ∙ w.if-eq.true)))
        | then-eq-via-else-eq+then-eq-2 w ↦
            inr (reaches_itself s node c.args.q c.requires ((node_eq_decides node c.args.q).0
            (sym w.eq-else-eq.ensures ∙ w.if-eq-2.true)))
      ],
      λ _. refl,
    )
