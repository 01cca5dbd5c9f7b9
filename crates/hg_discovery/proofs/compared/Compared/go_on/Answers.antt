use Rattle.std.proofs.Common.{◌∙◌, sym, true≢false}
use Rattle.hg_discovery.proofs.ComparedLemmas.{free-back, free-from}
use Rattle.hg_discovery.proofs.compared.Compared.go_on.Goals as goal
use Rattle.hg_discovery.proofs.compared.Compared.go_on.Goals.{then-are_free_from+then-self-eq0}
use Rattle.hg_discovery.proofs.compared.Compared.go_on.Goals.{then-are_free_from+else-self-eq0, else-are_free_from}

pub returns-else-are_free-clause-free : goal.returns-else-are_free-clause-free
returns-else-are_free-clause-free c =
    let ours = c.args.ours.now in
    let theirs = c.args.theirs.now in (
      λ t. absurd (true≢false (sym t ∙ c.if-are_free.false)),
      λ free. elim c.if-are_free_from.branch [
        | then-are_free_from+then-self-eq0 w ↦
            let zero = w.if-self-eq0.true in
            let other = sym w.are_free-is ∙ c.if-are_free.false in cc
        | then-are_free_from+else-self-eq0 w ↦
            absurd (true≢false (sym (w.are_free_from-else-self-eq0.ensures.1
            (free-from theirs ours (free-back ours theirs free) c.args.self.now.theirs))
            ∙ sym w.are_free-is ∙ c.if-are_free.false))
        | else-are_free_from w ↦
            absurd (true≢false (sym (c.are_free_from.ensures.1 (free-from ours theirs free c.args.self.now.ours))
            ∙ w.if-are_free_from.false))
      ],
    )
