use Rattle.std.proofs.Common.{◌≡◌, refl, sym, subst, codes}
use Rattle.hg_rewrite.specs.declared.op.Op.{Op}
use Rattle.hg_rewrite.specs.Refusals.{NoneApplies, bad_entries, not_written}
use Rattle.hg_rewrite.specs.Parts.{chain, made}
use Rattle.hg_rewrite.proofs.EntryLemmas.{fine_noted}
use Rattle.hg_rewrite.proofs.changesets.new_changesets.Goals as goal

pub returns-in-Amend-clause-memory : goal.returns-in-Amend-clause-memory
returns-in-Amend-clause-memory c = λ e.
    subst (λ (op : Op). NoneApplies (bad_entries op)) (sym c.in-Amend.is)
    (fine_noted (codes "amend_source") refl c.in-Amend.node c.in-Amend.entry (c.write_noting.ensures.memory e))

pub returns-in-Relocate-clause-memory : goal.returns-in-Relocate-clause-memory
returns-in-Relocate-clause-memory c = λ e.
    subst (λ (op : Op). NoneApplies (bad_entries op)) (sym c.in-Relocate.is)
    (fine_noted (codes "rebase_source") refl c.in-Relocate.node c.in-Relocate.entry
    (c.write_noting-in-Relocate.ensures.memory e))

pub returns-in-Prune-clause-answer : goal.returns-in-Prune-clause-answer
unfolding chain
returns-in-Prune-clause-answer c =
    let s = c.args.replica.now in
    subst (λ (op : Op). NoneApplies (not_written s op) × (c.new.result.items ≡ made s.history op)) (sym c.in-Prune.is)
    (tt, c.new.ensures.items)

pub returns-in-Advance-clause-answer : goal.returns-in-Advance-clause-answer
unfolding chain
returns-in-Advance-clause-answer c =
    let s = c.args.replica.now in
    subst (λ (op : Op). NoneApplies (not_written s op) × (c.new-in-Advance.result.items ≡ made s.history op))
    (sym c.in-Advance.is) (tt, c.new-in-Advance.ensures.items)
