use Rattle.std.proofs.Common.{◌≡◌, ◌<◌, List, Err, inr, length, ap, subst, ◌∙◌}
use Rattle.std.proofs.lemmas.Result.{err_from_is_err_and}
use Rattle.hg_changeset.specs.declared.node.Node.{Node}
use Rattle.hg_graph.specs.Graph.{nodes}
use Rattle.hg_rewrite.specs.Parts.{new_ids}
use Rattle.hg_rewrite.specs.Refusals.{NoneApplies, IsFirstRefusal, public_nodes, obsolete_nodes}
use Rattle.hg_rewrite.specs.Refusals.{wrong_count, raise, bad_users, existing, hidden_parents}
use Rattle.hg_rewrite.specs.Memory.{MayWantMemoryLater}
use Rattle.hg_rewrite.proofs.PartLemmas.{part_is}
use Rattle.hg_rewrite.proofs.DecideLemmas.{ArePassed, refused_public, refused_obsolete}
use Rattle.hg_rewrite.proofs.DecideLemmas.{refused_not_linear, refused_count, refused_raise, refused_unwritten}
use Rattle.hg_rewrite.proofs.DecideLemmas.{refused_unmarked, refused_user, refused_existing}
use Rattle.hg_rewrite.proofs.DecideLemmas.{entries_written, first_written, none_unmarked, marks_refused, decided}
use Rattle.hg_rewrite.proofs.TableLemmas.{public_tells, obsolete_tells, count_tells, raise_tells, users_tell}
use Rattle.hg_rewrite.proofs.MemoryLemmas.{told, never, wanting_descendants, wanting_later}
use Rattle.hg_rewrite.proofs.MemoryLemmas.{no_prune, prune_marked, all_marked}
use Rattle.hg_rewrite.proofs.decision.decide_shown.Goals as goal
use Rattle.hg_rewrite.proofs.decision.decide_shown.Goals.{In_ok-check_raise, After-as_slice-ids, In_ok-markers}

passed : (c : In_ok-check_raise) (pins : List Node) → NoneApplies (hidden_parents c.args.replica.now pins c.args.op.now)
    → ArePassed c.args.replica.now pins c.args.op.now
passed c pins shown = record {
  known = c.requires.known;
  visible = shown;
  unpublished = c.in_ok-check_not_public.ensures;
  current = c.in_ok-check_not_obsolete.ensures;
  linear = c.in_ok-check_linear.ensures.answer;
  counted = c.in_ok-check_count.ensures;
  lowered = c.in_ok-check_raise.ensures;
}

ids_are : (c : After-as_slice-ids) → c.as_slice-ids.result.now ≡ new_ids c.args.replica.now.history c.args.op.now
ids_are c = c.as_slice-ids.ensures ∙ c.in_ok-made.ensures.ids
    ∙ ap nodes (c.deref.ensures.value ∙ c.in_ok-changesets.ensures.answer.1)

pub returns-in_err-check_not_public-clause-answer : goal.returns-in_err-check_not_public-clause-answer
returns-in_err-check_not_public-clause-answer c = λ pins shown.
    let p = err_from_is_err_and c.from_residual.result c.from_residual.ensures.1 in
    rw (p.1, p.2) (refused_public c.args.replica.now pins c.args.op.now c.requires.known shown _
    (inr c.in_err-check_not_public.ensures))

pub returns-in_err-check_not_obsolete-clause-answer : goal.returns-in_err-check_not_obsolete-clause-answer
returns-in_err-check_not_obsolete-clause-answer c = λ pins shown.
    let p = err_from_is_err_and c.from_residual-in_err-check_not_obsolete.result
    c.from_residual-in_err-check_not_obsolete.ensures.1 in
    rw (p.1, p.2) (refused_obsolete c.args.replica.now pins c.args.op.now c.requires.known shown
    c.in_ok-check_not_public.ensures _ (inr c.in_err-check_not_obsolete.ensures))

pub returns-in_err-check_linear-clause-answer : goal.returns-in_err-check_linear-clause-answer
returns-in_err-check_linear-clause-answer c = λ pins shown.
    let p = err_from_is_err_and c.from_residual-in_err-check_linear.result
    c.from_residual-in_err-check_linear.ensures.1 in
    rw (p.1, p.2) (refused_not_linear c.args.replica.now pins c.args.op.now c.requires.known shown
    c.in_ok-check_not_public.ensures c.in_ok-check_not_obsolete.ensures _ c.in_err-check_linear.ensures.answer)

pub returns-in_err-check_count-clause-answer : goal.returns-in_err-check_count-clause-answer
returns-in_err-check_count-clause-answer c = λ pins shown.
    let p = err_from_is_err_and c.from_residual-in_err-check_count.result
    c.from_residual-in_err-check_count.ensures.1 in
    rw (p.1, p.2) (refused_count c.args.replica.now pins c.args.op.now c.requires.known shown
    c.in_ok-check_not_public.ensures c.in_ok-check_not_obsolete.ensures c.in_ok-check_linear.ensures.answer _
    (inr c.in_err-check_count.ensures))

pub returns-in_err-check_raise-clause-answer : goal.returns-in_err-check_raise-clause-answer
returns-in_err-check_raise-clause-answer c = λ pins shown.
    let p = err_from_is_err_and c.from_residual-in_err-check_raise.result
    c.from_residual-in_err-check_raise.ensures.1 in
    rw (p.1, p.2) (refused_raise c.args.replica.now pins c.args.op.now c.requires.known shown
    c.in_ok-check_not_public.ensures c.in_ok-check_not_obsolete.ensures c.in_ok-check_linear.ensures.answer
    c.in_ok-check_count.ensures _ (inr c.in_err-check_raise.ensures))

pub returns-in_err-check_pruner-clause-answer : goal.returns-in_err-check_pruner-clause-answer
returns-in_err-check_pruner-clause-answer c = λ pins shown.
    let p = err_from_is_err_and c.from_residual-in_err-check_pruner.result
    c.from_residual-in_err-check_pruner.ensures.1 in
    rw (p.1, p.2) (refused_user c.args.replica.now pins c.args.op.now
    (passed (goal.at.returns-in_err-check_pruner-clause-answer c).In_ok-check_raise pins shown) _
    c.in_err-check_pruner.ensures)

pub returns-in_err-changesets-clause-answer : goal.returns-in_err-changesets-clause-answer
returns-in_err-changesets-clause-answer c = λ pins shown.
    let p = err_from_is_err_and c.from_residual-in_err-changesets.result c.from_residual-in_err-changesets.ensures.1 in
    rw (p.1, p.2) (refused_unwritten c.args.replica.now pins c.args.op.now
    (passed (goal.at.returns-in_err-changesets-clause-answer c).In_ok-check_raise pins shown) _
    c.in_err-changesets.ensures.answer)

pub returns-in_err-markers-clause-answer : goal.returns-in_err-markers-clause-answer
returns-in_err-markers-clause-answer c = λ pins shown.
    let p = err_from_is_err_and c.from_residual-in_err-markers.result c.from_residual-in_err-markers.ensures.1 in
    rw (p.1, p.2) (refused_unmarked c.args.replica.now pins c.args.op.now
    (passed (goal.at.returns-in_err-markers-clause-answer c).In_ok-check_raise pins shown)
    c.in_ok-changesets.ensures.answer.0 _ (marks_refused c.args.replica.now c.args.op.now _ c.in_ok-check_pruner.ensures
    c.in_err-markers.ensures.answer))

pub returns-in_err-check_new-clause-answer : goal.returns-in_err-check_new-clause-answer
returns-in_err-check_new-clause-answer c = λ pins shown.
    let p = err_from_is_err_and c.from_residual-in_err-check_new.result c.from_residual-in_err-check_new.ensures.1 in
    rw (p.1, p.2) (refused_existing c.args.replica.now pins c.args.op.now
    (passed (goal.at.returns-in_err-check_new-clause-answer c).In_ok-check_raise pins shown)
    c.in_ok-changesets.ensures.answer.0
    (none_unmarked c.args.replica.now c.args.op.now c.in_ok-check_pruner.ensures c.in_ok-markers.ensures.answer.0) _
    (inr (subst (λ ns. IsFirstRefusal (existing c.args.replica.now.history ns) c.in_err-check_new.field-0.0)
    (ids_are (goal.at.returns-in_err-check_new-clause-answer c).After-as_slice-ids) c.in_err-check_new.ensures)))

pub returns-clause-answer : goal.returns-clause-answer
returns-clause-answer c = λ pins shown. decided c.args.replica.now pins c.args.op.now
    (passed (goal.at.returns-clause-answer c).In_ok-check_raise pins shown) c.requires.valid
    c.in_ok-changesets.ensures.answer.0
    (none_unmarked c.args.replica.now c.args.op.now c.in_ok-check_pruner.ensures c.in_ok-markers.ensures.answer.0)
    (subst (λ ns. NoneApplies (existing c.args.replica.now.history ns))
    (ids_are (goal.at.returns-clause-answer c).After-as_slice-ids) c.in_ok-check_new.ensures) _
    (part_is c.args.replica.now c.args.op.now _ _ _ c.in_ok-changesets.ensures.answer.1 c.in_ok-bounds.ensures
    c.in_ok-markers.ensures.answer.1)

pub returns-in_err-check_not_public-clause-later : goal.returns-in_err-check_not_public-clause-later
returns-in_err-check_not_public-clause-later c = λ pins shown e.
    never (public_nodes c.args.replica.now c.args.op.now) _ (public_tells c.args.replica.now c.args.op.now)
    c.in_err-check_not_public.ensures (told _ c.in_err-check_not_public.field-0.0 c.from_residual.ensures.1 e)

pub returns-in_err-check_not_obsolete-clause-later : goal.returns-in_err-check_not_obsolete-clause-later
returns-in_err-check_not_obsolete-clause-later c = λ pins shown e.
    never (obsolete_nodes c.args.replica.now c.args.op.now) _ (obsolete_tells c.args.replica.now c.args.op.now)
    c.in_err-check_not_obsolete.ensures
    (told _ c.in_err-check_not_obsolete.field-0.0 c.from_residual-in_err-check_not_obsolete.ensures.1 e)

pub returns-in_err-check_count-clause-later : goal.returns-in_err-check_count-clause-later
returns-in_err-check_count-clause-later c = λ pins shown e.
    never (wrong_count c.args.op.now) _ (count_tells c.args.replica.now c.args.op.now) c.in_err-check_count.ensures
    (told _ c.in_err-check_count.field-0.0 c.from_residual-in_err-check_count.ensures.1 e)

pub returns-in_err-check_raise-clause-later : goal.returns-in_err-check_raise-clause-later
returns-in_err-check_raise-clause-later c = λ pins shown e.
    never (raise c.args.replica.now c.args.op.now) _ (raise_tells c.args.replica.now c.args.op.now)
    c.in_err-check_raise.ensures (told _ c.in_err-check_raise.field-0.0 c.from_residual-in_err-check_raise.ensures.1 e)

pub returns-in_err-check_pruner-clause-later : goal.returns-in_err-check_pruner-clause-later
returns-in_err-check_pruner-clause-later c = λ pins shown e.
    never (bad_users c.args.op.now) _ (users_tell c.args.op.now) c.in_err-check_pruner.ensures
    (told _ c.in_err-check_pruner.field-0.0 c.from_residual-in_err-check_pruner.ensures.1 e)

pub returns-in_err-check_linear-clause-later : goal.returns-in_err-check_linear-clause-later
returns-in_err-check_linear-clause-later c = λ pins shown e.
    wanting_descendants c.args.replica.now pins c.args.op.now c.requires.known shown c.in_ok-check_not_public.ensures
    c.in_ok-check_not_obsolete.ensures (c.in_err-check_linear.ensures.memory (ap (λ x. Err x)
    (told _ c.in_err-check_linear.field-0.0 c.from_residual-in_err-check_linear.ensures.1 e)))

pub returns-in_err-changesets-clause-later : goal.returns-in_err-changesets-clause-later
returns-in_err-changesets-clause-later c = λ pins shown e.
    let memory = ap (λ x. Err x)
    (told _ c.in_err-changesets.field-0.0 c.from_residual-in_err-changesets.ensures.1 e) in
    wanting_later c.args.replica.now pins c.args.op.now
    (passed (goal.at.returns-in_err-changesets-clause-later c).In_ok-check_raise pins shown)
    (c.in_err-changesets.ensures.memory memory) (c.in_err-changesets.ensures.first memory) c.in_ok-check_pruner.ensures
    (c.in_err-changesets.ensures.prune memory)

pub returns-in_err-made-clause-later : goal.returns-in_err-made-clause-later
returns-in_err-made-clause-later c = λ pins shown e.
    let s = c.args.replica.now in
    let op = c.args.op.now in
    wanting_later s pins op (passed (goal.at.returns-in_err-made-clause-later c).In_ok-check_raise pins shown)
    (entries_written s op c.in_ok-changesets.ensures.answer.0)
    (first_written s op c.in_ok-changesets.ensures.answer.0) c.in_ok-check_pruner.ensures
    (no_prune s op (subst (λ cs. 1 < length cs)
    (c.deref.ensures.value ∙ c.in_ok-changesets.ensures.answer.1) c.in_err-made.ensures.memory))

pub returns-in_err-markers-clause-later : goal.returns-in_err-markers-clause-later
returns-in_err-markers-clause-later c = λ pins shown e.
    let s = c.args.replica.now in
    let op = c.args.op.now in
    wanting_later s pins op (passed (goal.at.returns-in_err-markers-clause-later c).In_ok-check_raise pins shown)
    (entries_written s op c.in_ok-changesets.ensures.answer.0)
    (first_written s op c.in_ok-changesets.ensures.answer.0) c.in_ok-check_pruner.ensures
    (prune_marked s op (c.in_err-markers.ensures.memory (ap (λ x. Err x)
    (told _ c.in_err-markers.field-0.0 c.from_residual-in_err-markers.ensures.1 e))))

-- once the markers are made
wanting : (c : In_ok-markers) (pins : List Node) → ArePassed c.args.replica.now pins c.args.op.now
    → MayWantMemoryLater c.args.replica.now pins c.args.op.now
wanting c pins all = wanting_later c.args.replica.now pins c.args.op.now all
    (entries_written c.args.replica.now c.args.op.now c.in_ok-changesets.ensures.answer.0)
    (first_written c.args.replica.now c.args.op.now c.in_ok-changesets.ensures.answer.0) c.in_ok-check_pruner.ensures
    (all_marked c.args.replica.now c.args.op.now c.in_ok-markers.ensures.answer.0)

pub returns-in_err-check_new-clause-later : goal.returns-in_err-check_new-clause-later
returns-in_err-check_new-clause-later c = λ pins shown e.
    let h = goal.at.returns-in_err-check_new-clause-later c in
    wanting h.In_ok-markers pins (passed h.In_ok-check_raise pins shown)

pub returns-in_err-bounds-clause-later : goal.returns-in_err-bounds-clause-later
returns-in_err-bounds-clause-later c = λ pins shown e.
    let h = goal.at.returns-in_err-bounds-clause-later c in
    wanting h.In_ok-markers pins (passed h.In_ok-check_raise pins shown)
