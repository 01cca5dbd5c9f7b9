use Rattle.std.proofs.Common.{rules, ◌≡◌, ◌+◌, ◌∙◌, ◌++◌, ◌∷◌, [], length, slice_get, Some, sym, ap, subst, append-nil}
use Rattle.std.proofs.Common.{append_assoc, arith}
use Rattle.std.proofs.lemmas.List.{length-append}
use Rattle.hg_changeset.proofs.ListLemmas.{slice_get-append_seam}
use Rattle.hg_graph.proofs.WalkLemmas.{emptied}
use Rattle.hg_history.specs.Steps.{IsAdded}
use Rattle.hg_history.proofs.AddLemmas.{IsAdded-start, IsAdded-step, stays_added}
use Rattle.hg_history.proofs.absorb.add_owned_changesets.Goals as goal
use Rattle.hg_history.proofs.absorb.add_owned_changesets.Goals.{In-Some}

pub loop-changeset-init : goal.loop-changeset-init
loop-changeset-init c =
    let all : c.into_iter-changeset-iterator.result.rest.items ≡ c.args.changesets.items = search rules in (
      [],
      sym all,
      IsAdded-start c.args.graph.now c.args.phases.now c.args.changesets.items c.requires.len
          c.requires.valid,
    )

-- the changeset that is added is the next of the part
all : (c : In-Some) → c.args.changesets.items
    ≡ c.loop-changeset.invariant.0 ++ c.in-Some.changeset ∷ c.next.new.self.rest.items
all c =
    let left : c.loop-changeset.changeset-iterator.rest.items ≡ c.in-Some.changeset ∷ c.next.new.self.rest.items =
    search rules in
    c.loop-changeset.invariant.1 ∙ ap (λ xs. c.loop-changeset.invariant.0 ++ xs) left

at : (c : In-Some) → slice_get c.args.changesets.items (length c.loop-changeset.invariant.0) ≡ Some c.in-Some.changeset
at c =
    let before = c.loop-changeset.invariant.0 in
    ap (λ xs. slice_get xs (length before)) (all c)
    ∙ slice_get-append_seam before c.in-Some.changeset c.next.new.self.rest.items

pub loop-changeset-preserved : goal.loop-changeset-preserved
loop-changeset-preserved c =
    let h = (goal.at.loop-changeset-preserved c).In-Some in
    let x = c.in-Some.changeset in
    let before = c.loop-changeset.invariant in
    let step = IsAdded-step _ _ _ _ _ _ before.2 _ (at h) c.in-Ok.field-0 c.add_owned.new.graph
    c.add_owned.new.phases c.in-Ok.ensures in
    let count : length before.0 + 1 ≡ length (before.0 ++ x ∷ []) = omega (arith, length-append before.0 (x ∷ [])) in (
      before.0 ++ x ∷ [],
      all h ∙ sym (append_assoc before.0 (x ∷ []) c.next.new.self.rest.items),
      subst (λ i. IsAdded c.args.graph.now c.args.phases.now c.args.changesets.items i c.add_owned.new.graph
          c.add_owned.new.phases) count step,
    )

pub returns-in-Err : goal.returns-in-Err
returns-in-Err c = stays_added _ _ _ _ _ _ c.loop-changeset.invariant.2 _ (at (goal.at.returns-in-Err c).In-Some)
    c.in-Err.fault c.add_owned.new.graph c.add_owned.new.phases c.in-Err.ensures

pub returns : goal.returns
returns c =
    let before = c.loop-changeset.invariant in
    let queue = c.loop-changeset.changeset-iterator.rest in
    let left : queue.items ≡ [] = emptied queue.items (λ l. omega (arith, l, queue.ok.0, c.in-None.ensures.steps.0)) in
    let all : c.args.changesets.items ≡ before.0 = before.1 ∙ ap (λ xs. before.0 ++ xs) left ∙ append-nil before.0 in
    subst (λ i. IsAdded c.args.graph.now c.args.phases.now c.args.changesets.items i c.loop-changeset.graph
    c.loop-changeset.phases) (ap length (sym all)) before.2
