use Rattle.std.proofs.Common.{◌≡◌, ◌-◌, ℕ, List, length, inl, sym, ap, subst, ◌∙◌, arith, true≢false, Vec, Global, Some}
use Rattle.std.specs.List.{flat_map}
use Rattle.std.specs.Option.{option_map}
use Rattle.std.specs.Cmp.{unsigned_Decides}
use Rattle.std.proofs.lemmas.Result.{IfOk-weaker}
use Rattle.hg_changeset.specs.declared.node.Node.{Node}
use Rattle.hg_marker.specs.Fields.{Fields}
use Rattle.hg_obsstore.specs.Markers.{ArePlaces, AreDifferent}
use Rattle.hg_replica.specs.Content.{content_of}
use Rattle.hg_replica.specs.Evolution.{IsPredecessor}
use Rattle.hg_succ.specs.declared.families.Solved.{Solved}
use Rattle.hg_succ.specs.declared.families.Solved.TheVariants.{Counted}
use Rattle.hg_succ.specs.Answer.{sets_of}
use Rattle.hg_succ.specs.Successors.{IsOnCycle}
use Rattle.hg_succ.specs.Numbered.{successors_at}
use Rattle.hg_succ.specs.Factors.{many_at, AllWays, empties_at, IsOnlySuccessor}
use Rattle.hg_succ.specs.Cover.{answer, IsSolved, PutsLast, Solves, known_by}
use Rattle.hg_succ.specs.Cover.Known.{are_sets, counted}
use Rattle.hg_succ.specs.Unions.{choices, AreLargest}
use Rattle.hg_succ.proofs.SolveLemmas.{shared_answer, solved_cycle, solved_over, solved_few, solved_shared}
use Rattle.hg_succ.proofs.SolveLemmas.{rewritten_somewhere, rewritten_nowhere, solved_apart, only_step}
use Rattle.hg_succ.proofs.FactorLemmas.{empties_few}
use Rattle.hg_succ.proofs.TableLemmas.{solves_same, solves_last, last_kept}
use Rattle.hg_succ.proofs.families.Table.solve.Goals as goal
use Rattle.hg_succ.proofs.families.Table.solve.Goals.{After-with_predecessor-places, In-Some, In-Some-all_ways}

pub returns-then-cyclic-clause-solves : goal.returns-then-cyclic-clause-solves
returns-then-cyclic-clause-solves c =
    let f = content_of c.args.replica.now in
    let n = c.args.node in
    let solved = subst (λ (sets : List (Vec Node Global)). IsSolved f n (are_sets (sets_of sets)))
    (sym c.new.ensures.items) (solved_cycle f n (c.requires.cyclic.0 c.if-cyclic.true)) in
    IfOk-weaker c.keep.result (PutsLast c.new.result c.args.self.now c.keep.new.self)
    (Solves f n c.args.self.now c.keep.new.self)
    (λ e put. solves_last f n c.args.self.now c.keep.new.self c.new.result e solved put) c.keep.ensures

pub returns-then-cyclic-clause-kept : goal.returns-then-cyclic-clause-kept
returns-then-cyclic-clause-kept c lists =
    IfOk-weaker c.keep.result (PutsLast c.new.result c.args.self.now c.keep.new.self)
    (λ e. (count : ℕ) → ¬ (e ≡ Counted count))
    (λ e put. last_kept c.args.self.now c.keep.new.self c.new.result e put) c.keep.ensures

-- the markers whose predecessor the node is
are : (c : After-with_predecessor-places)
    → ArePlaces (λ m. m.predecessor ≡ c.args.node) c.args.replica.now.markers c.with_predecessor-places.result.now
are c = subst (λ (ms : List Fields). ArePlaces (λ m. m.predecessor ≡ c.args.node) ms
    c.with_predecessor-places.result.now) c.store-store.ensures c.with_predecessor-places.ensures

same : (c : After-with_predecessor-places) → c.markers-markers.result.now ≡ c.args.replica.now.markers
same c = c.markers-markers.ensures.markers ∙ c.store-store.ensures

different : (c : After-with_predecessor-places) → AreDifferent c.args.replica.now.markers
different c = subst AreDifferent c.store-store.ensures c.markers-markers.ensures.different

off : (c : After-with_predecessor-places) → ¬ (IsOnCycle (content_of c.args.replica.now) c.args.node)
off c on = true≢false (sym (c.requires.cyclic.1 on) ∙ c.if-cyclic.false)

pub own_set-requires : goal.own_set-requires
own_set-requires c =
    rewritten_nowhere c.args.replica.now _ _ (are (goal.at.own_set-requires c).After-with_predecessor-places)
    ((unsigned_Decides _ 0).0 (sym c.is_empty.ensures ∙ c.if-is_empty.true))

pub returns-then-is_empty-clause-solves : goal.returns-then-is_empty-clause-solves
returns-then-is_empty-clause-solves c =
    let f = content_of c.args.replica.now in
    let n = c.args.node in
    IfOk-weaker c.keep-then-is_empty.result (PutsLast c.in_ok-own.own c.args.self.now c.keep-then-is_empty.new.self)
    (Solves f n c.args.self.now c.keep-then-is_empty.new.self)
    (λ e put. solves_last f n c.args.self.now c.keep-then-is_empty.new.self c.in_ok-own.own e c.in_ok-own.ensures
    put) c.keep-then-is_empty.ensures

pub returns-then-is_empty-clause-kept : goal.returns-then-is_empty-clause-kept
returns-then-is_empty-clause-kept c lists =
    IfOk-weaker c.keep-then-is_empty.result (PutsLast c.in_ok-own.own c.args.self.now c.keep-then-is_empty.new.self)
    (λ e. (count : ℕ) → ¬ (e ≡ Counted count))
    (λ e put. last_kept c.args.self.now c.keep-then-is_empty.new.self c.in_ok-own.own e put)
    c.keep-then-is_empty.ensures

pub returns-in-None-all_ways-clause-solves : goal.returns-in-None-all_ways-clause-solves
returns-in-None-all_ways-clause-solves c =
    let h = (goal.at.returns-in-None-all_ways-clause-solves c).After-with_predecessor-places in
    let s = c.args.replica.now in
    let t = c.args.self.now in
    let many = subst (λ (ks : List Fields). many_at t ks c.with_predecessor-places.result.now) (same h)
    c.in-None-all_ways.ensures.many in
    solves_same (content_of s) c.args.node t Solved.Overfull (
      tt,
      solved_over s t c.requires.table _ (off h) (c.requires.below c.if-cyclic.false) (different h) _ (are h) many,
    )

-- its one successor
only : (c : In-Some) → c.markers-markers.result.now ≡ c.args.replica.now.markers
    → IsOnlySuccessor c.args.replica.now.markers c.with_predecessor-places.result.now c.in-Some.ensures.only.0
only c is = subst (λ (ks : List Fields). IsOnlySuccessor ks c.with_predecessor-places.result.now
    c.in-Some.ensures.only.0) is c.in-Some.ensures.only.1

pub returns-in-Some-clause-solves : goal.returns-in-Some-clause-solves
returns-in-Some-clause-solves c =
    let h = (goal.at.returns-in-Some-clause-solves c).After-with_predecessor-places in
    let one = only (goal.at.returns-in-Some-clause-solves c).In-Some (same h) in
    let s = c.args.replica.now in
    let t = c.args.self.now in
    let told = c.in-Some.ensures in
    let below = c.requires.below c.if-cyclic.false in
    let is = shared_answer s t c.requires.table _ (off h) below (different h) _ (are h) told.only.0 one _
    told.answer.0 c.in-Some.solved c.requires.row told.answer.1 told.answer.2 in
    solves_same (content_of s) c.args.node t c.in-Some.solved (
      (c.requires.table.right told.only.0 c.in-Some.solved is).0,
      solved_shared s t c.requires.table _ (off h) below (different h) _ (are h) told.only.0 one _
          (ap (option_map (known_by t.families.items)) is) told.few,
    )

pub returns-in-Some-clause-kept : goal.returns-in-Some-clause-kept
returns-in-Some-clause-kept c lists count of_count =
    let h = (goal.at.returns-in-Some-clause-kept c).After-with_predecessor-places in
    let one = only (goal.at.returns-in-Some-clause-kept c).In-Some (same h) in
    let s = c.args.replica.now in
    let t = c.args.self.now in
    let told = c.in-Some.ensures in
    let below = c.requires.below c.if-cyclic.false in
    let is = shared_answer s t c.requires.table _ (off h) below (different h) _ (are h) told.only.0 one _
    told.answer.0 c.in-Some.solved c.requires.row told.answer.1 told.answer.2 in
    let to = only_step s t c.requires.table _ (off h) below (different h) _ (are h) told.only.0 one in
    c.requires.kept told.only.0 (c.requires.plan.closed c.args.node told.only.0 (inl lists) to) count
    (is ∙ ap (λ (e : Solved). Some e) of_count)

pub overflow_sub-result : goal.overflow_sub-result
overflow_sub-result c =
    let l = empties_few c.args.self.now c.markers-markers.result.now c.with_predecessor-places.result.now in
    omega (arith, l, c.in-Some-all_ways.ensures.few.ways, c.empty_ways-empty.ensures)

-- its markers have so many ways, and one of them is its own
ways : (c : In-Some-all_ways) → c.markers-markers.result.now ≡ c.args.replica.now.markers
    → AllWays c.args.self.now c.args.replica.now.markers c.with_predecessor-places.result.now c.in-Some-all_ways.ways
ways c is = subst (λ (ks : List Fields). AllWays c.args.self.now ks c.with_predecessor-places.result.now
    c.in-Some-all_ways.ways) is c.in-Some-all_ways.ensures.few

some : (c : In-Some-all_ways)
    → ArePlaces (λ m. m.predecessor ≡ c.args.node) c.args.replica.now.markers c.with_predecessor-places.result.now
    → IsPredecessor (content_of c.args.replica.now) c.args.node
some c places = rewritten_somewhere c.args.replica.now _ _ places
    (λ e. true≢false (sym ((unsigned_Decides _ 0).1 e) ∙ sym c.is_empty.ensures ∙ c.if-is_empty.false))

pub returns-then-not-unites-clause-solves : goal.returns-then-not-unites-clause-solves
returns-then-not-unites-clause-solves c =
    let h = (goal.at.returns-then-not-unites-clause-solves c).After-with_predecessor-places in
    let found = (goal.at.returns-then-not-unites-clause-solves c).In-Some-all_ways in
    let s = c.args.replica.now in
    let n = c.args.node in
    let t = c.args.self.now in
    let empty : c.empty_ways-empty.result ≡ empties_at t s.markers c.with_predecessor-places.result.now =
    c.empty_ways-empty.ensures
    ∙ ap (λ (ks : List Fields). empties_at t ks c.with_predecessor-places.result.now) (same h) in
    let apart = c.requires.plan.apart n c.requires.held (off h)
    (λ unites. true≢false (sym (c.unites.ensures.1 unites) ∙ c.if-not-unites.true)) in
    let solved = solved_apart s t c.requires.table _ (off h) (c.requires.below c.if-cyclic.false) (different h) _
    (are h) c.in-Some-all_ways.ways (ways found (same h)) apart (some found (are h)) in
    solves_same (content_of s) n t (Counted (c.in-Some-all_ways.ways - c.empty_ways-empty.result)) (
      tt,
      subst (λ k. IsSolved (content_of s) n (counted (c.in-Some-all_ways.ways - k))) (sym empty) solved,
    )

pub returns-then-not-unites-clause-kept : goal.returns-then-not-unites-clause-kept
returns-then-not-unites-clause-kept c lists count same =
    true≢false (sym (c.unites.ensures.1 (inl lists)) ∙ c.if-not-unites.true)

pub returns-clause-solves : goal.returns-clause-solves
returns-clause-solves c =
    let h = (goal.at.returns-clause-solves c).After-with_predecessor-places in
    let found = (goal.at.returns-clause-solves c).In-Some-all_ways in
    let s = c.args.replica.now in
    let n = c.args.node in
    let t = c.args.self.now in
    let places = c.with_predecessor-places.result.now in
    let family = sets_of c.in_ok-family.family.items in
    let largest : AreLargest (flat_map (λ p. choices t (successors_at s.markers p)) places) family =
    subst (λ lists. AreLargest lists family)
    (c.in_ok-found.ensures ∙ ap (λ (ks : List Fields). flat_map (λ p. choices t (successors_at ks p)) places) (same h))
    c.in_ok-family.ensures in
    let unites = c.unites.ensures.0 c.if-not-unites.false in
    let solved = solved_few s t c.requires.table _ (off h) (c.requires.below c.if-cyclic.false) (different h) _ (are h)
    (ways found (same h)).few (λ x to. c.requires.kept x (c.requires.plan.closed n x unites to)) (some found (are h))
    family largest in
    IfOk-weaker c.sets_or_count.result _ (Solves (content_of s) n t c.sets_or_count.new.self)
    (λ e told. told (content_of s) n solved) c.sets_or_count.ensures.solves

pub returns-clause-kept : goal.returns-clause-kept
returns-clause-kept c lists = c.sets_or_count.ensures.kept (c.lists.ensures.1 lists)
