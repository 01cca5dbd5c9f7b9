use Rattle.std.proofs.Common.{◌≡◌, ℕ, List, get_or, arith, sym, subst, ◌∙◌, inl, inr, Vec, Global, false}
use Rattle.std.proofs.lemmas.Bool.{cases_lt}
use Rattle.std.proofs.lemmas.List.{length-map}
use Rattle.std.proofs.lemmas.Option.{slice_get-get_or, slice_get_within}
use Rattle.hg_changeset.specs.declared.node.Node.{Node}
use Rattle.hg_replica.specs.Content.{content_of}
use Rattle.hg_succ.specs.declared.search.Closed.{Closed}
use Rattle.hg_succ.specs.Rows.{At, rows_of}
use Rattle.hg_succ.proofs.ListLemmas.{get_one}
use Rattle.hg_succ.proofs.PathLemmas.{cycles_are, edge_from}
use Rattle.hg_succ.proofs.families.Table.add_all.Goals as goal
use Rattle.hg_succ.proofs.families.Table.add_all.Goals.{In-loop-closed}

-- the node that is closed next
abbrev closed : In-loop-closed → Closed
closed c = get_or c.args.order.now c.loop-closed.closed-index (record { node = 0; cyclic = false })

at : (c : In-loop-closed) → At c.args.order.now c.loop-closed.closed-index (closed c)
at c = slice_get-get_or c.args.order.now c.loop-closed.closed-index (record { node = 0; cyclic = false })
    c.loop-closed-test.true

pub add-requires-clause-cyclic : goal.add-requires-clause-cyclic
add-requires-clause-cyclic c n at_n =
    let h = (goal.at.add-requires-clause-cyclic c).In-loop-closed in
    let nodes = c.args.self.now.nodes.keys in
    let rows = c.args.rows.now in
    let e = closed h in
    let before : At nodes e.node n = subst (λ (ns : List Node). At ns e.node n) c.loop-closed.invariant.nodes at_n in
    let cycles = cycles_are (content_of c.args.replica.now) nodes (rows_of rows) c.requires.table.once
    (length-map rows (λ (row : Vec ℕ Global). row.items) ∙ c.requires.all) c.requires.rows e.node n before in
    let told = c.requires.order.cyclic c.loop-closed.closed-index e (at h) in
    (λ t. cycles.0 (told.0 t), λ on. told.1 (cycles.1 on))

pub add-requires-clause-below : goal.add-requires-clause-below
add-requires-clause-below c off n y at_n to =
    let h = (goal.at.add-requires-clause-below c).In-loop-closed in
    let nodes = c.args.self.now.nodes.keys in
    let rows = c.args.rows.now in
    let e = closed h in
    let before : At nodes e.node n = subst (λ (ns : List Node). At ns e.node n) c.loop-closed.invariant.nodes at_n in
    let edge = edge_from (content_of c.args.replica.now) nodes (rows_of rows) c.requires.table.once
    (length-map rows (λ (row : Vec ℕ Global). row.items) ∙ c.requires.all) c.requires.rows e.node n y before to in
    let earlier = c.requires.order.after c.loop-closed.closed-index e edge.0 (at h) off edge.2 in
    c.loop-closed.invariant.done earlier.0 earlier.1 y earlier.2 earlier.3
    (subst (λ j. At nodes j y) (sym earlier.4) edge.1)

pub loop-closed-preserved : goal.loop-closed-preserved
loop-closed-preserved c =
    let h = (goal.at.loop-closed-preserved c).In-loop-closed in
    let nodes = c.args.self.now.nodes.keys in
    let i = c.loop-closed.closed-index in
    let now : c.add.new.self.nodes.keys ≡ nodes = c.in_ok-add.ensures.answer.nodes ∙ c.loop-closed.invariant.nodes in
    record {
      table = c.in_ok-add.ensures.answer.table;
      nodes = now;
      done = λ k d y l d_at y_at. elim (cases_lt k i) [
        | inl before ↦ c.in_ok-add.ensures.answer.kept y (c.loop-closed.invariant.done k d y before d_at y_at)
        | inr last ↦
            let k_is : k ≡ i = omega arith in
            let d_is : d ≡ closed h =
            get_one c.args.order.now i d (closed h) (subst (λ j. At c.args.order.now j d) k_is d_at) (at h) in
            c.in_ok-add.ensures.answer.done y
            (subst (λ (ns : List Node). At ns (closed h).node y) (sym now)
            (subst (λ (s : Closed). At nodes s.node y) d_is y_at))
      ];
      kept = c.in_ok-add.ensures.kept;
    }

pub returns-clause-done : goal.returns-clause-done
returns-clause-done c k e x e_at x_at = c.loop-closed.invariant.done k e x
    (let l = slice_get_within c.args.order.now k e e_at in omega (arith, l, c.loop-closed-test.false)) e_at x_at
