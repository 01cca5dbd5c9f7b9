use Rattle.std.proofs.Common.{◌≡◌, ◌+◌, ◌<◌, ℕ, List, length, get_or, Contains, refl, sym, ap, subst, ◌∙◌}
use Rattle.std.proofs.Common.{arith, Vec, Global}
use Rattle.std.proofs.Common.{false, not, true≢false}
use Rattle.std.proofs.lemmas.List.{length-map}
use Rattle.std.proofs.lemmas.Option.{slice_get-get_or, slice_get_within}
use Rattle.hg_changeset.specs.declared.node.Node.{Node}
use Rattle.hg_changeset.proofs.ListLemmas.{slice_get_some}
use Rattle.hg_replica.specs.Content.{content_of}
use Rattle.hg_succ.specs.declared.search.Closed.{Closed}
use Rattle.hg_succ.specs.Rows.{At, rows_of}
use Rattle.hg_succ.specs.Plan.{AreSeen}
use Rattle.hg_succ.proofs.ListLemmas.{row_at}
use Rattle.hg_succ.proofs.PathLemmas.{rows_within}
use Rattle.hg_succ.proofs.RangeLemmas.{seen_more, starts_more}
use Rattle.hg_succ.proofs.ranges.Ranges.see_all.Goals as goal
use Rattle.hg_succ.proofs.ranges.Ranges.see_all.Goals.{then-not-gathered+in_ok-note_overlap, else-not-gathered}

all_rows : (rows : List (Vec ℕ Global)) (nodes : List Node) → length rows ≡ length nodes
    → length (rows_of rows) ≡ length nodes
all_rows rows nodes all = length-map rows (λ (row : Vec ℕ Global). row.items) ∙ all

pub note_overlap-requires-clause-row : goal.note_overlap-requires-clause-row
note_overlap-requires-clause-row c j h =
    let nodes = c.args.nodes.now.keys in
    let rows = c.args.rows.now in
    let i = c.loop-closed.closed-index in
    let e : Closed = get_or c.args.order.now i (record { node = 0; cyclic = false }) in
    let e_at : At c.args.order.now i e = slice_get-get_or c.args.order.now i (record { node = 0; cyclic = false })
    c.loop-closed-test.true in
    let l : e.node < length rows = (let k = c.requires.order.nodes i e e_at in
    omega (arith, k, length-map rows (λ (row : Vec ℕ Global). row.items))) in
    let row = c.index-rows-number.result in
    let at : At (rows_of rows) e.node row.items = row_at rows e.node row l c.index-rows-number.is in
    let w = rows_within (content_of c.args.replica.now) nodes (rows_of rows) c.requires.once
    (all_rows rows nodes c.requires.all) c.requires.rows e.node j
    (row.items, at, subst (λ (js : List ℕ). Contains js j) c.deref-then-not-gathered.ensures.value h) in
    omega (arith, w, all_rows rows nodes c.requires.all)

pub loop-closed-preserved : goal.loop-closed-preserved
loop-closed-preserved c =
    let s = c.args.replica.now in
    let nodes = c.args.nodes.now.keys in
    let rows = c.args.rows.now in
    let order = c.args.order.now in
    let ranks = c.args.ranks.now in
    let i = c.loop-closed.closed-index in
    let e : Closed = get_or order i (record { node = 0; cyclic = false }) in
    let e_at : At order i e = slice_get-get_or order i (record { node = 0; cyclic = false })
    c.loop-closed-test.true in
    let all = all_rows rows nodes c.requires.all in
    let l : e.node < length rows = (let k = c.requires.order.nodes i e e_at in
    omega (arith, k, length-map rows (λ (row : Vec ℕ Global). row.items))) in
    let old = c.loop-closed.self in
    let before = c.loop-closed.invariant in
    let g = c.gathered-gathered.result in
    let told = c.gathered-gathered.ensures in
    let some = slice_get_some nodes e.node (omega (arith, l, c.requires.all)) in
    elim c.if-not-gathered.branch [
      | then-not-gathered+in_ok-note_overlap w ↦
          let noted = w.in_ok-note_overlap.ensures some.0 some.1 in
          let row = c.index-rows-number.result in
          let at : At (rows_of rows) e.node row.items = row_at rows e.node row l c.index-rows-number.is in
          subst (AreSeen s ranks nodes order (i + 1)) (sym w.self-is)
          (seen_more s ranks nodes order (rows_of rows) c.requires.once all c.requires.rows c.requires.order i e
          e_at
          old before g told.cyclic told.seen w.note_overlap.new.self noted.ranges (λ x h. noted.kept x h)
          (λ apart x x_at. (w.in_ok-note_overlap.ensures x x_at).there)
          (starts_more s ranks nodes order (rows_of rows) c.requires.once all c.requires.rows c.requires.order i e e_at
          old before g told.cyclic told.seen row.items w.note_overlap.new.self at some.0 some.1 noted.only
          (λ j y h y_at. noted.starts j y
          (subst (λ (js : List ℕ). Contains js j) (sym w.deref-then-not-gathered.ensures.value) h) y_at)
          noted.starts_kept))
      | else-not-gathered w ↦
          subst (AreSeen s ranks nodes order (i + 1)) (sym w.self-is)
          (seen_more s ranks nodes order (rows_of rows) c.requires.once all c.requires.rows c.requires.order i e
          e_at
          old before g told.cyclic told.seen _ refl (λ x h. h)
          (λ apart x x_at. absurd (true≢false (sym (ap not apart) ∙ w.if-not-gathered.false))) before.starts)
    ]

pub returns : goal.returns
returns c =
    let before = c.loop-closed.invariant in
    record {
      judged = λ k e x e_at x_at. before.judged k e x
          (let l = slice_get_within c.args.order.now k e e_at in omega (arith, l, c.loop-closed-test.false)) e_at x_at;
      starts = before.starts;
    }
