use Rattle.std.proofs.Common.{◌≡◌, ◌<◌, ◌∷◌, ◌++◌, [], ℕ, List, length, get_or, Contains, arith, sym, subst, ap, ◌∙◌}
use Rattle.std.proofs.Common.{Vec, Global, Some, slice_get}
use Rattle.std.proofs.lemmas.List.{length_push, length-map, length-append}
use Rattle.std.proofs.lemmas.Option.{slice_get-get_or}
use Rattle.hg_changeset.specs.declared.node.Node.{Node}
use Rattle.std.proofs.lemmas.List.Elements.{Contains-append_left}
use Rattle.hg_replica.specs.Content.{content_of}
use Rattle.hg_succ.specs.Rows.{At, rows_of}
use Rattle.hg_succ.specs.Numbered.{AreRows}
use Rattle.hg_succ.proofs.NumberLemmas.{rows_more, once, no_rows}
use Rattle.hg_succ.proofs.numbered.number.Goals as goal

pub rows-init : goal.rows-init
rows-init c = record {
  first = λ n h. h;
  short = omega (arith, ap length c.new-rows.ensures.items);
  exact = no_rows (content_of c.args.replica.now) c.args.roots.keys c.new-rows.result.items c.new-rows.ensures.items;
}

pub rows-preserved : goal.rows-preserved
rows-preserved c =
    let rows = c.rows.rows.items in
    let old = c.rows.nodes.keys in
    let new = c.next_row.new.nodes.keys in
    let k = c.len-in-rows-2.result in
    let x : Node = get_or c.as_slice.result.now k (record { 0 = [] }) in
    let k_is : k ≡ length rows = c.len-in-rows-2.ensures ∙ c.rows.rows.ok.0 in
    let inside : length rows < length old =
    omega (arith, c.rows-test.true, c.len.ensures, c.rows.rows.ok.0, c.len-in-rows.ensures.len) in
    let read : At old (length rows) x = subst (λ (ns : List Node). slice_get ns (length rows) ≡ Some x)
    c.as_slice.ensures.keys
    (subst (λ i. slice_get c.as_slice.result.now i ≡ Some x) k_is
    (slice_get-get_or c.as_slice.result.now k (record { 0 = [] })
    (omega (arith, k_is, inside, ap length c.as_slice.ensures.keys)))) in
    let grows = c.in_ok-row.ensures.grows in
    let exact : AreRows (content_of c.args.replica.now) new (rows_of (rows ++ c.in_ok-row.row ∷ [])) =
    rows_more (content_of c.args.replica.now) old new rows x c.in_ok-row.row inside grows read
    c.rows.invariant.exact c.in_ok-row.ensures.row in
    record {
      first = λ n h. subst (λ (ns : List Node). Contains ns n) (sym grows.1)
          (Contains-append_left old grows.0 n (c.rows.invariant.first n h));
      short = omega (
        arith,
        ap length c.in_ok-push.ensures.items,
        length_push rows c.in_ok-row.row,
        inside,
        ap length grows.1,
        length-append old grows.0,
      );
      exact = subst (λ (rs : List (Vec ℕ Global)). AreRows (content_of c.args.replica.now) new (rows_of rs))
          (sym c.in_ok-push.ensures.items) exact;
    }

pub returns : goal.returns
returns c = record {
  first = c.rows.invariant.first;
  once = once c.rows.nodes.keys c.len-in-rows.ensures.unique;
  all = (let h = c.rows.invariant.short in
      omega (
        arith,
        h,
        c.rows-test.false,
        c.len.ensures,
        c.len-in-rows.ensures.len,
        c.rows.rows.ok.0,
        length-map c.rows.rows.items (λ (row : Vec ℕ Global). row.items),
      ));
  exact = c.rows.invariant.exact;
}
