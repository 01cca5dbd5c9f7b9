use Rattle.std.proofs.Common.{◌≡◌, ◌<◌, ◌∙◌, ℕ, List, length, arith, sym, ap, subst, Vec, Global}
use Rattle.std.proofs.lemmas.List.{length-map}
use Rattle.std.proofs.lemmas.Option.{slice_get_within, none-some}
use Rattle.hg_changeset.specs.declared.node.Node.{Node}
use Rattle.hg_graph.proofs.GraphLemmas.{place_from_Contains}
use Rattle.hg_replica.specs.Content.{content_of}
use Rattle.hg_succ.specs.declared.search.Closed.{Closed}
use Rattle.hg_succ.specs.Rows.{At, rows_of, AreWithin}
use Rattle.hg_succ.specs.Search.{IsListed}
use Rattle.hg_succ.specs.Numbered.{AreOnce}
use Rattle.hg_succ.proofs.PathLemmas.{rows_within}
use Rattle.hg_succ.proofs.families.table_of.Goals as goal

pub order-requires : goal.order-requires
order-requires c =
    let n = c.in_ok-nodes.ensures in
    let numbered = c.in_ok-nodes.field-0 in
    let w = rows_within (content_of c.args.replica.now) numbered.nodes.keys (rows_of numbered.rows.items) n.once n.all
    n.exact in
    subst (λ (rows : List (Vec ℕ Global)). AreWithin (rows_of rows)) (sym c.deref.ensures.value) w

pub returns-clause-done : goal.returns-clause-done
returns-clause-done c n h =
    let told = c.in_ok-nodes.ensures in
    let nodes = c.in_ok-nodes.field-0.nodes.keys in
    let rows = c.in_ok-nodes.field-0.rows.items in
    let place = place_from_Contains nodes n (told.first n h) in
    let some : place.0 < length c.deref.result.now = (let l = slice_get_within nodes place.0 n place.1 in
    omega (
      arith,
      l,
      told.all,
      length-map rows (λ (row : Vec ℕ Global). row.items),
      ap length c.deref.ensures.value,
    )) in
    let listed = c.in_ok-order.ensures.all place.0 some in
    let at : At c.deref-5.result.now listed.0 listed.1 = subst (λ (es : List Closed). At es listed.0 listed.1)
    (sym c.deref-5.ensures.value) listed.3 in
    let here : At nodes listed.1.node n = subst (λ i. At nodes i n) (sym listed.4) place.1 in
    let same : nodes ≡ c.in_ok-table.table.nodes.keys = sym c.in_ok-table.ensures.nodes in
    c.in_ok-add_all.ensures.done listed.0 listed.1 n at (subst (λ (ns : List Node). At ns listed.1.node n) same here)

pub new-requires-clause-listed : goal.new-requires-clause-listed
new-requires-clause-listed c x l =
    let rows = c.in_ok-nodes.rows.items in
    subst (λ (es : List Closed). IsListed es x) (sym c.deref-3.ensures.value)
    (c.in_ok-order.ensures.all x (omega (
      arith,
      l,
      ap length c.deref-2.ensures.value,
      ap length
          c.deref.ensures.value,
    )))

pub add_all-requires-clause-table : goal.add_all-requires-clause-table
add_all-requires-clause-table c = record {
  once = subst AreOnce (sym c.in_ok-table.ensures.nodes) c.in_ok-nodes.ensures.once;
  long = c.in_ok-table.ensures.long;
  right = λ n solved is. absurd (none-some solved (sym (c.in_ok-table.ensures.none n) ∙ is));
}

pub returns-clause-sets : goal.returns-clause-sets
returns-clause-sets c asked n count is =
    c.in_ok-add_all.ensures.kept n (c.in_ok-plan.ensures.sets asked n) count is
