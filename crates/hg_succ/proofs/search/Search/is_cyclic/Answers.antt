use Rattle.std.proofs.Common.{◌≡◌, ℕ, List, length, arith, sym, subst, refl, Contains, inl, inr}
use Rattle.std.proofs.lemmas.Option.{slice_get_read, slice_get_within}
use Rattle.hg_succ.specs.Rows.{At, rows_of, Edge}
use Rattle.hg_succ.proofs.ListLemmas.{get_one, test_contains, row_at}
use Rattle.hg_succ.proofs.search.Search.is_cyclic.Goals as goal

pub returns : goal.returns
returns c u at =
    let node = c.index.result.now in
    let rows = c.args.rows.now in
    let vec = c.index-rows-node.result in
    let waiting = c.args.self.now.waiting.items in
    let here : At waiting c.args.place node = slice_get_read waiting (length waiting) c.args.place node refl
    (slice_get_within waiting c.args.place u at) c.index.ensures in
    let is : node ≡ u = get_one waiting c.args.place node u here at in
    let row : At (rows_of rows) node vec.items =
    row_at rows node vec (let same = get_one waiting c.args.place c.requires.0 u c.requires.1 at in
    omega (arith, same, is, c.requires.2)) c.index-rows-node.is in
    let loop = test_contains c.deref.result.now node c.contains.result c.contains.ensures.cases in (
      (λ t. inr (subst (λ v. Edge (rows_of rows) v v) is
          (vec.items, row, subst (λ (xs : List ℕ). Contains xs node) c.deref.ensures.value (loop.0 t)))),
      (λ part. elim part [
        | inl long ↦ absurd (omega (arith, long, c.if-place-len.false, c.len.ensures, c.args.self.now.waiting.ok.0))
        | inr edge ↦
            let e : Edge (rows_of rows) node node = subst (λ v. Edge (rows_of rows) v v) (sym is) edge in
            loop.1 (subst (λ (xs : List ℕ). Contains xs node) (sym c.deref.ensures.value)
            (subst (λ (xs : List ℕ). Contains xs node) (get_one (rows_of rows) node e.0 vec.items e.1 row) e.2))
      ]),
    )
