use Rattle.std.proofs.Common.{◌≡◌, ◌++◌, ◌∷◌, [], ℕ, List, true≢false, arith, ap, sym, subst, ◌∙◌}
use Rattle.std.proofs.lemmas.List.{length-map}
use Rattle.std.proofs.lemmas.Option.{slice_get_within}
use Rattle.hg_succ.specs.Rows.{rows_of}
use Rattle.hg_succ.specs.Search.{state_of, IsSearch, IsAtEnd}
use Rattle.hg_succ.proofs.ListLemmas.{popped}
use Rattle.hg_succ.proofs.SearchLemmas.{waiting_within, inner_start}
use Rattle.hg_succ.proofs.CloseLemmas.{leaves, closes}
use Rattle.hg_succ.proofs.search.Search.leave.Goals as goal

pub returns-then-not-starts_at-clause-search : goal.returns-then-not-starts_at-clause-search
returns-then-not-starts_at-clause-search c =
    let s = state_of c.args.self.now in
    let R = rows_of c.args.rows.now in
    let u = c.requires.end.0 in
    let end = c.requires.end.1 in
    let front : c.pop.new.self.items ≡ end.last.0 = popped s.path c.pop.new.self.items end.last.0
    c.args.self.now.path.len c.args.place c.args.self.now.path.ok.0 c.pop.ensures.rest end.last.1 in
    let inner = inner_start R s c.requires.search c.args.place u end
    (λ e. true≢false (sym (c.starts_at.ensures.1 e) ∙ c.if-not-starts_at.true)) in
    subst (λ (p : List ℕ). IsSearch R (record s { path = p })) (sym front)
    (leaves R s c.requires.search c.args.place u end c.requires.end.2 inner)

pub is_cyclic-cyclic-requires : goal.is_cyclic-cyclic-requires
is_cyclic-cyclic-requires c =
    let s = state_of c.args.self.now in
    let at = c.requires.end.1.waits in (
      c.requires.end.0,
      at,
      (let l = waiting_within (rows_of c.args.rows.now) s c.requires.search c.args.place c.requires.end.0 at in
          omega (arith, l, c.requires.search.marks_long, length-map c.args.rows.now (λ row. row.items))),
    )

pub close-requires-clause-place : goal.close-requires-clause-place
close-requires-clause-place c = let l = slice_get_within c.args.self.now.waiting.items c.args.place c.requires.end.0
    c.requires.end.1.waits in omega arith

pub close-requires-clause-within : goal.close-requires-clause-within
close-requires-clause-within c p x h = waiting_within (rows_of c.args.rows.now) (state_of c.args.self.now)
    c.requires.search p x h

pub returns-clause-search : goal.returns-clause-search
returns-clause-search c =
    let s = state_of c.args.self.now in
    let R = rows_of c.args.rows.now in
    let u = c.requires.end.0 in
    let end = c.requires.end.1 in
    let ends = c.starts_at.ensures.0 c.if-not-starts_at.false in
    let path_is : c.args.self.now.path.items ≡ c.pop.new.self.items ++ c.args.place ∷ [] =
    end.last.1 ∙ ap (λ (xs : List ℕ). xs ++ c.args.place ∷ [])
    (sym (popped s.path c.pop.new.self.items end.last.0 c.args.self.now.path.len c.args.place
    c.args.self.now.path.ok.0 c.pop.ensures.rest end.last.1)) in
    let starts_are : c.args.self.now.starts.items ≡ c.pop-2.new.self.items ++ c.args.place ∷ [] =
    ends.1 ∙ ap (λ (xs : List ℕ). xs ++ c.args.place ∷ [])
    (sym (popped s.starts c.pop-2.new.self.items ends.0 c.args.self.now.starts.len c.args.place
    c.args.self.now.starts.ok.0 c.pop-2.ensures.rest ends.1)) in
    let end' : IsAtEnd s c.args.place u = record { last = (c.pop.new.self.items, path_is); waits = end.waits } in
    closes R s c.requires.search c.args.place u end' c.requires.end.2 c.pop-2.new.self.items starts_are
    c.is_cyclic-cyclic.result (c.is_cyclic-cyclic.ensures u end.waits) (state_of c.close.new.self)
    c.in_ok-close.ensures
