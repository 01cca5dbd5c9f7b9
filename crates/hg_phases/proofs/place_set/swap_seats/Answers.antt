use Rattle.std.proofs.Common.{◌≡◌, ◌<◌, ℕ, List, Some, slice_get, get_or, length, sym, ap, ◌∙◌, arith}
use Rattle.std.proofs.lemmas.Option.{slice_get-get_or}
use Rattle.hg_phases.proofs.SeatLemmas.{seat-within, swap-seated, swap-seats}
use Rattle.hg_phases.proofs.place_set.swap_seats.Goals as goal

-- what was read
read : (xs : List ℕ) (i x : ℕ) → i < length xs → x ≡ get_or xs i x → slice_get xs i ≡ Some x
read xs i x l is = slice_get-get_or xs i x l ∙ ap (λ y. Some y) (sym is)

pub index_mut-requires-3 : goal.index_mut-requires-3
index_mut-requires-3 c =
    let l = seat-within _ _ c.requires.seated _ _ (read _ _ _ c.requires.one c.index-first.ensures) in
    omega (arith, l, c.args.seats.now.ok.0)

pub index_mut-requires-4 : goal.index_mut-requires-4
index_mut-requires-4 c =
    let l = seat-within _ _ c.requires.seated _ _ (read _ _ _ c.requires.other c.index-second.ensures) in
    omega (arith, l, c.args.seats.now.ok.0)

pub returns-clause-seated : goal.returns-clause-seated
returns-clause-seated c =
    swap-seated _ _ c.requires.seated _ _ _ _ (read _ _ _ c.requires.one c.index-first.ensures)
    (read _ _ _ c.requires.other c.index-second.ensures)

pub returns-clause-seats : goal.returns-clause-seats
returns-clause-seats c =
    swap-seats _ _ c.requires.seated _ _ _ _ (read _ _ _ c.requires.one c.index-first.ensures)
    (read _ _ _ c.requires.other c.index-second.ensures)
