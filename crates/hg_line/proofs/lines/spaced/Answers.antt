use Rattle.std.proofs.Common.{rules, tests, ◌≡◌, ◌<◌, ◌==◌, ◌++◌, not, length, map, ap, sym, ◌∙◌, Some}
use Rattle.std.proofs.Common.{arith, refl, slice_get}
use Rattle.std.proofs.lemmas.Iterator.Consumers.{YieldsList-at, YieldsList-from_filter, nth_from_yields_List}
use Rattle.std.proofs.lemmas.Iterator.Splits.{YieldsList-from_slice_split}
use Rattle.std.proofs.lemmas.Option.{slice_get_within}
use Rattle.std.proofs.lemmas.Result.{err_from_is_err_and}
use Rattle.hg_line.specs.Words.{spaced}
use Rattle.hg_line.proofs.GatherLemmas.{from_extend}
use Rattle.hg_line.proofs.lines.spaced.Goals as goal

pub returns-clause-words : goal.returns-clause-words
returns-clause-words c =
    from_extend c.in_ok-extend.ensures.ran
    (YieldsList-from_filter _ (λ word. not (length word == 0))
    (YieldsList-at c.filter.ensures.source
    (YieldsList-from_slice_split _ _ c.args.line.now c.split.ensures.rest c.split.ensures.done
    c.split.ensures.closure (λ x r q k. search (rules, tests))))
    c.filter.ensures.closure
    (λ x r q k. search (rules, tests)))
    (λ xs e h. ap (map (λ w. w.now)) (h ∙ ap (λ ws. ws ++ xs) c.new-words.ensures.items) ∙ e)

pub returns-in_err-extend-clause-memory : goal.returns-in_err-extend-clause-memory
returns-in_err-extend-clause-memory c =
    let (it, xs, x, rest, gives, yields, grown, full) = c.in_err-extend.ensures.full in
    let at : Some x.now ≡ slice_get (spaced c.args.line.now) (length xs) =
    nth_from_yields_List (Some x) rest (length xs) (xs, yields, refl)
    (YieldsList-at gives
    (YieldsList-from_filter _ (λ word. not (length word == 0))
    (YieldsList-at c.filter.ensures.source
    (YieldsList-from_slice_split _ _ c.args.line.now c.split.ensures.rest c.split.ensures.done
    c.split.ensures.closure (λ x r q k. search (rules, tests))))
    c.filter.ensures.closure
    (λ x r q k. search (rules, tests)))) in
    let p = err_from_is_err_and c.from_residual.result c.from_residual.ensures.1 in
    let more : 8 < length (spaced c.args.line.now) =
    omega (
      arith,
      slice_get_within (spaced c.args.line.now) (length xs) x.now (sym at),
      full,
      c.in_err-extend.ensures.capacity,
      c.new-words.ensures.capacity,
      ap length (grown ∙ ap (λ ws. ws ++ xs) c.new-words.ensures.items),
    ) in
    rw p.1 more
