use Rattle.std.proofs.Common.{◌≡◌, ◌<◌, ◌+◌, ◌*◌, ◌%◌, ◌^◌, take, set, length, get_or, bit_or, arith, sym, subst, ◌∙◌}
use Rattle.std.proofs.lemmas.List.Elements.{Contains-get_or}
use Rattle.std.proofs.lemmas.List.{get_or_default}
use Rattle.hg_succ.specs.Holders.{Notes}
use Rattle.hg_succ.proofs.NumberLemmas.{more_of}
use Rattle.hg_succ.proofs.HolderLemmas.{note_one}
use Rattle.hg_succ.proofs.holders.note.Goals as goal

pub index_mut-requires : goal.index_mut-requires
index_mut-requires c =
    let row = c.args.row.now in
    let i = c.loop-number.number-index in
    let l = c.requires.within (get_or row i 0) (Contains-get_or row i 0 c.loop-number-test.true) in
    omega (arith, l, c.loop-number.invariant.long, c.loop-number.words.ok)

pub loop-number-preserved : goal.loop-number-preserved
loop-number-preserved c =
    let row = c.args.row.now in
    let i = c.loop-number.number-index in
    let m = get_or row i 0 in
    let words = c.loop-number.words.items in
    let l = c.requires.within m (Contains-get_or row i 0 c.loop-number-test.true) in
    let l' : m < length words = omega (arith, l, c.loop-number.invariant.long) in
    let was = c.index_mut.result.now in
    let is : was ≡ get_or words m 0 = c.index_mut.ensures.value ∙ sym (get_or_default words m 0 was l') in
    subst (λ w. Notes c.args.bit (take (i + 1) row) c.args.words.now.items
    (set words m (bit_or w (1 * 2 ^ c.args.bit % 2 ^ 64)))) (sym is)
    (note_one c.args.bit (take i row) (take (i + 1) row) c.args.words.now.items words m c.requires.bit l'
    (more_of row i m c.loop-number-test.true (get_or_default row i 0 m c.loop-number-test.true))
    c.loop-number.invariant)
