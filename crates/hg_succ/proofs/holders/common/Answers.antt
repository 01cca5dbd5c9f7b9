use Rattle.std.proofs.Common.{rules, ◌<◌, ◌+◌, ℕ, List, take, drop, length, get_or, Contains, subst, take-append-drop}
use Rattle.std.proofs.lemmas.List.Elements.{Contains-append_left, Contains-get_or}
use Rattle.std.proofs.lemmas.List.{get_or_default}
use Rattle.hg_succ.specs.Holders.{IsCommon}
use Rattle.hg_succ.proofs.NumberLemmas.{more_of}
use Rattle.hg_succ.proofs.HolderLemmas.{common_none, common_more, common_zero}
use Rattle.hg_succ.proofs.holders.common.Goals as goal

pub loop-number-init : goal.loop-number-init
loop-number-init c = common_none c.args.words.now

pub offset_bounds-words-number : goal.offset_bounds-words-number
offset_bounds-words-number c =
    let row = c.args.row.now in
    let i = c.loop-number.number-index in
    let l : get_or row i 0 < length c.args.words.now =
    c.requires (get_or row i 0) (Contains-get_or row i 0 c.loop-number-test.true) in
    search rules

pub bounds-words-number : goal.bounds-words-number
bounds-words-number c =
    let row = c.args.row.now in
    let i = c.loop-number.number-index in
    c.requires (get_or row i 0) (Contains-get_or row i 0 c.loop-number-test.true)

pub returns-then-common-eq0 : goal.returns-then-common-eq0
returns-then-common-eq0 c =
    let words = c.args.words.now in
    let row = c.args.row.now in
    let i = c.loop-number.number-index in
    let m = get_or row i 0 in
    let some : IsCommon words (take (i + 1) row) 0 = subst (IsCommon words (take (i + 1) row)) c.if-common-eq0.true
    (common_more words (take i row) (take (i + 1) row) m c.loop-number.common
    (more_of row i m c.loop-number-test.true (get_or_default row i 0 m c.loop-number-test.true))
    c.loop-number.invariant) in
    common_zero words (take (i + 1) row) row (λ k h. subst (λ (ms : List ℕ). Contains ms k)
    (take-append-drop (i + 1) row) (Contains-append_left (take (i + 1) row) (drop (i + 1) row) k h)) some

pub loop-number-preserved : goal.loop-number-preserved
loop-number-preserved c =
    let row = c.args.row.now in
    let i = c.loop-number.number-index in
    let m = get_or row i 0 in
    common_more c.args.words.now (take i row) (take (i + 1) row) m c.loop-number.common
    (more_of row i m c.loop-number-test.true (get_or_default row i 0 m c.loop-number-test.true)) c.loop-number.invariant
