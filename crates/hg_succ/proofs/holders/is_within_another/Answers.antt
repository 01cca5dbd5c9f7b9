use Rattle.std.proofs.Common.{◌*◌, ℕ, List, Vec, Global, Contains, length, arith, ap, subst}
use Rattle.std.proofs.Common.{refl, true≢false}
use Rattle.std.proofs.lemmas.List.{length-map}
use Rattle.hg_succ.specs.Rows.{rows_of}
use Rattle.hg_succ.proofs.ListLemmas.{row_at}
use Rattle.hg_succ.proofs.HolderLemmas.{agree_none, common_here, none_agree, none_at_all, row_of_some}
use Rattle.hg_succ.proofs.holders.is_within_another.Goals as goal

pub common-requires : goal.common-requires
common-requires c m h =
    let rows = c.args.rows.now in
    let v = c.index-rows-place.result in
    let ws = c.index-blocks-block.result in
    let below = c.requires.words v.items ws.items m
    (row_of_some rows c.args.place v c.requires.place c.index-rows-place.is)
    (row_of_some c.args.blocks.now c.loop-block.block ws c.loop-block-test.true c.index-blocks-block.is)
    (subst (λ (ms : List ℕ). Contains ms m) c.deref-in-loop-block.ensures.value h) in
    omega (arith, below, ap length c.deref.ensures.value)

pub returns-then-common-own_bit : goal.returns-then-common-own_bit
returns-then-common-own_bit c =
    let rows = c.args.rows.now in
    let blocks = c.args.blocks.now in
    let v = c.index-rows-place.result in
    let ws = c.index-blocks-block.result in
    let common = common_here rows c.args.place v ws c.deref.result.now c.deref-in-loop-block.result.now c.common.result
    c.requires.place c.index-rows-place.is c.deref.ensures.value c.deref-in-loop-block.ensures.value
    c.common.ensures in (
      λ e. absurd (true≢false e),
      λ none. absurd (c.if-common-own_bit.true (none_agree (rows_of rows) (rows_of blocks) c.args.place
          c.loop-block.block ws.items c.common.result c.own_bit.result c.requires.blocks
          (row_at blocks c.loop-block.block ws c.loop-block-test.true c.index-blocks-block.is) common c.own_bit.ensures
          c.requires.some none)),
    )

pub loop-block-preserved : goal.loop-block-preserved
loop-block-preserved c =
    let rows = c.args.rows.now in
    let blocks = c.args.blocks.now in
    let v = c.index-rows-place.result in
    let ws = c.index-blocks-block.result in
    let common = common_here rows c.args.place v ws c.deref.result.now c.deref-in-loop-block.result.now c.common.result
    c.requires.place c.index-rows-place.is c.deref.ensures.value c.deref-in-loop-block.ensures.value c.common.ensures in
    let none = agree_none (rows_of rows) (rows_of blocks) c.args.place c.loop-block.block ws.items c.common.result
    c.own_bit.result c.requires.blocks
    (row_at blocks c.loop-block.block ws c.loop-block-test.true c.index-blocks-block.is) common c.own_bit.ensures
    c.if-common-own_bit.false c.loop-block.invariant in
    λ q l end other within. none q l (omega (arith, end)) other within

pub returns : goal.returns
returns c =
    let rows = rows_of c.args.rows.now in
    let none = none_at_all rows c.args.place (c.loop-block.block * 64)
    (omega (
      arith,
      c.requires.blocks.all,
      c.loop-block-test.false,
      length-map c.args.blocks.now (λ (r : Vec ℕ Global). r.items),
    )) c.loop-block.invariant in
    ((λ e. none), (λ h. refl))
