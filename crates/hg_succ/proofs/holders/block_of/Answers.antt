use Rattle.std.proofs.Common.{◌≡◌, ◌+◌, ◌<◌, ◌≤◌, ℕ, List, Vec, Global, length, Contains, arith, sym}
use Rattle.std.proofs.Common.{subst, ap, ◌∙◌, ltb-true, ltb-false}
use Rattle.std.proofs.lemmas.List.{length-map}
use Rattle.hg_succ.specs.Rows.{rows_of}
use Rattle.hg_succ.specs.Holders.{row_in}
use Rattle.hg_succ.proofs.HolderLemmas.{IsBlockBefore, row_here, row_of_some, block_more, block_same}
use Rattle.hg_succ.proofs.holders.block_of.Goals as goal
use Rattle.hg_succ.proofs.holders.block_of.Goals.{in-Some, in_default}

pub note-requires-clause-within : goal.note-requires-clause-within
note-requires-clause-within c m h =
    let rows = c.args.rows.now in
    let p = c.args.first + c.loop-bit.bit in
    let v = c.in-Some.row.now in
    let inside : p < length rows = ltb-true p (length rows) (sym c.in-Some.ensures.lookup.0) in
    let below = c.requires.count v.items m (row_of_some rows p v inside c.in-Some.ensures.lookup.1)
    (subst (λ (ms : List ℕ). Contains ms m) c.deref.ensures.value h) in
    omega (arith, below, c.loop-bit.invariant.long)

pub loop-bit-preserved : goal.loop-bit-preserved
loop-bit-preserved c =
    let rows = c.args.rows.now in
    let first = c.args.first in
    let bit = c.loop-bit.bit in
    elim c.match-get.branch [
      | in-Some w ↦
          let v = w.in-Some.row.now in
          let inside : first + bit < length rows = ltb-true (first + bit) (length rows)
          (sym w.in-Some.ensures.lookup.0) in
          let is : w.deref.result.now ≡ row_in (rows_of rows) (first + bit) =
          w.deref.ensures.value ∙ sym (row_here rows (first + bit) v inside w.in-Some.ensures.lookup.1) in
          let new : c.match-get.words.items ≡ w.note.new.words.items =
          ap (λ (ws : Vec ℕ Global). ws.items) w.words-is in
          record {
            long = omega (arith, ap length new, w.note.ensures.long, c.loop-bit.invariant.long);
            block = subst (IsBlockBefore (rows_of rows) first (bit + 1)) (sym new)
                (block_more (rows_of rows) first bit w.deref.result.now c.loop-bit.words.items w.note.new.words.items is
                c.loop-bit.invariant.block w.note.ensures);
          }
      | in_default w ↦
          let beyond : length rows ≤ first + bit = ltb-false (first + bit) (length rows)
          (sym w.in_default.ensures.lookup.0) in
          let same : c.match-get.words.items ≡ c.loop-bit.words.items =
          ap (λ (ws : Vec ℕ Global). ws.items) w.words-is in
          record {
            long = omega (arith, ap length same, c.loop-bit.invariant.long);
            block = subst (IsBlockBefore (rows_of rows) first (bit + 1)) (sym same)
                (block_same (rows_of rows) first bit c.loop-bit.words.items
                (omega (arith, beyond, length-map rows (λ (r : Vec ℕ Global). r.items))) c.loop-bit.invariant.block);
          }
    ]
