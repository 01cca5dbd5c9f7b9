use Rattle.std.proofs.Common.{length, inl, refl, sym}
use Rattle.std.proofs.lemmas.Bool.{eqb-false}
use Rattle.hg_join_tests.specs.QuoteLaws.{bytes_are_due}
use Rattle.hg_join_tests.proofs.QuoteLemmas.{one_is_odd, bytes-two_more}
use Rattle.hg_join_tests.proofs.prices.PricesActor.read.Goals as goal

pub returns-in_err-push-clause-due : goal.returns-in_err-push-clause-due
returns-in_err-push-clause-due c = bytes_are_due c.args.bytes.now

pub loop-left-preserved : goal.loop-left-preserved
loop-left-preserved c =
    bytes-two_more c.args.bytes.now c.loop-left.left.now c.loop-left.pairs.items c.push.new.self.items
    c.loop-left.invariant c.in-len2-up.len_at_least c.in_ok-push.ensures.items

pub returns-else-is_empty-clause-err : goal.returns-else-is_empty-clause-err
returns-else-is_empty-clause-err c =
    inl (
      one_is_odd c.args.bytes.now c.loop-left.left.now c.loop-left.pairs.items c.loop-left.invariant
          c.in_default.len_below (eqb-false (length c.loop-left.left.now) 0 (sym c.if-is_empty.ensures)),
      refl,
    )

pub returns-else-is_empty-clause-due : goal.returns-else-is_empty-clause-due
returns-else-is_empty-clause-due c = bytes_are_due c.args.bytes.now
