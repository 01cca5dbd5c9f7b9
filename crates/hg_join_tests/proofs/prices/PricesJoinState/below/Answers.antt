use Rattle.std.proofs.Common.{Result, Ok, Err, IfOk}
use Rattle.std.specs.Result.{IsOkAnd}
use Rattle.hg_join_tests.proofs.prices.PricesJoinState.below.Goals as goal

-- what holds of an answer that is always given holds of it where it is given
if_ok : {T E : Type 0} (r : Result T E) (P : T → Type 0) → IsOkAnd r P → IfOk r P
if_ok (Ok x) P h = h
if_ok (Err e) P h = absurd h

pub returns-clause-answer : goal.returns-clause-answer
returns-clause-answer c = rw (← c.self.view_is, ← c.other.view_is) (if_ok c.below.result _ c.below.ensures)
