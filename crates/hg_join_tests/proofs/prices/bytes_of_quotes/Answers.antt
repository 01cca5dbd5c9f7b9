use Rattle.std.proofs.Common.{sym, ap, ◌∙◌}
use Rattle.std.proofs.Common.{Vec, Global, ℕ}
use Rattle.hg_join_tests.specs.Quotes.{told}
use Rattle.hg_join_tests.proofs.QuoteLemmas.{bytes-next_priced, bytes-next_unpriced}
use Rattle.hg_join_tests.proofs.prices.bytes_of_quotes.Goals as goal
use Rattle.hg_join_tests.proofs.prices.bytes_of_quotes.Goals.{in-Some+in_ok-push+in_ok-push-2, in_default}

pub loop-item-preserved : goal.loop-item-preserved
loop-item-preserved c =
    let price = told c.args.prices.now in
    let xs = c.args.items.now in
    let i = c.loop-item.item-index in
    let old = c.loop-item.bytes.items in
    elim c.match-told_price.branch [
      | in-Some+in_ok-push+in_ok-push-2 w ↦
          ap (λ (v : Vec ℕ Global). v.items) w.bytes-is
          ∙ bytes-next_priced price xs i old c.loop-item-test.true c.loop-item.invariant w.in-Some.price
          w.push.new.self.items w.push-in-Some.new.self.items (sym c.told_price.ensures ∙ w.in-Some.is)
          w.in_ok-push.ensures.items w.in_ok-push-2.ensures.items
      | in_default w ↦ ap (λ (v : Vec ℕ Global). v.items) w.bytes-is
          ∙ bytes-next_unpriced price xs i old c.loop-item-test.true c.loop-item.invariant
          (sym c.told_price.ensures ∙ w.in_default.is)
    ]
