use Rattle.std.proofs.Common.{◌≡◌, length, rules}
use Rattle.hg_changeset.proofs.ComparingLemmas.{numbers_order}
use Rattle.hg_changeset.proofs.comparing.bytes_order.Goals as goal

pub returns : goal.returns
returns c =
    let first : length c.args.a.now ≡ 20 = search rules in
    let second : length c.args.b.now ≡ 20 = search rules in
    let bytes = c.numbers.ensures.bytes in
    let others = c.numbers-2.ensures.bytes in
    let order = numbers_order c.args.a.now c.args.b.now first second bytes others in
    cc
