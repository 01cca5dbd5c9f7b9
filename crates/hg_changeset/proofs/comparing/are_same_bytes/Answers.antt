use Rattle.std.proofs.Common.{◌≡◌, length, rules}
use Rattle.hg_changeset.proofs.ComparingLemmas.{same_bytes}
use Rattle.hg_changeset.proofs.comparing.are_same_bytes.Goals as goal

pub returns : goal.returns
returns c =
    let first : length c.args.a.now ≡ 20 = search rules in
    let second : length c.args.b.now ≡ 20 = search rules in
    let same = same_bytes c.args.a.now c.args.b.now first second c.numbers.ensures.bytes c.numbers-2.ensures.bytes in
    cc
