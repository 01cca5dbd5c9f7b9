use Rattle.std.proofs.Common.{sym, ◌∙◌}
use Rattle.std.proofs.lemmas.Iterator.{YieldsList-from_slice, items_from_drains}
use Rattle.std.proofs.lemmas.Iterator.Consumers.{YieldsList-at, YieldsList-from_copied}
use Rattle.std.proofs.lemmas.List.{map-id}
use Rattle.hg_names.proofs.NameLemmas.{few_are_distinct, distinct_by_count}
use Rattle.hg_names.proofs.names.are_distinct.Goals as goal

pub returns-then-names-lt2 : goal.returns-then-names-lt2
returns-then-names-lt2 c = few_are_distinct c.args.names.now c.if-names-lt2.true

pub returns : goal.returns
returns c =
    let (xs, drains, made) = c.in_ok-set.ensures.ran in
    let yields =
    YieldsList-from_copied
    (YieldsList-at c.copied.ensures.source (YieldsList-from_slice c.args.names.now c.iter.ensures.rest)) in
    let all = sym (map-id xs) ∙ items_from_drains xs drains yields in
    distinct_by_count c.args.names.now xs c.len.result c.in_ok-set.set all made c.len.ensures.len
