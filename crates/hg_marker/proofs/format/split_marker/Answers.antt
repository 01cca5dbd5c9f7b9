use Rattle.std.proofs.Common.{arith, sym, ◌∙◌, refl}
use Rattle.hg_marker.proofs.MarkerLemmas.{read_is_marker, metadata_again}
use Rattle.hg_marker.proofs.format.split_marker.Goals as goal

pub returns-in-Some-clause-marker : goal.returns-in-Some-clause-marker
returns-in-Some-clause-marker c =
    read_is_marker c.args.bytes.now _ _ _ _ _ _ _ _ _ _ (λ i. omega (arith, c.type_inv.bytes i))
    c.in_ok-count.ensures c.in_ok-len.ensures c.in_ok-flags.ensures c.in_ok-predecessor.ensures c.in_ok-ids.ensures.ids
    c.in_ok-metadata.ensures
    (sym c.holds_null.ensures ∙ c.if-holds_null.false) c.if-len-gt-METADATA_LIMIT.false
    (metadata_again _ _ (record { colons = c.in-Some.ensures.some.colons; texts = refl }))
