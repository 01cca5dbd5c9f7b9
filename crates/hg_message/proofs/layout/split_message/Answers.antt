use Rattle.std.proofs.Common.{arith, length}
use Rattle.hg_message.proofs.LayoutLemmas.{parts_long}
use Rattle.hg_message.proofs.layout.split_message.Goals as goal

pub returns-clause-long : goal.returns-clause-long
returns-clause-long c =
    parts_long c.truncated.result c.truncated-2.result c.truncated-3.result c.truncated-4.result c.truncated-5.result
    c.truncated-6.result (length c.args.bytes.now) c.in_ok-magic.magic c.in_ok-version.version c.in_ok-count.count
    c.in_ok-entries.entries c.in_ok-len.len c.in_ok-scope.scope
    c.args.bytes.now c.in_ok-magic.rest.now c.in_ok-version.rest.now c.in_ok-scope.rest.now c.in_ok-count.records.now
    c.in_ok-rest.rest.now c.in_ok-entries.bounds.now c.in_ok-rest-2.rest.now c.in_ok-len.rest.now
    c.in_ok-store.store.now c.in_ok-store.rest.now
    c.in_ok-rest.ensures.0 c.in_ok-rest-2.ensures.0 (λ i. omega (arith, c.type_inv.bytes i))
    c.in_ok-magic.ensures c.in_ok-version.ensures c.in_ok-scope.ensures c.in_ok-count.ensures c.in_ok-rest.ensures.1
    c.in_ok-entries.ensures c.in_ok-rest-2.ensures.1 c.in_ok-len.ensures c.in_ok-store.ensures
