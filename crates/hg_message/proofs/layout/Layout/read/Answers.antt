use Rattle.std.proofs.Common.{arith}
use Rattle.hg_message.specs.Record.{record_at}
use Rattle.hg_message.specs.Bound.{bound_at}
use Rattle.hg_message.proofs.LayoutLemmas.{first_long}
use Rattle.hg_message.proofs.StoreLemmas.{store_no_longer}
use Rattle.hg_message.proofs.layout.Layout.read.Goals as goal

pub of_parts-requires : goal.of_parts-requires
of_parts-requires c = record {
  changesets = omega (
    arith,
    first_long (record_at c.args.self.now.total) 0 c.args.self.now.count
        c.args.self.now.records.now c.in_ok-changesets.changesets.items c.in_ok-changesets.ensures.read,
  );
  bounds = omega (
    arith,
    first_long (λ _. bound_at c.args.self.now.total) 0 c.args.self.now.entries
        c.args.self.now.bounds.now c.in_ok-bounds.bounds.items c.in_ok-bounds.ensures.read,
  );
  store = store_no_longer c.in_ok-markers.markers.items c.args.self.now.store.now c.in_ok-markers.ensures.spelled
      c.requires.short;
}
