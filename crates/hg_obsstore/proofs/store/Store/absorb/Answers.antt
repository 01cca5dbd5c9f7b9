use Rattle.std.specs.Cow.{cow_slice_items}
use Rattle.hg_obsstore.proofs.GrowthLemmas.{union_of_united}
use Rattle.hg_obsstore.proofs.store.Store.absorb.Goals as goal

pub returns-in-Ok-clause-union : goal.returns-in-Ok-clause-union
returns-in-Ok-clause-union c =
    union_of_united c.args.self.now (cow_slice_items c.args.part) c.add_and_tell.new.self c.in-Ok.ensures.ok
