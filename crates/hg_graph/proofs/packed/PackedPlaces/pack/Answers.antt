use Rattle.std.proofs.Common.{inl, inr}
use Rattle.hg_graph.proofs.packed.PackedPlaces.pack.Goals as goal

pub pack-requires : goal.pack-requires
pack-requires c k e = c.requires k (inl e)

pub pack-requires-2 : goal.pack-requires-2
pack-requires-2 c k e = c.requires k (inr e)
