use Rattle.std.proofs.Common.{subst}
use Rattle.std.proofs.lemmas.Map.Made.{AllPairs-from_IsDistinct}
use Rattle.hg_marker.specs.Same.{fields_decides}
use Rattle.hg_obsstore.specs.Markers.{AllDistinct}
use Rattle.hg_obsstore.proofs.store.Store.markers.Goals as goal

pub returns-clause-different : goal.returns-clause-different
returns-clause-different c =
    AllPairs-from_IsDistinct fields_decides c.args.self.now (subst AllDistinct c.self.view_is c.self.invariant.0)
