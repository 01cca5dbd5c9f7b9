use Rattle.std.proofs.Common.{refl}
use Rattle.std.proofs.lemmas.Iterator.{YieldsList-from_range}
use Rattle.hg_obsstore.proofs.GrowthLemmas.{are_between, items_from_collect}
use Rattle.hg_obsstore.proofs.store.places_between.Goals as goal

pub returns-clause-places : goal.returns-clause-places
returns-clause-places c =
    are_between _ _ _ _ (items_from_collect _ _ c.collect.ensures.ran (YieldsList-from_range _ _ _ refl refl))
