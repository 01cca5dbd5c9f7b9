use Rattle.hg_phases.specs.State.{changesets}
use Rattle.hg_instab.specs.Changed.{IsNow}
use Rattle.hg_instab.proofs.SettlingLemmas.{each-in_parts}
use Rattle.hg_instab.proofs.extinct_walk.holder.Goals as goal

pub returns-in-None : goal.returns-in-None
returns-in-None c =
    each-in_parts (changesets c.args.replica.now.history) (IsNow c.args.extinct.now.keys c.args.turned.now.keys)
    c.args.places.now c.args.first c.in-None.ensures c.holder_between-in-None.result c.holder_between-in-None.ensures
