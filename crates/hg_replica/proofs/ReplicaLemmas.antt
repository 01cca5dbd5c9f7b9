-- A history's answer and a store's, side by side.
use Rattle.std.proofs.Common.{Bool, List, get_or, All, Contains, IsTrue, ◌↔◌, subst}
use Rattle.std.proofs.lemmas.Option.{slice_get-get_or}
use Rattle.hg_graph.proofs.GraphLemmas.{Contains-from_place}
use Rattle.hg_marker.specs.Fields.{Fields}
use Rattle.hg_phases.specs.Order.{Below as BelowHistory}
use Rattle.hg_history.specs.Join.{IsJoin as IsHistoryJoin}
use Rattle.hg_obsstore.specs.Sets.{IsUnion}
use Rattle.hg_obsstore.specs.Growth.{holds}
use Rattle.hg_replica.specs.State.{ReplicaState, AreWithin, Below}
use Rattle.hg_replica.specs.Answer.{IsJoin}
use Rattle.hg_replica.proofs.MarkerLemmas.{union-sets}

pub joined : (s o t : ReplicaState) → IsHistoryJoin s.history o.history t.history →
    IsUnion (holds s.markers) (holds o.markers) (holds t.markers) → IsJoin s o t
joined s o t h union = record { history = h; markers = (union-sets s.markers o.markers t.markers).1 union }

within-all : (ms ns : List Fields) → All (Contains ns) ms ↔ AreWithin ms ns
within-all ms ns = (
  λ all m at. subst (Contains ns) at.2 (all at.0 m at.1),
  λ within i any lt. within (get_or ms i any)
      (Contains-from_place ms i (get_or ms i any) (slice_get-get_or ms i any lt)),
)

-- where the history is below, the store's answer is the whole answer
pub below-both : (s t : ReplicaState) (answer : Bool) → BelowHistory s.history t.history →
    IsTrue answer ↔ All (Contains t.markers) s.markers → IsTrue answer ↔ Below s t
below-both s t answer history store = (
  λ is. record { history = history; markers = (within-all s.markers t.markers).0 (store.0 is) },
  λ below. store.1 ((within-all s.markers t.markers).1 below.markers),
)
