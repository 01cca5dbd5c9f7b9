use Rattle.std.proofs.Common.{arith, subst}
use Rattle.hg_marker.specs.Reading.{Gives}
use Rattle.hg_marker.specs.Faults.{marker_and_length}
use Rattle.hg_marker.proofs.MarkerLemmas.{is_found, is_only}
use Rattle.hg_marker.proofs.FaultLemmas.{fault_told, fault_given, told_first}
use Rattle.hg_marker.proofs.format.decode.Goals as goal

pub returns-clause-found : goal.returns-clause-found
returns-clause-found c =
    is_found c.args.bytes.now c.marker_and_used.result (λ i. omega (arith, c.type_inv.bytes i))
    c.marker_and_used.ensures

pub returns-clause-only : goal.returns-clause-only
returns-clause-only c =
    λ m text rest s e. subst (λ f. Gives (λ x. x) c.marker_and_used.result f) (is_only c.args.bytes.now m text rest s e)
    c.marker_and_used.ensures

pub returns-clause-fault : goal.returns-clause-fault
returns-clause-fault c = fault_told c.args.bytes.now c.marker_and_used.result c.marker_and_used.ensures

pub returns-clause-refused : goal.returns-clause-refused
returns-clause-refused c =
    λ f h. told_first (λ x. x) c.marker_and_used.result (marker_and_length c.args.bytes.now) f c.marker_and_used.ensures
    (fault_given c.args.bytes.now f h)
