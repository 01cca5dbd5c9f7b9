use Rattle.std.proofs.Common.{arith, subst}
use Rattle.hg_marker.specs.Reading.{Gives}
use Rattle.hg_obsstore.specs.Faults.{IsStoreFault}
use Rattle.hg_obsstore.specs.Spelling.{IsStoreSpelling}
use Rattle.hg_marker.proofs.FaultLemmas.{told_first}
use Rattle.hg_obsstore.proofs.FormatLemmas.{store_told, store_read, store_refused, found, fault}
use Rattle.hg_obsstore.proofs.format.read_markers.Goals as goal

pub returns-clause-only : goal.returns-clause-only
returns-clause-only c =
    λ ms h. subst (Gives (λ v. v.items) c.read_version_and_markers.result) (store_read ms c.args.bytes.now h)
    c.read_version_and_markers.ensures.exact

pub returns-clause-found : goal.returns-clause-found
returns-clause-found c =
    found _ _ _ _ _ c.read_version_and_markers.ensures.exact (store_told _ (λ i. omega (arith, c.type_inv.bytes i)))

pub returns-clause-fault : goal.returns-clause-fault
returns-clause-fault c =
    fault _ _ _ _ _ c.read_version_and_markers.ensures.exact (store_told _ (λ i. omega (arith, c.type_inv.bytes i)))

pub returns-clause-refused : goal.returns-clause-refused
returns-clause-refused c =
    λ f h. told_first _ _ _ _ c.read_version_and_markers.ensures.exact (store_refused _ _ h)
