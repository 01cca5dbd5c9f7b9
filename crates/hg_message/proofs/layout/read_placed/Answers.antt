use Rattle.std.proofs.Common.{Err, ap, arith, subst}
use Rattle.hg_marker.specs.declared.error.ReadError.{ReadError}
use Rattle.hg_marker.specs.Reading.{Fails}
use Rattle.hg_obsstore.specs.declared.fault.StoreFault.{StoreFault}
use Rattle.hg_obsstore.specs.Faults.{store_at}
use Rattle.hg_message.proofs.StoreLemmas.{read_long}
use Rattle.hg_message.proofs.layout.read_placed.Goals as goal

pub returns-in-Err-NoMemory-clause-memory : goal.returns-in-Err-NoMemory-clause-memory
returns-in-Err-NoMemory-clause-memory c is =
    let store = c.args.store.now in
    let error = c.in-Err-NoMemory in
    read_long store (λ i. omega (arith, c.type_inv.store i))
    (subst (λ (e : ReadError StoreFault). Fails e (store_at store)) error.field-0-is error.ensures.exact)
    (error.ensures.memory (ap (λ (e : ReadError StoreFault). Err e) error.field-0-is))
