use Rattle.std.proofs.Common.{◌≡◌}
use Rattle.hg_peer.specs.declared.refusal.PeerRefusal.TheVariants.{NoMemory}
use Rattle.hg_peer.specs.Peers.{ReadMayWantMemory}
use Rattle.hg_live.specs.declared.entry.Entry.TheVariants.{Part}
use Rattle.hg_live.specs.Calls.{IsNotEntered, IsAgainstTake}
use Rattle.hg_live.proofs.CallLemmas.{bytes_told, read_told, refused_by}
use Rattle.hg_live.proofs.desk.Desk+K+Writer+K+R.take.Goals as goal

pub returns-in-Ok-clause-refused : goal.returns-in-Ok-clause-refused
returns-in-Ok-clause-refused g c =
    let d = c.args.self.now in
    let k = c.in-Ok.part in
    refused_by (IsNotEntered d (Part k)) (IsAgainstTake d c.args.bytes.now) c.enter.result
    (λ e h. read_told d c.args.bytes.now k e c.in-Ok.ensures.ok h) c.enter.ensures.refused

pub returns-in-Err-clause-refused : goal.returns-in-Err-clause-refused
returns-in-Err-clause-refused g c =
    let r = c.in-Err.refusal in
    let memory : r ≡ NoMemory → ReadMayWantMemory c.args.bytes.now = λ e. c.in-Err.ensures.memory (cc (e)) in
    rw (c.into.ensures) (bytes_told c.args.self.now c.args.bytes.now r c.in-Err.ensures.err memory)
