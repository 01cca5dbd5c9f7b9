use Rattle.std.proofs.Common.{◌≡◌, ◌⊎◌, subst}
use Rattle.hg_replica.specs.Content.{content_of, ContentAdmits}
use Rattle.hg_replica.proofs.ContentLemmas.{content-valid}
use Rattle.hg_rewrite.specs.Memory.{MayWantMemory}
use Rattle.hg_peer.specs.declared.refusal.PeerRefusal.TheVariants.{NoMemory}
use Rattle.hg_peer.specs.Peers.{Decides, IsAgainstOperation, IsMemory}
use Rattle.hg_live.specs.declared.entry.Entry.TheVariants.{Part}
use Rattle.hg_live.specs.NodeViews.{DeskView}
use Rattle.hg_live.specs.Calls.{IsNotEntered, IsAgainstLocal}
use Rattle.hg_live.proofs.CallLemmas.{operation_told, decided_told, refused_by}
use Rattle.hg_live.proofs.desk.Desk+K+Writer+K+R.local.Goals as goal

pub returns-in-Ok-clause-refused : goal.returns-in-Ok-clause-refused
returns-in-Ok-clause-refused g c =
    let d = c.args.self.now in
    let op = c.args.op.now in
    let k = c.in-Ok.part in
    let so : Decides d.working op k =
    subst (λ (d : DeskView). Decides d.working op k) c.self.view_is c.in-Ok.ensures.ok in
    let admitted : ContentAdmits (content_of d.working.replica) k =
    subst (λ (d : DeskView). ContentAdmits (content_of d.working.replica) k) c.self.view_is
    c.in-Ok.ensures.admitted in
    refused_by (IsNotEntered d (Part k)) (IsAgainstLocal d op) c.enter.result
    (λ e h. decided_told d op k e (content-valid d.working.replica so.0) so admitted h) c.enter.ensures.refused

pub returns-in-Err-clause-refused : goal.returns-in-Err-clause-refused
returns-in-Err-clause-refused g c =
    let d = c.args.self.now in
    let op = c.args.op.now in
    let r = c.in-Err.refusal in
    let told : IsAgainstOperation d.working op r ⊎ IsMemory r =
    subst (λ (d : DeskView). IsAgainstOperation d.working op r ⊎ IsMemory r) c.self.view_is c.in-Err.ensures.err in
    let memory : r ≡ NoMemory → MayWantMemory d.working.replica d.working.pins op =
    λ e. subst (λ (d : DeskView). MayWantMemory d.working.replica d.working.pins op) c.self.view_is
    (c.in-Err.ensures.memory (cc (e))) in
    rw (c.into.ensures) (operation_told d op r told memory)
