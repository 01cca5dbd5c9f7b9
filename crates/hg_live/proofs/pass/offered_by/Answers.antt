use Rattle.std.proofs.Common.{Err, sym, subst}
use Rattle.hg_view.specs.Kept.{KeptValue}
use Rattle.hg_live.specs.declared.answer.NotOffered.{NotOffered}
use Rattle.hg_live.specs.Looks.{StateOffers}
use Rattle.hg_live.proofs.OfferLemmas.{found_told, refusal_told}
use Rattle.hg_live.proofs.pass.offered_by.Goals as goal

pub returns-in-Ok : goal.returns-in-Ok
returns-in-Ok c =
    let common = c.args.common.now in
    let scope = c.args.scope in
    subst (λ (s : KeptValue). StateOffers s common scope c.written.result) c.kept-kept.ensures
    (found_told c.kept-kept.result.now common scope c.in-Ok.found c.written.result c.replica.ensures.valid
    c.in-Ok.ensures c.written.ensures)

pub returns-in-Err : goal.returns-in-Err
returns-in-Err c =
    let common = c.args.common.now in
    let scope = c.args.scope in
    let s = c.kept-kept.result.now in
    subst (λ (s : KeptValue). StateOffers s common scope (Err c.into.result)) c.kept-kept.ensures
    (subst (λ (x : NotOffered). StateOffers s common scope (Err x)) (sym c.into.ensures)
    (refusal_told s common scope c.in-Err.refusal c.in-Err.ensures))
