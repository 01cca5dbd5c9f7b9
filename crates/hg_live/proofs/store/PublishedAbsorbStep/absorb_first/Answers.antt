use Rattle.std.proofs.Common.{◌≡◌, ◌∙◌, List, [], ◌∷◌, ◌++◌, sym, ap, refl}
use Rattle.hg_live.specs.declared.entry.Entry.{Entry}
use Rattle.hg_live.proofs.AfterLemmas.{after_next, after_same}
use Rattle.hg_live.proofs.store.PublishedAbsorbStep.absorb_first.Goals as goal

pub invariant_of-self : goal.invariant_of-self
invariant_of-self g c =
    let o = g.K.NodeName.opening in
    let s = c.self.inside.peer in
    let t = c.accept.new.peer in
    let step = c.args.step.now in
    let same : c.self.inside.front ≡ step.before = c.is_same.ensures.same c.if-not-is_same.false in
    after_same o t t (c.self.inside.front ++ step.entry ∷ []) c.again.result
    (after_next o s t c.self.inside.front step.entry c.self.invariant c.in-Ok.ensures.ok)
    (ap (λ (l : List Entry). l ++ step.entry ∷ []) same ∙ (sym step.next ∙ sym c.again.ensures)) refl
