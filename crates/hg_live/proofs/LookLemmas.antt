-- What a look tells, of the fields of a pass.
use Rattle.std.proofs.Common.{◌≡◌, List, Result, Ok, Err, IfOk, IfErr, sym, subst}
use Rattle.std.specs.declared.vec.Vec.{Vec}
use Rattle.std.specs.declared.alloc.Global.{Global}
use Rattle.std.specs.Prelude.{ℕ}
use mathlib.Core.List.{IsPrefix}
use Rattle.hg_view.specs.Kept.{KeptValue}
use Rattle.hg_changeset.specs.declared.node.Node.{Node}
use Rattle.hg_message.specs.declared.scope.Scope.{Scope}
use Rattle.hg_live.specs.declared.answer.LookRefusal.{LookRefusal}
use Rattle.hg_live.specs.declared.answer.LookRefusal.TheVariants.{NotEntered, NoMemory}
use Rattle.hg_live.specs.declared.answer.NotOffered.{NotOffered}
use Rattle.hg_live.specs.declared.answer.NotOffered.TheVariants as offer
use Rattle.hg_live.specs.declared.entry.Entry.{Entry}
use Rattle.hg_live.specs.After.{IsAfter}
use Rattle.hg_live.specs.NodeViews.{PassView, PublishedView}
use Rattle.hg_live.specs.Looks.{Looked, LookAnswer, OfferLookAnswer, StateOffers}

-- the pass has then seen what is published, and that is so of its state
module _ (o : KeptValue) (old new : PassView) (p : PublishedView) (begins : IsPrefix old.seen p.entries)
    (now : new.seen ≡ p.entries) (told : new.told ≡ old.told) (calls : new.calls ≡ old.calls)
    (after : IsAfter o p.entries p.state) where
  pub looked : (P : KeptValue → Type 0) → P p.state → Looked o P old new
  looked P so = record {
    seen = subst (IsPrefix old.seen) (sym now) begins;
    told = told;
    calls = calls;
    state = p.state;
    after = subst (λ (l : List Entry). IsAfter o l p.state) (sym now) after;
    so = so;
  }

  pub look_answer : {A : Type 0} (P : KeptValue → A → Type 0) (r : Result A LookRefusal) → IfOk r (P p.state) →
      IfErr r (λ e. e ≡ NoMemory) → LookAnswer o P old r new
  look_answer P (Ok x) ok err = looked (λ s. P s x) ok
  look_answer P (Err NotEntered) ok err = absurd (cc (err))
  look_answer P (Err NoMemory) ok err = looked (λ s. Unit {0}) tt

  pub offer_answer : (common : List Node) (scope : Scope) (r : Result (Vec ℕ Global) NotOffered) →
      StateOffers p.state common scope r → OfferLookAnswer o common scope old r new
  offer_answer common scope (Ok bytes) so = looked _ so
  offer_answer common scope (Err offer.NotEntered) so = absurd so
  offer_answer common scope (Err (offer.Refused refusal)) so = looked _ so
  offer_answer common scope (Err offer.NoMemory) so = looked _ so
