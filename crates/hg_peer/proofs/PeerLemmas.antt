-- What the calls of a peer tell.
use Rattle.std.proofs.Common.{◌≡◌, Bool, true, false, All, ℕ, Option, Some, None, List, [], Result, Ok, Err, Contains}
use Rattle.std.proofs.Common.{refl, sym, ap, subst, ◌∙◌, inl, inr, ◌⊎◌}
use Rattle.std.specs.Prelude.{IfOk, IfErr, OnOk, OnErr, IsErrOf}
use Rattle.std.specs.declared.vec.Vec.{Vec}
use Rattle.std.specs.declared.alloc.Global.{Global}
use Rattle.hg_join.specs.Order.{IsLeastOfAll, IsDue}
use Rattle.hg_changeset.specs.declared.node.Node.{Node}
use Rattle.hg_changeset.specs.Contents.{Contents}
use Rattle.hg_changeset.specs.Changeset.{IsChangeset}
use Rattle.hg_phases.specs.State.{state_of}
use Rattle.hg_history.specs.Content.IsGrounded.{grounded}
use Rattle.hg_history.proofs.ContentLemmas.{content-admits}
use Rattle.hg_replica.specs.State.{ReplicaState, IsValid}
use Rattle.hg_replica.specs.Least.{PartValue}
use Rattle.hg_replica.specs.Change.{ChangeValue}
use Rattle.hg_replica.specs.Answer.{IsAbsorbed}
use Rattle.hg_replica.specs.Content.{content_of, IsValidContent, ContentBelow, ContentAdmits}
use Rattle.hg_view.specs.declared.refusal.PinRefusal.{PinRefusal}
use Rattle.hg_view.specs.declared.refusal.PinRefusal.TheVariants as pin
use Rattle.hg_view.specs.Kept.{KeptValue, KeptUnpinAnswer}
use Rattle.hg_view.specs.Pins.{PinAnswer}
use Rattle.hg_rewrite.specs.declared.op.Op.{Op}
use Rattle.hg_rewrite.specs.declared.refusal.Refusal.{Refusal}
use Rattle.hg_rewrite.specs.declared.refusal.Refusal.TheVariants as operation
use Rattle.hg_rewrite.specs.Answer.{DecideAnswer}
use Rattle.hg_rewrite.specs.Memory.{MayWantMemory}
use Rattle.hg_marker.specs.Grammar.{IsMarker}
use Rattle.hg_message.specs.declared.refusal.OfferRefusal.{OfferRefusal}
use Rattle.hg_message.specs.declared.refusal.OfferRefusal.TheVariants as offer
use Rattle.hg_message.specs.Value.{MessageValue, is_too_large}
use Rattle.hg_message.specs.Message.{message_at}
use Rattle.hg_message.specs.Spelling.{IsMessageSpelling, message_spelling}
use Rattle.hg_message.specs.declared.scope.Scope.{Scope}
use Rattle.hg_message.specs.Offer.{AreHeld, IsOfferOf}
use Rattle.hg_message.specs.Outgoing.{FindAnswer, WriteAnswer}
use Rattle.hg_message.proofs.SpellingLemmas.{spelling_is_read}
use Rattle.hg_message.proofs.ExistLemmas.{offer-exists}
use Rattle.hg_message.proofs.OfferLemmas.{not-too-large}
use Rattle.hg_message.proofs.WritableLemmas.{offer-read}
use Rattle.hg_peer.specs.declared.refusal.PeerRefusal.{PeerRefusal}
use Rattle.hg_peer.specs.declared.refusal.PeerRefusal.TheVariants.{Offer, View, NoMemory}
use Rattle.hg_peer.specs.declared.ask.Ask.{Ask}
use Rattle.hg_peer.specs.declared.mark.Mark.TheVariants.{Pin, Unpin}
use Rattle.hg_peer.specs.Marks.{Tells, Marks, IsAgainstMark, ChangesPins}
use Rattle.hg_peer.specs.Refusals.{rewrite_refusal, offer_refusal, pin_refusal}
use Rattle.hg_peer.specs.Peers.{CanBeWritten, Offers, IsAgainstOffer, IsAgainstWriting, IsMemory, OfferMayWantMemory}

-- ---- a replica that holds nothing says nothing

none_is_some : {X : Type 0} (o : Option X) (x : X) → o ≡ None → o ≡ Some x → ⊥
none_is_some o x e f = cc

pub empty_is_least : (s : ReplicaState) → s ≡ record { history = state_of [] []; markers = [] } →
    IsLeastOfAll IsValidContent ContentBelow (content_of s)
empty_is_least s e = rw e (record {
  valid = record {
    named = λ n h x. absurd (none_is_some None h refl x);
    parents = λ n h p x is. absurd (none_is_some None h refl x);
    grounded = λ n. grounded (λ h p x is. absurd (none_is_some None h refl x));
  };
  least = λ other v. ((λ n h x. absurd (none_is_some None h refl x)), (λ m x. absurd cc));
})

-- ---- operations

pub decided-admitted : (s : ReplicaState) (pins : List Node) (op : Op) (part : PartValue) → IsValid s →
    ((c : Contents) → Contains part.history.changesets c → IsChangeset c) → DecideAnswer s pins op (Ok part) →
    ContentAdmits (content_of s) part
decided-admitted s pins op part v all h = content-admits s.history part.history v.graph all h.2

-- want of memory is told where deciding tells it
rewrite-memory : (r : Refusal) → rewrite_refusal r ≡ NoMemory → r ≡ operation.NoMemory
rewrite-memory (operation.Unknown node) e = absurd cc
rewrite-memory (operation.Hidden node) e = absurd cc
rewrite-memory (operation.Public node) e = absurd cc
rewrite-memory (operation.AlreadyObsolete node) e = absurd cc
rewrite-memory operation.NotLinear e = absurd cc
rewrite-memory operation.Count e = absurd cc
rewrite-memory operation.Raise e = absurd cc
rewrite-memory (operation.Fault cause) e = absurd cc
rewrite-memory (operation.Exists node) e = absurd cc
rewrite-memory operation.NoMemory e = refl

same_error : {X : Type 0} (told other : PeerRefusal) → ◌≡◌ {A = Result X PeerRefusal} (Err told) (Err other) →
    told ≡ other
same_error told other e = cc

pub decide-memory : (s : ReplicaState) (pins : List Node) (op : Op) (r : Refusal) (told : PeerRefusal) →
    told ≡ rewrite_refusal r →
    (IsErrOf {T = PartValue} (Err r) operation.NoMemory → MayWantMemory s pins op) →
    IsErrOf {T = PartValue} (Err told) NoMemory → MayWantMemory s pins op
decide-memory s pins op r told is may e = may (ap Err (rewrite-memory r (sym is ∙ same_error told NoMemory e)))

-- ---- offers

-- what a peer finds to offer, under its pins
abbrev Finds : KeptValue → List Node → Scope → Result MessageValue OfferRefusal → Type 0
Finds s common scope r = FindAnswer s.replica s.pins common scope r

pub offered : (s : KeptValue) (ask : Ask) (lent : List Node) (m : MessageValue) {E : Type 0}
    (r : Result (Vec ℕ Global) E) → lent ≡ ask.common.items → IsValid s.replica → Finds s lent ask.scope (Ok m) →
    IfOk r (λ bytes. CanBeWritten m × (bytes.items ≡ message_spelling m)) →
    IfOk r (λ bytes. Offers s ask bytes.items)
offered s ask lent m (Ok bytes) e v h w =
    let moved : Finds s ask.common.items ask.scope (Ok m) =
    subst (λ (ns : List Node). Finds s ns ask.scope (Ok m)) e h in
    record { valid = v; held = moved.0; message = m; offered = moved.1; writable = w.0; written = w.1 }
offered s ask lent m (Err x) e v h w = tt

-- what was found is too large, or memory was wanting
unwritten : (s : KeptValue) (ask : Ask) (m : MessageValue) (refusal : PeerRefusal) →
    Finds s ask.common.items ask.scope (Ok m) → IsAgainstWriting m refusal ⊎ IsMemory refusal →
    IsAgainstOffer s ask refusal ⊎ IsMemory refusal
unwritten s ask m refusal h (inl large) =
    inl (subst (IsAgainstOffer s ask) (sym large.0) (h.0, (m, h.1, large.1)))
unwritten s ask m refusal h (inr memory) = inr memory

pub large-refused : (s : KeptValue) (ask : Ask) (lent : List Node) (m : MessageValue) {T : Type 0}
    (r : Result T PeerRefusal) → lent ≡ ask.common.items → Finds s lent ask.scope (Ok m) →
    IfErr r (λ refusal. IsAgainstWriting m refusal ⊎ IsMemory refusal)
    → IfErr r (λ refusal. IsAgainstOffer s ask refusal ⊎ IsMemory refusal)
large-refused s ask lent m (Ok x) e h w = tt
large-refused s ask lent m (Err refusal) e h w =
    unwritten s ask m refusal (subst (λ (ns : List Node). Finds s ns ask.scope (Ok m)) e h) w

-- there is an offer, and it is too large or can be written
offer-due : (s : KeptValue) (ask : Ask) → IsValid s.replica → All IsMarker s.replica.markers →
    AreHeld (content_of s.replica) ask.common.items → IsDue (Offers s ask) (IsAgainstOffer s ask)
offer-due s ask v markers held f g =
    offer-exists s.replica s.pins ask.common.items ask.scope v (λ m o. by m o (is_too_large m) refl)
  where
    by : (m : MessageValue) → IsOfferOf s.replica s.pins ask.common.items ask.scope m → (b : Bool)
        → is_too_large m ≡ b → ⊥
    by m o true e = g (Offer offer.TooLarge) (held, (m, o, e))
    by m o false e =
        f (message_spelling m)
        (record {
          valid = v;
          held = held;
          message = m;
          offered = o;
          writable = (not-too-large m e, offer-read s.replica v markers s.pins ask.common.items m o.0 e);
          written = refl;
        })

one-due : (s : KeptValue) (ask : Ask) (r : Result MessageValue OfferRefusal) → IsValid s.replica →
    All IsMarker s.replica.markers → Finds s ask.common.items ask.scope r → IsDue (Offers s ask) (IsAgainstOffer s ask)
one-due s ask (Ok m) v markers h = offer-due s ask v markers h.0
one-due s ask (Err (offer.UnknownCommon node)) v markers h = λ f g. g (Offer (offer.UnknownCommon node)) h
one-due s ask (Err offer.TooLarge) v markers h = absurd h
one-due s ask (Err offer.NoMemory) v markers h = offer-due s ask v markers h.0

pub answered-due : (s : KeptValue) (ask : Ask) (lent : List Node) (r : Result MessageValue OfferRefusal) →
    lent ≡ ask.common.items → IsValid s.replica → All IsMarker s.replica.markers →
    Finds s lent ask.scope r → IsDue (Offers s ask) (IsAgainstOffer s ask)
answered-due s ask lent r e v markers h =
    one-due s ask r v markers (subst (λ (ns : List Node). Finds s ns ask.scope r) e h)

one-refused : (s : KeptValue) (ask : Ask) (r : OfferRefusal) → Finds s ask.common.items ask.scope (Err r) →
    IsAgainstOffer s ask (offer_refusal r) ⊎ IsMemory (offer_refusal r)
one-refused s ask (offer.UnknownCommon node) h = inl h
one-refused s ask offer.TooLarge h = absurd h
one-refused s ask offer.NoMemory h = inr refl

pub refused-offer : (s : KeptValue) (ask : Ask) (lent : List Node) (r : OfferRefusal)
    (told : PeerRefusal) → lent ≡ ask.common.items → told ≡ offer_refusal r → Finds s lent ask.scope (Err r) →
    IsAgainstOffer s ask told ⊎ IsMemory told
refused-offer s ask lent r told e is h =
    subst (λ (x : PeerRefusal). IsAgainstOffer s ask x ⊎ IsMemory x) (sym is)
    (one-refused s ask r (subst (λ (ns : List Node). Finds s ns ask.scope (Err r)) e h))

-- memory is wanting to find an offer only where each common node is held, and where there is something to find
one-wants : (s : KeptValue) (common : List Node) (scope : Scope) (r : OfferRefusal) → Finds s common scope (Err r) →
    offer_refusal r ≡ NoMemory → OfferMayWantMemory s common scope
one-wants s common scope (offer.UnknownCommon node) h e = absurd cc
one-wants s common scope offer.TooLarge h e = absurd h
one-wants s common scope offer.NoMemory h e = (h.0, inl h.1)

pub refused-wants : (s : KeptValue) (ask : Ask) (lent : List Node) (r : OfferRefusal)
    (told : PeerRefusal) → lent ≡ ask.common.items → told ≡ offer_refusal r → Finds s lent ask.scope (Err r) →
    IsErrOf {T = Vec ℕ Global} (Err told) NoMemory → OfferMayWantMemory s ask.common.items ask.scope
refused-wants s ask lent r told e is h wants =
    subst (λ (ns : List Node). OfferMayWantMemory s ns ask.scope) e
    (one-wants s lent ask.scope r h (sym is ∙ same_error told NoMemory wants))

-- and to write what was found only where that isn't too large
pub found-wants : (s : KeptValue) (ask : Ask) (lent : List Node) (m : MessageValue)
    (r : Result (Vec ℕ Global) PeerRefusal) → lent ≡ ask.common.items → Finds s lent ask.scope (Ok m) →
    (IsErrOf r NoMemory → is_too_large m ≡ false) → IsErrOf r NoMemory →
    OfferMayWantMemory s ask.common.items ask.scope
found-wants s ask lent m r e h small wants =
    subst (λ (ns : List Node). OfferMayWantMemory s ns ask.scope) e (h.0, inr (m, h.1, small wants))

-- what is written says the message
pub written-well : (m : MessageValue) (bytes : List ℕ) → WriteAnswer {A = List ℕ} (λ b. b) m (Ok bytes) →
    IsMessageSpelling m bytes → CanBeWritten m × (bytes ≡ message_spelling m)
written-well m bytes h spells =
    ((not-too-large m h.0, subst (λ (b : List ℕ). message_at b ≡ Ok m) h.1 (spelling_is_read m bytes spells)), h.1)

-- and what isn't, is too large, or wants memory
one-unwritten : (m : MessageValue) (r : OfferRefusal) → WriteAnswer {A = Vec ℕ Global} (λ v. v.items) m (Err r) →
    IsAgainstWriting m (offer_refusal r) ⊎ IsMemory (offer_refusal r)
one-unwritten m (offer.UnknownCommon node) h = absurd h
one-unwritten m offer.TooLarge h = inl (refl, h)
one-unwritten m offer.NoMemory h = inr refl

pub refused-writing : (m : MessageValue) (r : OfferRefusal) (told : PeerRefusal) → told ≡ offer_refusal r →
    WriteAnswer {A = Vec ℕ Global} (λ v. v.items) m (Err r) → IsAgainstWriting m told ⊎ IsMemory told
refused-writing m r told is h =
    subst (λ (x : PeerRefusal). IsAgainstWriting m x ⊎ IsMemory x) (sym is) (one-unwritten m r h)

-- what is too large is never told as want of memory
one-writable : (m : MessageValue) (r : OfferRefusal) → WriteAnswer {A = Vec ℕ Global} (λ v. v.items) m (Err r) →
    offer_refusal r ≡ NoMemory → is_too_large m ≡ false
one-writable m (offer.UnknownCommon node) h e = absurd h
one-writable m offer.TooLarge h e = absurd cc
one-writable m offer.NoMemory h e = h

pub writing-wants : (m : MessageValue) (r : OfferRefusal) (told : PeerRefusal) → told ≡ offer_refusal r →
    WriteAnswer {A = Vec ℕ Global} (λ v. v.items) m (Err r) → IsErrOf {T = Vec ℕ Global} (Err told) NoMemory →
    is_too_large m ≡ false
writing-wants m r told is h wants = one-writable m r h (sym is ∙ same_error told NoMemory wants)

-- ---- marks

pub pinned : (s t : KeptValue) (n : Node) (r : Result (Unit {0}) PinRefusal) → t.replica ≡ s.replica →
    PinAnswer (content_of s.replica) s.pins n r t.pins → OnOk r (Marks s (Pin n) t)
pinned s t n (Ok done) e h = (e, h)
pinned s t n (Err x) e h = tt

pub unpinned : (s t : KeptValue) (n : Node) (r : Result (Unit {0}) PinRefusal) → t.replica ≡ s.replica →
    KeptUnpinAnswer s.pins n r t.pins → OnOk r (Marks s (Unpin n) t)
unpinned s t n (Ok done) e h = (e, h)
unpinned s t n (Err x) e h = tt

pub pin-refused : (s : KeptValue) (n : Node) (r : PinRefusal) (after : List Node) (told : PeerRefusal) →
    told ≡ pin_refusal r → PinAnswer (content_of s.replica) s.pins n (Err r) after →
    IsAgainstMark s (Pin n) told ⊎ IsMemory told
pin-refused s n (pin.Unknown m) after told is h =
    inl (is ∙ ap (λ (k : Node). View (pin.Unknown k)) h.0, h.1)
pin-refused s n (pin.NotPinned m) after told is h = absurd h
pin-refused s n pin.NoMemory after told is h = inr is

pub unpin-refused : (s : KeptValue) (n : Node) (r : PinRefusal) (after : List Node) (told : PeerRefusal) →
    told ≡ pin_refusal r → KeptUnpinAnswer s.pins n (Err r) after → IsAgainstMark s (Unpin n) told ⊎ IsMemory told
unpin-refused s n (pin.Unknown m) after told is h = absurd h
unpin-refused s n (pin.NotPinned m) after told is h =
    inl (is ∙ ap (λ (k : Node). View (pin.NotPinned k)) h.0, h.1)
unpin-refused s n pin.NoMemory after told is h = inr is

-- memory is wanting only where there is something to change
pub pin-wants : (s : KeptValue) (n : Node) (r : PinRefusal) (after : List Node) (told : PeerRefusal) →
    told ≡ pin_refusal r → PinAnswer (content_of s.replica) s.pins n (Err r) after →
    IsErrOf {T = Unit {0}} (Err told) NoMemory → ChangesPins s (Pin n)
pin-wants s n (pin.Unknown m) after told is h e = let same = sym is ∙ same_error told NoMemory e in absurd cc
pin-wants s n (pin.NotPinned m) after told is h e = absurd h
pin-wants s n pin.NoMemory after told is h e = (h.0, h.1)

pub unpin-wants : (s : KeptValue) (n : Node) (r : PinRefusal) (after : List Node) (told : PeerRefusal) →
    told ≡ pin_refusal r → KeptUnpinAnswer s.pins n (Err r) after → IsErrOf {T = Unit {0}} (Err told) NoMemory →
    ChangesPins s (Unpin n)
unpin-wants s n (pin.Unknown m) after told is h e = absurd h
unpin-wants s n (pin.NotPinned m) after told is h e = let same = sym is ∙ same_error told NoMemory e in absurd cc
unpin-wants s n pin.NoMemory after told is h e = h.0

-- what is refused leaves the pins, and so the state
same_kept : (s t : KeptValue) → t.replica ≡ s.replica → t.pins ≡ s.pins → t ≡ s
same_kept s t e f i = record { replica = e i; pins = f i }

pub pin-unchanged : (s t : KeptValue) (n : Node) (r : PinRefusal) → t.replica ≡ s.replica →
    PinAnswer (content_of s.replica) s.pins n (Err r) t.pins → t ≡ s
pin-unchanged s t n (pin.Unknown m) e h = same_kept s t e h.2
pin-unchanged s t n (pin.NotPinned m) e h = absurd h
pin-unchanged s t n pin.NoMemory e h = same_kept s t e h.2

pub unpin-unchanged : (s t : KeptValue) (n : Node) (r : PinRefusal) → t.replica ≡ s.replica →
    KeptUnpinAnswer s.pins n (Err r) t.pins → t ≡ s
unpin-unchanged s t n (pin.Unknown m) e h = absurd h
unpin-unchanged s t n (pin.NotPinned m) e h = same_kept s t e h.2
unpin-unchanged s t n pin.NoMemory e h = same_kept s t e h.1

-- ---- what is absorbed and joined leaves the pins

pub told-peer : (s t : KeptValue) (part : PartValue) {F : Type 0} (r : Result ChangeValue F) → t.pins ≡ s.pins →
    IfOk r (λ change. IsAbsorbed s.replica part change t.replica) → IfOk r (λ change. Tells s part change t)
told-peer s t part (Ok change) e h = (h, e)
told-peer s t part (Err x) e h = tt

pub unchanged-peer : (s t : KeptValue) {T F : Type 0} (r : Result T F) → t.pins ≡ s.pins →
    OnErr r (t.replica ≡ s.replica) → OnErr r (t ≡ s)
unchanged-peer s t (Ok x) e h = tt
unchanged-peer s t (Err x) e h = same_kept s t h e
