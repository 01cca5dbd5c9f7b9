-- A round of the ring, by what each sharing of a fleet tells.
use Rattle.std.proofs.Common.{◌≡◌, ◌≢◌, ◌<◌, ◌+◌, ℕ, suc, Bool, true, false, inl, inr, List, [], ◌∷◌, ◌++◌}
use Rattle.std.proofs.Common.{◌-◌, length, slice_get, slice_set, Option, Some, None, Result, Ok, Err, refl, sym, ap}
use Rattle.std.proofs.Common.{subst, ◌∙◌, arith, append_assoc, true≢false}
use Rattle.std.specs.Prelude.{IsErrOf}
use Rattle.std.proofs.lemmas.List.{append-nil, length-append}
use Rattle.std.proofs.Math.Seq.{set-append_seam}
use Rattle.hg_changeset.specs.Contents.{Contents}
use Rattle.hg_changeset.proofs.ListLemmas.{slice_get-append, slice_get-append_seam}
use Rattle.hg_phases.specs.State.{changesets}
use Rattle.hg_history.specs.declared.fault.Fault.{Fault}
use Rattle.hg_history.specs.declared.fault.Fault.TheVariants as fault
use Rattle.hg_history.specs.Answer.{IsFirstFault, IsRefusal}
use Rattle.hg_replica.specs.State.{IsValid}
use Rattle.hg_replica.specs.Least.{PartValue}
use Rattle.hg_replica.specs.Change.{ChangeValue}
use Rattle.hg_replica.specs.Answer.{AbsorbAnswer, IsAbsorbed}
use Rattle.hg_replica.specs.Content.{content_of, IsContentFault}
use Rattle.hg_replica.specs.ContentLaws.{replicas_ordered, replicas_stay_covered, replicas_absorbed}
use Rattle.hg_replica.proofs.ContentLemmas.{fault_from_content}
use Rattle.hg_view.specs.Kept.{KeptValue}
use Rattle.hg_message.specs.declared.scope.Scope.TheVariants.{Whole}
use Rattle.hg_message.specs.Part.{part_of as message_part}
use Rattle.hg_world.specs.Runs.{Snapshot, IsReason, Happens, Runs}
use Rattle.hg_world.specs.declared.event.Event.TheVariants.{Offer, Take}
use Rattle.hg_world.specs.declared.event.EventRefusal.{EventRefusal}
use Rattle.hg_world.specs.declared.event.EventRefusal.TheVariants.{NoNode, NoMessage, ByActor, ByState}
use Rattle.hg_world.specs.declared.event.Answer.TheVariants.{Accepted, Offered, Marked, Refused}
use Rattle.hg_world.proofs.Least.{same_counts}
use Rattle.hg_world.proofs.Longer.{run_on}
use Rattle.hg_world.proofs.Places.{one_at, set_what_was, some_at}
use Rattle.hg_peer.specs.declared.ask.Ask.{Ask}
use Rattle.hg_peer.specs.declared.refusal.PeerRefusal.{PeerRefusal}
use Rattle.hg_peer.specs.declared.refusal.PeerRefusal.TheVariants.{NoMemory}
use Rattle.hg_peer.specs.Marks.{Tells}
use Rattle.hg_peer.specs.MarkLaws.{marked_says_the_same}
use Rattle.hg_peer.specs.Peers.{IsAgainstBytes, Offers, SpellsPart}
use Rattle.hg_peer.specs.Words.{PeerAnswer, PeerWorld, peer_state, peer_words}
use Rattle.hg_fleet.specs.declared.pulled.Pulled.{Pulled}
use Rattle.hg_fleet.specs.Pulls.{IsOneAbsent, IsPulled, Pulls, answers_of, asking, if_taken, taken}
use Rattle.hg_race.specs.Ring.{AsksForAll, EndsRound, GoesRound, IsNotOfMemory, IsOfMemory, IsWholeOffer}
use Rattle.hg_race.specs.Ring.{NoneIsOfMemory, RunsOn, Shares, TakesOffer}

-- ---- what a taking is answered

abbrev is_read : Result (Result ChangeValue Fault) PeerRefusal → Bool
is_read (Ok taken) = true
is_read (Err refusal) = false

abbrev fault_of : Fault → Result (Result ChangeValue Fault) PeerRefusal → Fault
fault_of other (Ok (Ok change)) = other
fault_of other (Ok (Err f)) = f
fault_of other (Err refusal) = other

abbrev refusal_of : PeerRefusal → Result (Result ChangeValue Fault) PeerRefusal → PeerRefusal
refusal_of other (Ok taken) = other
refusal_of other (Err refusal) = refusal

of_change : (change : ChangeValue) → IsNotOfMemory (Ok (Ok change))
of_change change = (λ e. true≢false (ap is_read e), λ e. absurd cc)

of_fault : (f : Fault) → f ≢ fault.NoMemory → IsNotOfMemory (Ok (Err f))
of_fault f isnt = (λ e. true≢false (ap is_read e), λ e. isnt (ap (fault_of f) e))

-- want of memory, where an answer is a fault
fault_at : (f : Fault) → IsErrOf {T = ChangeValue} (Err f) fault.NoMemory → f ≡ fault.NoMemory
fault_at f e = cc

of_refusal : (r : PeerRefusal) → r ≢ NoMemory → IsNotOfMemory (Err r)
of_refusal r isnt = (λ e. isnt (ap (refusal_of r) e), λ e. true≢false (sym (ap is_read e)))

refused : (cs : List Contents) (k : PartValue) (f : Fault) → IsFirstFault cs k.history f → IsRefusal cs k.history f
refused cs k (fault.UnknownParent p) h = h
refused cs k (fault.Collision n) h = h
refused cs k (fault.UnknownBound n) h = h
refused cs k fault.NullBound h = h
refused cs k fault.NoMemory h = tt

-- the taker, and the message that it takes
module _ (s : KeptValue) (messages : List (List ℕ)) (number : ℕ) (bytes : List ℕ)
    (there : slice_get messages number ≡ Some bytes) where
  same_bytes : (others : List ℕ) → slice_get messages number ≡ Some others → others ≡ bytes
  same_bytes others at = cc

  takes_part : (t : KeptValue) (change : ChangeValue) (part : PartValue) (others : List ℕ)
      → slice_get messages number ≡ Some others → SpellsPart others part → Tells s part change t
      → TakesOffer s (Some bytes) t
  unfolding AbsorbAnswer
  takes_part t change part others at spells tells =
      let (m, read, is) = subst (λ (b : List ℕ). SpellsPart b part) (same_bytes others at) spells in (
        Ok (Ok change),
        (
          m,
          read,
          subst (λ (k : PartValue). IsAbsorbed s.replica k change t.replica) is tells.0,
          λ wanting. absurd cc,
          tells.1,
        ),
        of_change change,
      )

  -- what it refuses leaves it as it was
  takes_none : (taker : ℕ) (refusal : EventRefusal PeerRefusal Fault) → IsValid s.replica
      → IsReason peer_state peer_words messages s (Take taker number) refusal → ¬ (IsOfMemory (Refused refusal))
      → TakesOffer s (Some bytes) s
  unfolding AbsorbAnswer
  takes_none taker NoNode valid h isnt = absurd h
  takes_none taker NoMessage valid h isnt = absurd cc
  takes_none taker (ByActor r) valid (others, at, inl against) isnt = (
    Err r,
    (inl (subst (λ (b : List ℕ). IsAgainstBytes b r) (same_bytes others at) against), refl),
    of_refusal r isnt,
  )
  takes_none taker (ByActor r) valid (others, at, inr memory) isnt = absurd (isnt memory)
  takes_none taker (ByState f) valid (others, at, part, spells, inl first) isnt =
      let (m, read, is) = subst (λ (b : List ℕ). SpellsPart b part) (same_bytes others at) spells in
      let fault_is = fault_from_content s.replica (message_part m) f valid
      (subst (λ (k : PartValue). IsContentFault (content_of s.replica) k f) is first) in (
        Ok (Err f),
        (
          m,
          read,
          (refused (changesets s.replica.history) (message_part m) f fault_is, refl),
          λ wanting. absurd (isnt (fault_at f wanting)),
          refl,
        ),
        of_fault f isnt,
      )
  takes_none taker (ByState f) valid (others, at, part, spells, inr memory) isnt = absurd (isnt memory)

-- ---- a sharing

pub none_absent : (old : PeerWorld) (taker giver : ℕ) → taker < length old.nodes → giver < length old.nodes
    → IsOneAbsent old taker giver → ⊥
none_absent old taker giver t g (inl none) = let there = (some_at old.nodes taker t).1 in cc
none_absent old taker giver t g (inr none) = let there = (some_at old.nodes giver g).1 in cc

module _ (old new : Snapshot KeptValue) (taker giver : ℕ) (s : KeptValue) (at : slice_get old.nodes taker ≡ Some s)
    (valid : IsValid s.replica) where
  -- nothing was offered
  none_shared : (gives : KeptValue) (ask : Ask) (refusal : EventRefusal PeerRefusal Fault)
      → slice_get old.nodes giver ≡ Some gives → AsksForAll ask
      → IsReason peer_state peer_words old.messages gives (Offer giver ask) refusal
      → ¬ (IsOfMemory (Refused refusal)) → new ≡ old → Shares taker giver old.nodes new.nodes
  none_shared gives ask NoNode there all h isnt same = absurd h
  none_shared gives ask NoMessage there all h isnt same = absurd h
  none_shared gives ask (ByState f) there all h isnt same = absurd h
  none_shared gives ask (ByActor r) there all (inr memory) isnt same = absurd (isnt memory)
  none_shared gives ask (ByActor r) there all (inl against) isnt same = record {
    old = s;
    gives = gives;
    new = s;
    offer = None;
    taker_at = at;
    giver_at = there;
    offered = (ask, all, (r, against));
    taken = refl;
    only = ap (λ (w : Snapshot KeptValue). w.nodes) same ∙ sym (set_what_was old.nodes taker s s at refl);
  }

  -- the message that was offered is taken
  module _ (mid : Snapshot KeptValue) (number : ℕ) (gives : KeptValue) (ask : Ask) (bytes : List ℕ)
      (there : slice_get old.nodes giver ≡ Some gives) (all : AsksForAll ask) (offers : Offers gives ask bytes)
      (nodes : mid.nodes ≡ old.nodes) (message : slice_get mid.messages number ≡ Some bytes) where
    still : slice_get mid.nodes taker ≡ Some s
    still = ap (λ (ns : List KeptValue). slice_get ns taker) nodes ∙ at

    one_shared : (t : KeptValue) → TakesOffer s (Some bytes) t → new.nodes ≡ slice_set old.nodes taker t
        → Shares taker giver old.nodes new.nodes
    one_shared t takes only = record {
      old = s;
      gives = gives;
      new = t;
      offer = Some bytes;
      taker_at = at;
      giver_at = there;
      offered = (ask, all, offers);
      taken = takes;
      only = only;
    }

    taken_shared : (answer : PeerAnswer) (part : Option PartValue)
        → Happens peer_state peer_words mid (Take taker number) answer part new → ¬ (IsOfMemory answer)
        → Shares taker giver old.nodes new.nodes
    taken_shared (Accepted change) None h isnt = absurd h
    taken_shared (Accepted change) (Some part) (node, next, there, (others, got, spells), absorbs, set, same) isnt =
        let is : node ≡ s = one_at mid.nodes taker node s there still in
        one_shared next
        (takes_part s mid.messages number bytes message next change part others got spells
        (subst (λ (x : KeptValue). Tells x part change next) is absorbs.tells))
        (set ∙ ap (λ (ns : List KeptValue). slice_set ns taker next) nodes)
    taken_shared (Offered n) None h isnt = absurd h
    taken_shared (Offered n) (Some part) h isnt = absurd h
    taken_shared Marked None h isnt = absurd h
    taken_shared Marked (Some part) h isnt = absurd h
    taken_shared (Refused refusal) (Some part) h isnt = absurd h
    taken_shared (Refused refusal) None (inl none, same) isnt = absurd (let gone = none.1 in cc)
    taken_shared (Refused refusal) None (inr (node, there, reason), same) isnt =
        let is : node ≡ s = one_at mid.nodes taker node s there still in
        one_shared s
        (takes_none s mid.messages number bytes message taker refusal valid
        (subst (λ (x : KeptValue). IsReason peer_state peer_words mid.messages x (Take taker number) refusal) is reason)
        isnt)
        (ap (λ (w : Snapshot KeptValue). w.nodes) same ∙ nodes ∙ sym (set_what_was old.nodes taker s s at refl))

  -- so the taker takes the whole offer of the giver
  pub shared : (offered : PeerAnswer) (answer : Option PeerAnswer)
      → Pulls old taker giver Whole (offered ∷ if_taken answer) new → NoneIsOfMemory (offered ∷ if_taken answer)
      → Shares taker giver old.nodes new.nodes
  shared offered answer pulls isnt = by offered answer pulls.parts pulls.ran isnt
    where
      ask : Ask
      ask = asking Whole pulls.common

      all : AsksForAll ask
      all = (pulls.left_out.4, refl)

      by : (offered : PeerAnswer) (answer : Option PeerAnswer) (parts : List (Option PartValue))
          → Runs peer_state peer_words old (Offer giver ask ∷ taken taker (offered ∷ if_taken answer))
          (offered ∷ if_taken answer) parts new
          → NoneIsOfMemory (offered ∷ if_taken answer) → Shares taker giver old.nodes new.nodes
      by offered answer [] ran isnt = absurd ran
      by (Accepted change) answer (None ∷ parts) ran isnt = absurd ran.1
      by (Accepted change) answer (Some part ∷ parts) ran isnt = let h = ran.1 in absurd h.3
      by Marked answer (None ∷ parts) ran isnt = absurd ran.1
      by Marked answer (Some part ∷ parts) ran isnt = absurd ran.1
      by (Refused refusal) answer (Some part ∷ parts) ran isnt = absurd ran.1
      by (Refused refusal) (Some answer) (None ∷ parts) ran isnt = absurd ran.2
      by (Refused refusal) None (None ∷ (part ∷ parts)) ran isnt = absurd ran.2
      by (Refused refusal) None (None ∷ []) (mid, (inl none, same), end) isnt =
          absurd (let there = pulls.left_out.3 in let gone = none.1 in cc)
      by (Refused refusal) None (None ∷ []) (mid, (inr (gives, there, reason), same), end) isnt =
          none_shared gives ask refusal there all reason isnt.0 (end ∙ same)
      by (Offered number) answer (Some part ∷ parts) ran isnt = absurd ran.1
      by (Offered number) None (None ∷ parts) ran isnt = absurd ran.2
      by (Offered number) (Some answer) (None ∷ []) ran isnt = absurd ran.2
      by (Offered number) (Some answer) (None ∷ (part ∷ (more ∷ parts))) ran isnt = let rest = ran.2 in absurd rest.2
      by (Offered number) (Some answer) (None ∷ (part ∷ []))
          (mid, (gives, bytes, there, offers, is, nodes, messages), (last, happens, end)) isnt =
          taken_shared mid number gives ask bytes there all offers nodes
          (ap (λ (ms : List (List ℕ)). slice_get ms number) messages
          ∙ ap (λ (k : ℕ). slice_get (old.messages ++ bytes ∷ []) k) is
          ∙ slice_get-append_seam old.messages bytes [])
          answer part
          (subst (λ (w : Snapshot KeptValue). Happens peer_state peer_words mid (Take taker number) answer part w)
          (sym end) happens) isnt.1.0

-- ---- a round

-- one among others is at the number of those before it, and is exchanged there
seam_at : (xs before behind : List KeptValue) (x : KeptValue) (i : ℕ) → xs ≡ before ++ x ∷ behind → i ≡ length before
    → slice_get xs i ≡ Some x
seam_at xs before behind x i is at =
    ap (λ (ys : List KeptValue). slice_get ys i) is
    ∙ ap (λ (k : ℕ). slice_get (before ++ x ∷ behind) k) at ∙ slice_get-append_seam before x behind

set_there : (xs before behind : List KeptValue) (x y : KeptValue) (i : ℕ) → xs ≡ before ++ x ∷ behind
    → i ≡ length before → slice_set xs i y ≡ before ++ y ∷ behind
set_there xs before behind x y i is at =
    ap (λ (ys : List KeptValue). slice_set ys i y) is
    ∙ ap (λ (k : ℕ). slice_set (before ++ x ∷ behind) k y) at ∙ set-append_seam before x behind y

-- the last one to take is the first
pub ended : (taker : ℕ) (ss us : List KeptValue) → taker ≡ length ss → Shares 0 (taker - 1) ss us
    → EndsRound taker ss us
ended taker ss us all shares first gives done [] is at gives_at =
    let place : taker - 1 ≡ length done = omega (arith, at) in
    let whole : ss ≡ first ∷ done = is ∙ ap (λ (xs : List KeptValue). first ∷ xs) (append-nil done) in
    let old_is : shares.old ≡ first = one_at (first ∷ done) 0 shares.old first
    (subst (λ (xs : List KeptValue). slice_get xs 0 ≡ Some shares.old) whole shares.taker_at) refl in
    let gives_is : shares.gives ≡ gives = one_at (first ∷ done) (length done) shares.gives gives
    (subst (λ (i : ℕ). slice_get (first ∷ done) i ≡ Some shares.gives) place
    (subst (λ (xs : List KeptValue). slice_get xs (taker - 1) ≡ Some shares.gives) whole shares.giver_at)) gives_at in (
      shares.new,
      [],
      shares.offer,
      shares.offer,
      shares.only ∙ ap (λ (xs : List KeptValue). slice_set xs 0 shares.new) whole
          ∙ ap (λ (xs : List KeptValue). shares.new ∷ xs) (sym (append-nil done)),
      subst (λ (x : KeptValue). IsWholeOffer x shares.offer) gives_is shares.offered,
      refl,
      subst (λ (x : KeptValue). TakesOffer x shares.offer shares.new) old_is shares.taken,
    )
ended taker ss us all shares first gives done (s ∷ rest) is at gives_at =
    let long = ap length is ∙ ap suc (length-append done (s ∷ rest)) in absurd (omega (arith, long, at, all))

pub onward : (taker : ℕ) (ss mid us : List KeptValue) → taker ≢ length ss → Shares taker (taker - 1) ss mid
    → EndsRound (taker + 1) mid us → EndsRound taker ss us
onward taker ss mid us ne shares rest_of first gives done [] is at gives_at =
    let long = ap length is ∙ ap suc (length-append done []) in absurd (ne (omega (arith, long, at)))
onward taker ss mid us ne shares rest_of first gives done (s ∷ rest) is at gives_at =
    let here : taker ≡ length (first ∷ done) = omega (arith, at) in
    let place : taker - 1 ≡ length done = omega (arith, at) in
    let old_is : shares.old ≡ s =
    one_at ss taker shares.old s shares.taker_at (seam_at ss (first ∷ done) rest s taker is here) in
    let was : slice_get ss (taker - 1) ≡ Some gives =
    ap (λ (xs : List KeptValue). slice_get xs (taker - 1)) is
    ∙ ap (λ (i : ℕ). slice_get ((first ∷ done) ++ s ∷ rest) i) place
    ∙ slice_get-append (first ∷ done) (s ∷ rest) (length done) gives gives_at in
    let gives_is : shares.gives ≡ gives = one_at ss (taker - 1) shares.gives gives shares.giver_at was in
    let next : mid ≡ first ∷ (done ++ shares.new ∷ []) ++ rest =
    shares.only ∙ set_there ss (first ∷ done) rest s shares.new taker is here
    ∙ ap (λ (xs : List KeptValue). first ∷ xs) (sym (append_assoc done (shares.new ∷ []) rest)) in
    let longer : length (done ++ shares.new ∷ []) ≡ length (first ∷ done) =
    length-append done (shares.new ∷ []) ∙ omega arith in
    let last_at : slice_get (first ∷ done ++ shares.new ∷ []) (length (done ++ shares.new ∷ [])) ≡ Some shares.new =
    seam_at (first ∷ done ++ shares.new ∷ []) (first ∷ done) [] shares.new (length (done ++ shares.new ∷ [])) refl
    longer in
    let (last, ts, offer, left, us_is, offered, passes, takes) =
    rest_of first shares.new (done ++ shares.new ∷ []) rest next (omega (arith, at, longer)) last_at in (
      last,
      shares.new ∷ ts,
      shares.offer,
      left,
      us_is ∙ ap (λ (xs : List KeptValue). last ∷ xs) (append_assoc done (shares.new ∷ []) ts),
      subst (λ (x : KeptValue). IsWholeOffer x shares.offer) gives_is shares.offered,
      (subst (λ (x : KeptValue). TakesOffer x shares.offer shares.new) old_is shares.taken, (offer, offered, passes)),
      takes,
    )

pub whole_round : (ss us : List KeptValue) → ss ≢ [] → EndsRound 1 ss us → GoesRound ss us
whole_round [] us some ends = absurd (some refl)
whole_round (first ∷ rest) us some ends =
    let (last, ts, offer, left, is, offered, passes, takes) = ends first first [] rest refl refl refl in
    subst (GoesRound (first ∷ rest)) (sym is) (offer, left, offered, passes, takes)

-- ---- runs

pub runs_none : (old new : PeerWorld) → new ≡ old → RunsOn old new
runs_none old new same = ([], [], [], same)

pub runs_then : (old mid new : PeerWorld) → RunsOn old mid → RunsOn mid new → RunsOn old new
runs_then old mid new (events, answers, parts, ran) (more, others, next, on) = (
  events ++ more,
  answers ++ others,
  parts ++ next,
  run_on peer_state peer_words old mid new events more answers others parts next ran on,
)

pub runs_pulled : (old new : PeerWorld) (taker giver : ℕ) (pulled : Option Pulled)
    → IsPulled old taker giver Whole pulled new → RunsOn old new
runs_pulled old new taker giver None h = runs_none old new h.1
runs_pulled old new taker giver (Some pulled) (pulls, absent) = (
  Offer giver (asking Whole pulls.common) ∷ taken taker (answers_of pulled),
  answers_of pulled,
  pulls.parts,
  pulls.ran,
)

-- no peer comes or goes
pub same_number : (old new : PeerWorld) → RunsOn old new → length new.nodes ≡ length old.nodes
same_number old new (events, answers, parts, ran) =
    same_counts peer_state peer_words replicas_ordered replicas_stay_covered replicas_absorbed marked_says_the_same old
    new events answers parts ran
