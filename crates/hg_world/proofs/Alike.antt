-- Worlds that can't be told apart stay so, where the same events have the same answers.
use Rattle.std.proofs.Common.{◌≡◌, ◌⊎◌, ℕ, zero, suc, ◌==◌, ◌+◌, ◌<◌, Option, Some, None, List, [], ◌∷◌, ◌++◌, length}
use Rattle.std.proofs.Common.{refl, sym, ap, subst, ◌∙◌, inl, inr, arith}
use Rattle.std.specs.Prelude.{slice_get, slice_set}
use Rattle.std.proofs.lemmas.Bool.{cond-true, cond-false}
use Rattle.std.proofs.lemmas.Bool.Decides.{eqb_tells}
use Rattle.std.proofs.lemmas.List.{length-set, length-append}
use Rattle.std.proofs.lemmas.Option.{slice_get_within}
use Rattle.hg_join.specs.declared.state.JoinState.{Ghosts as StateWords}
use Rattle.hg_join.specs.declared.actor.Actor.{Ghosts as ActorWords}
use Rattle.hg_join.specs.Order.{IsPartialOrder, IsLeastCovering, SaySame}
use Rattle.hg_world.specs.declared.event.Event.{Event}
use Rattle.hg_world.specs.declared.event.Event.TheVariants.{Local, Offer, Take, Mark}
use Rattle.hg_world.specs.declared.event.Answer.{Answer}
use Rattle.hg_world.specs.declared.event.Answer.TheVariants.{Accepted, Offered, Marked, Refused}
use Rattle.hg_world.specs.Runs.{Snapshot, Trace, AskAndAnswerTheSame, place_of, IsPartOf, Happens, Runs, Ran}
use Rattle.hg_world.specs.Runs.{accepted_at, accepted_in, AllValid}
use Rattle.hg_world.specs.Alike.{HaveSameContents, HaveSameOwn, HaveSameMessages, AreAlike, SayAlike}
use Rattle.hg_world.specs.Laws.{AlikeStayAlike, AlikeAcceptAlike, AllAreAlikeThemselves, NewAreAlike}
use Rattle.hg_world.proofs.Places.{none_there, one_at, exchanged_same}
use Rattle.hg_world.proofs.Least.{valid_after}

-- an element of a list with one more is of the list, or is that one
before_or_last : {X : Type 0} (xs : List X) (x y : X) (i : ℕ) → slice_get (xs ++ x ∷ []) i ≡ Some y →
    (slice_get xs i ≡ Some y) ⊎ ((i ≡ length xs) × (x ≡ y))
before_or_last [] x y zero e = let same : x ≡ y = cc in inr (refl, same)
before_or_last [] x y (suc i) e = absurd cc
before_or_last (z ∷ xs) x y zero e = inl e
before_or_last (z ∷ xs) x y (suc i) e = elim (before_or_last xs x y i e) [
  | inl h ↦ inl h
  | inr h ↦ inr (ap suc h.0, h.1)
]

module _ {S O A M R P C F : Type 0} (J : StateWords S P C F) (W : ActorWords S O A M R P C F)
    (order : IsPartialOrder J.IsValid J.Below)
    (stays : (a b : J.Content) (p : J.PartContent) → J.IsValid a → J.IsValid b → J.Below a b → J.Covers a p →
    J.Covers b p)
    (absorbed : (a b : J.Content) (p : J.PartContent) → J.IsValid a → J.After a p b →
    IsLeastCovering J.IsValid J.Below J.Covers a (p ∷ []) b)
    (decided_once : (s t : S) (op : O) (p q : P) → J.IsValid (J.content s) → J.content s ≡ J.content t →
    W.owned s ≡ W.owned t → W.Decides s op p → W.Decides t op q → J.part_content p ≡ J.part_content q)
    (offered_alike : (s t : S) (ask : A) (bytes others : List ℕ) (p q : P) → J.IsValid (J.content s) →
    J.content s ≡ J.content t → W.owned s ≡ W.owned t → W.Offers s ask bytes → W.Offers t ask others →
    W.Spells bytes p → W.Spells others q →
    SaySame J.IsValid J.Covers (J.part_content p) (J.part_content q))
    (spelled_once : (bytes : List ℕ) (p q : P) → W.Spells bytes p → W.Spells bytes q →
    J.part_content p ≡ J.part_content q)
    (marked : (s t : S) (mark : M) → W.Marks s mark t → J.content t ≡ J.content s)
    (marked_once : (s t next follow : S) (mark : M) → J.content s ≡ J.content t → W.owned s ≡ W.owned t →
    W.Marks s mark next → W.Marks t mark follow → W.owned next ≡ W.owned follow)
    (told_leaves_own : (s t : S) (part : P) (change : C) → J.Tells s part change t → W.owned t ≡ W.owned s) where
  -- parts that say the same leave one content
  one_after : (a b c : J.Content) (p q : J.PartContent) → J.IsValid a → SaySame J.IsValid J.Covers p q → J.After a p b →
      J.After a q c → b ≡ c
  one_after a b c p q v same h k =
      let to_b = absorbed a b p v h in
      let to_c = absorbed a c q v k in
      order.antisymmetric b c to_b.valid to_c.valid
      (to_b.least c to_c.valid to_c.above ((same c to_c.valid).1 to_c.covers.0, tt))
      (to_c.least b to_b.valid to_b.above ((same b to_b.valid).0 to_b.covers.0, tt))

  equal_say_same : (p q : J.PartContent) → p ≡ q → SaySame J.IsValid J.Covers p q
  equal_say_same p q e c v = (λ h. subst (J.Covers c) e h, λ h. subst (J.Covers c) (sym e) h)

  -- what one event brings to nodes with one content and one own
  brings_same : (old first : Snapshot S) (node other : S) (event : Event O A M) (p q : P) → AreAlike J W old first →
      J.IsValid (J.content node) → J.content node ≡ J.content other → W.owned node ≡ W.owned other →
      IsPartOf J W old.messages node event p → IsPartOf J W first.messages other event q →
      SaySame J.IsValid J.Covers (J.part_content p) (J.part_content q)
  brings_same old first node other (Local at op) p q a v e own h k =
      equal_say_same (J.part_content p) (J.part_content q) (decided_once node other op p q v e own h k)
  brings_same old first node other (Offer at ask) p q a v e own h k = absurd h
  brings_same old first node other (Mark at mark) p q a v e own h k = absurd h
  brings_same old first node other (Take at message) p q a v e own h k = a.2.1 message h.0 k.0 p q h.1 k.1 h.2 k.2

  -- nodes of alike worlds, one of which is exchanged in each for others with one content and one own
  exchanged_alike : (old first mid last : Snapshot S) (place : ℕ) (node next other follow : S) →
      AreAlike J W old first → slice_get old.nodes place ≡ Some node → slice_get first.nodes place ≡ Some other →
      J.content next ≡ J.content follow → W.owned next ≡ W.owned follow → mid.nodes ≡ slice_set old.nodes place next →
      last.nodes ≡ slice_set first.nodes place follow → HaveSameContents J W mid last × HaveSameOwn J W mid last
  exchanged_alike old first mid last place node next other follow a there here e own h k = (
    (
      ap length h ∙ (simp length-set) ∙ a.0.0 ∙ sym (ap length k ∙ simp length-set),
      exchanged_same J.content old.nodes first.nodes mid.nodes last.nodes place node other next follow a.0.1 there here
          e h k,
    ),
    exchanged_same W.owned old.nodes first.nodes mid.nodes last.nodes place node other next follow a.1 there here own h
        k,
  )

  -- messages of alike worlds stay alike where messages stay
  messages_alike : (old first mid last : Snapshot S) → AreAlike J W old first → mid.messages ≡ old.messages →
      last.messages ≡ first.messages → HaveSameMessages J W mid last
  messages_alike old first mid last a h k = (
    ap length h ∙ a.2.0 ∙ sym (ap length k),
    λ number bytes others p q at_b at_o. a.2.1 number bytes others p q (rw (← h) at_b) (rw (← k) at_o),
  )

  -- nodes of alike worlds stay alike where nodes stay
  nodes_alike : (old first mid last : Snapshot S) → AreAlike J W old first → mid.nodes ≡ old.nodes →
      last.nodes ≡ first.nodes → HaveSameContents J W mid last × HaveSameOwn J W mid last
  nodes_alike old first mid last a h k = (
    (
      ap length h ∙ a.0.0 ∙ sym (ap length k),
      λ place x y at_x at_y. a.0.1 place x y (rw (← h) at_x) (rw (← k) at_y),
    ),
    λ place x y at_x at_y. a.1 place x y (rw (← h) at_x) (rw (← k) at_y),
  )

  contradicts : (xs ys : List (List ℕ)) (i : ℕ) (x : List ℕ) → length xs ≡ length ys → slice_get xs i ≡ Some x →
      i ≡ length ys → ⊥
  contradicts xs ys i x e at last =
      let within : i < length xs = slice_get_within xs i x at in omega (arith, within, e, last)

  -- one more message in each of alike worlds
  offered_messages : (old first mid last : Snapshot S) (node other : S) (ask : A) (bytes others : List ℕ) →
      AreAlike J W old first → J.IsValid (J.content node) → J.content node ≡ J.content other →
      W.owned node ≡ W.owned other → W.Offers node ask bytes → W.Offers other ask others →
      mid.messages ≡ old.messages ++ bytes ∷ [] → last.messages ≡ first.messages ++ others ∷ [] →
      HaveSameMessages J W mid last
  offered_messages old first mid last node other ask bytes others a v e own offers offers' h k = (
    ap length h ∙ (simp length-append) ∙ ap (λ (n : ℕ). n + 1) a.2.0 ∙ sym (ap length k ∙ simp length-append),
    λ number b o p q at_b at_o spells spells'.
        elim (before_or_last old.messages bytes b number (rw (← h) at_b)) [
          | inl there ↦
              elim (before_or_last first.messages others o number (rw (← k) at_o)) [
                | inl here ↦ a.2.1 number b o p q there here spells spells'
                | inr here ↦ absurd (contradicts old.messages first.messages number b a.2.0 there here.0)
              ]
          | inr there ↦
              elim (before_or_last first.messages others o number (rw (← k) at_o)) [
                | inl here ↦ absurd (contradicts first.messages old.messages number o (sym a.2.0) here there.0)
                | inr here ↦
                    offered_alike node other ask bytes others p q v e own offers offers'
                    (subst (λ (x : List ℕ). W.Spells x p) (sym there.1) spells)
                    (subst (λ (x : List ℕ). W.Spells x q) (sym here.1) spells')
              ]
        ],
  )

  alike_after : (old first mid last : Snapshot S) (event : Event O A M) (answer : Answer C R F)
      (part other : Option P) → AllValid J old → AreAlike J W old first →
      Happens J W old event answer part mid → Happens J W first event answer other last → AreAlike J W mid last
  alike_after old first mid last event (Accepted change) None other v a h k = absurd h
  alike_after old first mid last event (Accepted change) (Some p) None v a h k = absurd k
  alike_after old first mid last event (Accepted change) (Some p) (Some q) v a h k =
      let place : ℕ = place_of event in
      let valid : J.IsValid (J.content h.0) = v place h.0 h.2 in
      let e : J.content h.0 ≡ J.content k.0 = a.0.1 place h.0 k.0 h.2 k.2 in
      let own : W.owned h.0 ≡ W.owned k.0 = a.1 place h.0 k.0 h.2 k.2 in
      let same = brings_same old first h.0 k.0 event p q a valid e own h.3 k.3 in
      let after : J.After (J.content h.0) (J.part_content q) (J.content k.1) =
      subst (λ (c : J.Content). J.After c (J.part_content q) (J.content k.1)) (sym e) k.4.after in
      let one : J.content h.1 ≡ J.content k.1 =
      one_after (J.content h.0) (J.content h.1) (J.content k.1) (J.part_content p) (J.part_content q) valid same
      h.4.after after in
      let still : W.owned h.1 ≡ W.owned k.1 =
      told_leaves_own h.0 h.1 p change h.4.tells ∙ own ∙ sym (told_leaves_own k.0 k.1 q change k.4.tells) in
      let nodes = exchanged_alike old first mid last place h.0 h.1 k.0 k.1 a h.2 k.2 one still h.5 k.5 in
      (nodes.0, nodes.1, messages_alike old first mid last a h.6 k.6)
  alike_after old first mid last event (Offered number) (Some part) other v a h k = absurd h
  alike_after old first mid last event (Offered number) None (Some other) v a h k = absurd k
  alike_after old first mid last (Local at op) (Offered number) None None v a h k = absurd h
  alike_after old first mid last (Take at message) (Offered number) None None v a h k = absurd h
  alike_after old first mid last (Mark at mark) (Offered number) None None v a h k = absurd h
  alike_after old first mid last (Offer at ask) (Offered number) None None v a h k =
      let e : J.content h.0 ≡ J.content k.0 = a.0.1 at h.0 k.0 h.2 k.2 in
      let own : W.owned h.0 ≡ W.owned k.0 = a.1 at h.0 k.0 h.2 k.2 in
      let nodes = nodes_alike old first mid last a h.5 k.5 in (
        nodes.0,
        nodes.1,
        offered_messages old first mid last h.0 k.0 ask h.1 k.1 a (v at h.0 h.2) e own h.3 k.3 h.6 k.6,
      )
  alike_after old first mid last event Marked (Some part) other v a h k = absurd h
  alike_after old first mid last event Marked None (Some other) v a h k = absurd k
  alike_after old first mid last (Local at op) Marked None None v a h k = absurd h
  alike_after old first mid last (Offer at ask) Marked None None v a h k = absurd h
  alike_after old first mid last (Take at message) Marked None None v a h k = absurd h
  alike_after old first mid last (Mark at mark) Marked None None v a h k =
      let e : J.content h.0 ≡ J.content k.0 = a.0.1 at h.0 k.0 h.2 k.2 in
      let own : W.owned h.1 ≡ W.owned k.1 =
      marked_once h.0 k.0 h.1 k.1 mark e (a.1 at h.0 k.0 h.2 k.2) h.3 k.3 in
      let one : J.content h.1 ≡ J.content k.1 = marked h.0 h.1 mark h.3 ∙ e ∙ sym (marked k.0 k.1 mark k.3) in
      let nodes = exchanged_alike old first mid last at h.0 h.1 k.0 k.1 a h.2 k.2 one own h.4 k.4 in
      (nodes.0, nodes.1, messages_alike old first mid last a h.5 k.5)
  alike_after old first mid last event (Refused refusal) (Some part) other v a h k = absurd h
  alike_after old first mid last event (Refused refusal) None (Some other) v a h k = absurd k
  alike_after old first mid last event (Refused refusal) None None v a h k = rw (h.1, k.1) a

  pub runs_alike : (old new first last : Snapshot S) (events : List (Event O A M)) (answers : List (Answer C R F))
      (parts others : List (Option P)) → AllValid J old → AllValid J first → AreAlike J W old first →
      Runs J W old events answers parts new → Runs J W first events answers others last → AreAlike J W new last
  runs_alike old new first last [] [] [] [] v w a h k = rw (h, k) a
  runs_alike old new first last [] [] (part ∷ parts) others v w a h k = absurd h
  runs_alike old new first last [] [] [] (other ∷ others) v w a h k = absurd k
  runs_alike old new first last [] (answer ∷ answers) parts others v w a h k = absurd h
  runs_alike old new first last (event ∷ events) [] parts others v w a h k = absurd h
  runs_alike old new first last (event ∷ events) (answer ∷ answers) [] others v w a h k = absurd h
  runs_alike old new first last (event ∷ events) (answer ∷ answers) (part ∷ parts) [] v w a h k = absurd k
  runs_alike old new first last (event ∷ events) (answer ∷ answers) (part ∷ parts) (other ∷ others) v w a h k =
      runs_alike h.0 new k.0 last events answers parts others
      (valid_after J W order stays absorbed marked old h.0 event answer part v h.1)
      (valid_after J W order stays absorbed marked first k.0 event answer other w k.1)
      (alike_after old first h.0 k.0 event answer part other v a h.1 k.1) h.2 k.2

  -- one more part in each, at one place
  accepted_more : (old first mid last : Snapshot S) (event : Event O A M) (answer : Answer C R F)
      (part other : Option P) (events : List (Event O A M)) (parts others : List (Option P)) (place : ℕ) →
      AllValid J old → AreAlike J W old first →
      Happens J W old event answer part mid → Happens J W first event answer other last →
      SayAlike J W (accepted_at J place events parts) (accepted_at J place events others) →
      SayAlike J W (accepted_at J place (event ∷ events) (part ∷ parts))
      (accepted_at J place (event ∷ events) (other ∷ others))
  accepted_more old first mid last event (Accepted change) None other events parts others place v a h k s = absurd h
  accepted_more old first mid last event (Accepted change) (Some p) None events parts others place v a h k s = absurd k
  accepted_more old first mid last event (Accepted change) (Some p) (Some q) events parts others place v a h k s =
      let e : J.content h.0 ≡ J.content k.0 = a.0.1 (place_of event) h.0 k.0 h.2 k.2 in
      let own : W.owned h.0 ≡ W.owned k.0 = a.1 (place_of event) h.0 k.0 h.2 k.2 in
      let same = brings_same old first h.0 k.0 event p q a (v (place_of event) h.0 h.2) e own h.3 k.3 in
      let ps : List J.PartContent = accepted_at J place events parts in
      let qs : List J.PartContent = accepted_at J place events others in
      elim (eqb_tells (place_of event) place) [
        | inl t ↦
            rw (
              cond-true (place_of event == place) (J.part_content p ∷ ps) ps t.0,
              cond-true (place_of event == place) (J.part_content q ∷ qs) qs t.0,
            ) (same, s)
        | inr ne ↦
            rw (
              cond-false (place_of event == place) (J.part_content p ∷ ps) ps ne.0,
              cond-false (place_of event == place) (J.part_content q ∷ qs) qs ne.0,
            ) s
      ]
  accepted_more old first mid last event (Offered number) (Some part) other events parts others place v a h k s =
      absurd h
  accepted_more old first mid last event (Offered number) None (Some other) events parts others place v a h k s =
      absurd k
  accepted_more old first mid last event (Offered number) None None events parts others place v a h k s = s
  accepted_more old first mid last event Marked (Some part) other events parts others place v a h k s = absurd h
  accepted_more old first mid last event Marked None (Some other) events parts others place v a h k s = absurd k
  accepted_more old first mid last event Marked None None events parts others place v a h k s = s
  accepted_more old first mid last event (Refused refusal) (Some part) other events parts others place v a h k s =
      absurd h
  accepted_more old first mid last event (Refused refusal) None (Some other) events parts others place v a h k s =
      absurd k
  accepted_more old first mid last event (Refused refusal) None None events parts others place v a h k s = s

  pub accepted_alike : (old new first last : Snapshot S) (events : List (Event O A M)) (answers : List (Answer C R F))
      (parts others : List (Option P)) (place : ℕ) → AllValid J old → AllValid J first → AreAlike J W old first →
      Runs J W old events answers parts new → Runs J W first events answers others last →
      SayAlike J W (accepted_at J place events parts) (accepted_at J place events others)
  accepted_alike old new first last [] [] [] [] place v w a h k = tt
  accepted_alike old new first last [] [] (part ∷ parts) others place v w a h k = absurd h
  accepted_alike old new first last [] [] [] (other ∷ others) place v w a h k = absurd k
  accepted_alike old new first last [] (answer ∷ answers) parts others place v w a h k = absurd h
  accepted_alike old new first last (event ∷ events) [] parts others place v w a h k = absurd h
  accepted_alike old new first last (event ∷ events) (answer ∷ answers) [] others place v w a h k = absurd h
  accepted_alike old new first last (event ∷ events) (answer ∷ answers) (part ∷ parts) [] place v w a h k = absurd k
  accepted_alike old new first last (event ∷ events) (answer ∷ answers) (part ∷ parts) (other ∷ others) place v w a h
      k =
      accepted_more old first h.0 k.0 event answer part other events parts others place v a h.1 k.1
      (accepted_alike h.0 new k.0 last events answers parts others place
      (valid_after J W order stays absorbed marked old h.0 event answer part v h.1)
      (valid_after J W order stays absorbed marked first k.0 event answer other w k.1)
      (alike_after old first h.0 k.0 event answer part other v a h.1 k.1) h.2 k.2)

  -- a run with other lists that are equal
  with_same : (first last : Snapshot S) (t u : Trace O A M P C R F) → AskAndAnswerTheSame t u → Ran J W first u last →
      Runs J W first t.events t.answers u.parts last
  with_same first last t u e h =
      let events : Runs J W first t.events u.answers u.parts last =
      subst (λ (es : List (Event O A M)). Runs J W first es u.answers u.parts last) (sym e.0) h in
      subst (λ (xs : List (Answer C R F)). Runs J W first t.events xs u.parts last) (sym e.1) events

  trace_alike : AlikeStayAlike J W
  trace_alike old new first last t u e v w a h k =
      runs_alike old new first last t.events t.answers t.parts u.parts v w a h (with_same first last t u e k)

  trace_accepted : AlikeAcceptAlike J W
  trace_accepted old new first last t u place e v w a h k =
      subst (λ (es : List (Event O A M)). SayAlike J W (accepted_in J t place) (accepted_at J place es u.parts)) e.0
      (accepted_alike old new first last t.events t.answers t.parts u.parts place v w a h
      (with_same first last t u e k))

  -- a world is like itself
  alike_itself : AllAreAlikeThemselves J W
  alike_itself old = (
    (refl, λ place a b at_a at_b. ap J.content (one_at old.nodes place a b at_a at_b)),
    (λ place a b at_a at_b. ap W.owned (one_at old.nodes place a b at_a at_b)),
    (
      refl,
      λ number bytes others p q at_b at_o spells spells'.
          equal_say_same (J.part_content p) (J.part_content q)
          (spelled_once bytes p q spells
          (subst (λ (x : List ℕ). W.Spells x q) (sym (one_at old.messages number bytes others at_b at_o)) spells')),
    ),
  )

  -- worlds of as many empty nodes, without messages
  empty_alike : NewAreAlike J W
  empty_alike old first e f un un' same m n = (
    (
      same,
      λ place a b at_a at_b.
          let x = e place a at_a in
          let y = f place b at_b in
          order.antisymmetric (J.content a) (J.content b) x.valid y.valid (x.least (J.content b) y.valid)
          (y.least (J.content a) x.valid),
    ),
    (λ place a b at_a at_b. un place a at_a ∙ sym (un' place b at_b)),
    (
      ap length m ∙ sym (ap length n),
      λ number bytes others p q at_b at_o.
          absurd (none_there number bytes (subst (λ (ms : List (List ℕ)). slice_get ms number ≡ Some bytes) m at_b)),
    ),
  )

  pub tell : AlikeStayAlike J W × AlikeAcceptAlike J W × AllAreAlikeThemselves J W × NewAreAlike J W
  tell = (trace_alike, trace_accepted, alike_itself, empty_alike)
