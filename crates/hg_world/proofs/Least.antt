-- Each node of a run is the least that covers what it accepted.
use Rattle.std.proofs.Common.{◌≡◌, ℕ, ◌==◌, ◌<◌, Option, Some, None, List, [], ◌∷◌, ◌++◌, length, take, drop, vec_len}
use Rattle.std.proofs.Common.{sym, ap, subst, ◌∙◌, inl, inr}
use Rattle.std.specs.Prelude.{slice_get, slice_set}
use Rattle.std.specs.List.{AllByRecursion}
use Rattle.std.specs.declared.vec.Vec.{Vec}
use Rattle.std.specs.declared.alloc.Global.{Global}
use Rattle.std.proofs.lemmas.Bool.{cond-true, cond-false}
use Rattle.std.proofs.lemmas.Bool.Decides.{eqb_tells}
use Rattle.std.proofs.lemmas.List.{length-set}
use Rattle.std.proofs.lemmas.Option.{slice_get_within}
use Rattle.hg_join.specs.declared.state.JoinState.{Ghosts as StateWords}
use Rattle.hg_join.specs.declared.actor.Actor.{Ghosts as ActorWords}
use Rattle.hg_join.specs.Order.{IsPartialOrder, IsLeastCovering, IsLeastOf}
use Rattle.hg_world.specs.declared.event.Event.{Event}
use Rattle.hg_world.specs.declared.event.Event.TheVariants.{Local, Offer, Take, Mark}
use Rattle.hg_world.specs.declared.event.Answer.{Answer}
use Rattle.hg_world.specs.declared.event.Answer.TheVariants.{Accepted, Offered, Marked, Refused}
use Rattle.hg_world.specs.Runs.{Snapshot, place_of, Happens, Runs, accepted_at, AllLeast, AllValid, AllEmpty}
use Rattle.hg_world.proofs.Longer.{all_written}
use Rattle.hg_world.proofs.Places.{some_at, one_at, get_set_same, get_set_other}
use Rattle.hg_world.proofs.Marks.{mark_leaves_contents, mark_leaves_count}

module _ {C P : Type 0} {IsValid : C → Type 0} {Below : C → C → Type 0} {Covers : C → P → Type 0}
    (order : IsPartialOrder IsValid Below)
    (stays : (a b : C) (p : P) → IsValid a → IsValid b → Below a b → Covers a p → Covers b p) where
  pub least_of_none : (a : C) → IsValid a → IsLeastCovering IsValid Below Covers a [] a
  least_of_none a v = record { valid = v; above = order.reflexive a v; covers = tt; least = λ b w up cov. up }

  -- the least after one part, and then after the others
  pub least_of_more : (a m b : C) (p : P) (ps : List P) → IsValid a →
      IsLeastCovering IsValid Below Covers a (p ∷ []) m → IsLeastCovering IsValid Below Covers m ps b →
      IsLeastCovering IsValid Below Covers a (p ∷ ps) b
  least_of_more a m b p ps v h k = record {
    valid = k.valid;
    above = order.transitive a m b v h.valid k.valid h.above k.above;
    covers = (stays m b p h.valid k.valid k.above h.covers.0, k.covers);
    least = λ c w up cov. k.least c w (h.least c w up (cov.0, tt)) cov.1;
  }

module _ {S O A M R P C F : Type 0} (J : StateWords S P C F) (W : ActorWords S O A M R P C F)
    (order : IsPartialOrder J.IsValid J.Below)
    (stays : (a b : J.Content) (p : J.PartContent) → J.IsValid a → J.IsValid b → J.Below a b → J.Covers a p →
    J.Covers b p)
    (absorbed : (a b : J.Content) (p : J.PartContent) → J.IsValid a → J.After a p b →
    IsLeastCovering J.IsValid J.Below J.Covers a (p ∷ []) b)
    (marked : (s t : S) (mark : M) → W.Marks s mark t → J.content t ≡ J.content s) where
  -- what holds of each place stays where the nodes do
  same_nodes : (old mid new : Snapshot S) (events : List (Event O A M)) (parts : List (Option P)) →
      mid.nodes ≡ old.nodes → AllLeast J mid events parts new → AllLeast J old events parts new
  same_nodes old mid new events parts e h place before at = h place before (rw e at)

  pub valid_after : (old mid : Snapshot S) (event : Event O A M) (answer : Answer C R F) (part : Option P) →
      AllValid J old → Happens J W old event answer part mid → AllValid J mid
  valid_after old mid event (Accepted change) None v h = absurd h
  valid_after old mid event (Accepted change) (Some part) v h = λ place now at.
      let node = h.0 in
      let next = h.1 in
      let there : slice_get (slice_set old.nodes (place_of event) next) place ≡ Some now = rw (← h.5) at in
      elim (eqb_tells (place_of event) place) [
        | inl e ↦
            let got : slice_get (slice_set old.nodes (place_of event) next) place ≡ Some next =
            subst (λ (i : ℕ). slice_get (slice_set old.nodes (place_of event) next) i ≡ Some next) e.1
            (get_set_same old.nodes (place_of event) node next h.2) in
            let same : next ≡ now = cc in
            subst (λ (s : S). J.IsValid (J.content s)) same
            ((absorbed (J.content node) (J.content next) (J.part_content part) (v (place_of event) node h.2)
            h.4.after).valid)
        | inr ne ↦ v place now (sym (get_set_other old.nodes (place_of event) place next ne.1) ∙ there)
      ]
  valid_after old mid (Local i op) (Offered number) None v h = absurd h
  valid_after old mid (Take i m) (Offered number) None v h = absurd h
  valid_after old mid (Mark i m) (Offered number) None v h = absurd h
  valid_after old mid (Offer i ask) (Offered number) None v h = λ place now at. v place now (rw (← h.5) at)
  valid_after old mid event (Offered number) (Some part) v h = absurd h
  valid_after old mid event Marked (Some part) v h = absurd h
  valid_after old mid (Local i op) Marked None v h = absurd h
  valid_after old mid (Offer i ask) Marked None v h = absurd h
  valid_after old mid (Take i m) Marked None v h = absurd h
  valid_after old mid (Mark i m) Marked None v h = λ place now at.
      let within : place < length old.nodes =
      subst (λ (n : ℕ). place < n) (mark_leaves_count J W marked old mid i m h)
      (slice_get_within mid.nodes place now at) in
      let before = some_at old.nodes place within in
      subst J.IsValid (sym (mark_leaves_contents J W marked old mid i m h place now before.0 at before.1))
      (v place before.0 before.1)
  valid_after old mid event (Refused refusal) None v h = rw h.1 v
  valid_after old mid event (Refused refusal) (Some part) v h = absurd h

  -- and so once the nodes are written back to their vector
  pub valid_written : (nodes : Vec S Global) (now : List S) (messages : List (List ℕ)) (event : Event O A M)
      (answer : Answer C R F) (part : Option P) →
      AllValid J (record { nodes = nodes.items; messages = messages }) → length now ≡ vec_len nodes →
      Happens J W (record { nodes = nodes.items; messages = messages }) event answer part
      (record { nodes = now; messages = messages }) →
      AllValid J (record { nodes = take (vec_len nodes) (now ++ drop (length now) nodes.items); messages = messages })
  valid_written nodes now messages event answer part v len h =
      rw (all_written nodes now len) (valid_after
      (record { nodes = nodes.items; messages = messages }) (record { nodes = now; messages = messages }) event answer
      part v h)

  -- one event, and then the others
  pub least_after : (old mid new : Snapshot S) (event : Event O A M) (answer : Answer C R F) (part : Option P)
      (events : List (Event O A M)) (parts : List (Option P)) →
      AllValid J old → Happens J W old event answer part mid → AllLeast J mid events parts new →
      AllLeast J old (event ∷ events) (part ∷ parts) new
  least_after old mid new event (Accepted change) None events parts v h k = absurd h
  least_after old mid new event (Accepted change) (Some part) events parts v h k = λ place before at.
      let node = h.0 in
      let next = h.1 in
      let p : J.PartContent = J.part_content part in
      let rest : List J.PartContent = accepted_at J place events parts in
      elim (eqb_tells (place_of event) place) [
        | inl e ↦
            let got : slice_get mid.nodes place ≡ Some next =
            rw h.5 (subst (λ (i : ℕ). slice_get (slice_set old.nodes (place_of event) next) i ≡ Some next) e.1
            (get_set_same old.nodes (place_of event) node next h.2)) in
            let there : slice_get old.nodes place ≡ Some node =
            subst (λ (i : ℕ). slice_get old.nodes i ≡ Some node) e.1 h.2 in
            let same : node ≡ before = cc in
            let valid = v (place_of event) node h.2 in
            let one : IsLeastCovering J.IsValid J.Below J.Covers (J.content node) (p ∷ []) (J.content next) =
            absorbed (J.content node) (J.content next) p valid h.4.after in
            let later = k place next got in
            let all : IsLeastCovering J.IsValid J.Below J.Covers (J.content node) (p ∷ rest) (J.content later.0) =
            least_of_more order stays (J.content node) (J.content next) (J.content later.0) p rest valid one
            later.2 in (
              later.0,
              later.1,
              subst (λ (ps : List J.PartContent). IsLeastCovering J.IsValid J.Below J.Covers (J.content before) ps
                  (J.content later.0)) (sym (cond-true (place_of event == place) (p ∷ rest) rest e.0))
                  (subst (λ (s : S). IsLeastCovering J.IsValid J.Below J.Covers (J.content s) (p ∷ rest)
                  (J.content later.0)) same all),
            )
        | inr ne ↦
            let got : slice_get mid.nodes place ≡ Some before =
            rw h.5 (get_set_other old.nodes (place_of event) place next ne.1 ∙ at) in
            let later = k place before got in (
              later.0,
              later.1,
              subst (λ (ps : List J.PartContent). IsLeastCovering J.IsValid J.Below J.Covers (J.content before) ps
                  (J.content later.0)) (sym (cond-false (place_of event == place) (p ∷ rest) rest ne.0)) later.2,
            )
      ]
  least_after old mid new (Local i op) (Offered number) None events parts v h k = absurd h
  least_after old mid new (Take i m) (Offered number) None events parts v h k = absurd h
  least_after old mid new (Mark i m) (Offered number) None events parts v h k = absurd h
  least_after old mid new (Offer i ask) (Offered number) None events parts v h k =
      same_nodes old mid new events parts h.5 k
  least_after old mid new event (Offered number) (Some part) events parts v h k = absurd h
  least_after old mid new event Marked (Some part) events parts v h k = absurd h
  least_after old mid new (Local i op) Marked None events parts v h k = absurd h
  least_after old mid new (Offer i ask) Marked None events parts v h k = absurd h
  least_after old mid new (Take i m) Marked None events parts v h k = absurd h
  least_after old mid new (Mark i m) Marked None events parts v h k = λ place before at.
      let within : place < length mid.nodes =
      subst (λ (n : ℕ). place < n) (sym (mark_leaves_count J W marked old mid i m h))
      (slice_get_within old.nodes place before at) in
      let next = some_at mid.nodes place within in
      let later = k place next.0 next.1 in (
        later.0,
        later.1,
        subst (λ (c : J.Content). IsLeastCovering J.IsValid J.Below J.Covers c (accepted_at J place events parts)
            (J.content later.0)) (mark_leaves_contents J W marked old mid i m h place next.0 before next.1 at) later.2,
      )
  least_after old mid new event (Refused refusal) None events parts v h k = rw (← h.1) k
  least_after old mid new event (Refused refusal) (Some part) events parts v h k = absurd h

  pub run_is_least : (old new : Snapshot S) (events : List (Event O A M)) (answers : List (Answer C R F))
      (parts : List (Option P)) → AllValid J old → Runs J W old events answers parts new →
      AllLeast J old events parts new
  run_is_least old new [] [] [] v h =
      λ place before at. (before, rw h at, least_of_none order stays (J.content before) (v place before at))
  run_is_least old new [] [] (part ∷ parts) v h = absurd h
  run_is_least old new [] (answer ∷ answers) parts v h = absurd h
  run_is_least old new (event ∷ events) [] parts v h = absurd h
  run_is_least old new (event ∷ events) (answer ∷ answers) [] v h = absurd h
  run_is_least old new (event ∷ events) (answer ∷ answers) (part ∷ parts) v h =
      least_after old h.0 new event answer part events parts v h.1
      (run_is_least h.0 new events answers parts (valid_after old h.0 event answer part v h.1) h.2)

  pub run_is_valid : (old new : Snapshot S) (events : List (Event O A M)) (answers : List (Answer C R F))
      (parts : List (Option P)) → AllValid J old → Runs J W old events answers parts new → AllValid J new
  run_is_valid old new [] [] [] v h = rw h v
  run_is_valid old new [] [] (part ∷ parts) v h = absurd h
  run_is_valid old new [] (answer ∷ answers) parts v h = absurd h
  run_is_valid old new (event ∷ events) [] parts v h = absurd h
  run_is_valid old new (event ∷ events) (answer ∷ answers) [] v h = absurd h
  run_is_valid old new (event ∷ events) (answer ∷ answers) (part ∷ parts) v h =
      run_is_valid h.0 new events answers parts (valid_after old h.0 event answer part v h.1) h.2

  same_count : (old new : Snapshot S) (event : Event O A M) (answer : Answer C R F) (part : Option P) →
      Happens J W old event answer part new → length new.nodes ≡ length old.nodes
  same_count old new event (Accepted change) None h = absurd h
  same_count old new event (Accepted change) (Some part) h = ap length h.5 ∙ simp length-set
  same_count old new (Local i op) (Offered number) None h = absurd h
  same_count old new (Take i m) (Offered number) None h = absurd h
  same_count old new (Mark i m) (Offered number) None h = absurd h
  same_count old new (Offer i ask) (Offered number) None h = ap length h.5
  same_count old new event (Offered number) (Some part) h = absurd h
  same_count old new event Marked (Some part) h = absurd h
  same_count old new (Local i op) Marked None h = absurd h
  same_count old new (Offer i ask) Marked None h = absurd h
  same_count old new (Take i m) Marked None h = absurd h
  same_count old new (Mark i m) Marked None h = mark_leaves_count J W marked old new i m h
  same_count old new event (Refused refusal) None h = ap (λ (w : Snapshot S). length w.nodes) h.1
  same_count old new event (Refused refusal) (Some part) h = absurd h

  pub same_counts : (old new : Snapshot S) (events : List (Event O A M)) (answers : List (Answer C R F))
      (parts : List (Option P)) → Runs J W old events answers parts new → length new.nodes ≡ length old.nodes
  same_counts old new [] [] [] h = ap (λ (w : Snapshot S). length w.nodes) h
  same_counts old new [] [] (part ∷ parts) h = absurd h
  same_counts old new [] (answer ∷ answers) parts h = absurd h
  same_counts old new (event ∷ events) [] parts h = absurd h
  same_counts old new (event ∷ events) (answer ∷ answers) [] h = absurd h
  same_counts old new (event ∷ events) (answer ∷ answers) (part ∷ parts) h =
      same_counts h.0 new events answers parts h.2 ∙ same_count old h.0 event answer part h.1

  pub run_is_least_of_all : (old new : Snapshot S) (events : List (Event O A M)) (answers : List (Answer C R F))
      (parts : List (Option P)) (place : ℕ) (node : S) → AllEmpty J old → Runs J W old events answers parts new →
      slice_get new.nodes place ≡ Some node → IsLeastOf J.IsValid J.Below J.Covers (accepted_at J place events parts)
      (J.content node)
  run_is_least_of_all old new events answers parts place node e h at =
      let within : place < length old.nodes =
      subst (λ (n : ℕ). place < n) (same_counts old new events answers parts h)
      (slice_get_within new.nodes place node at) in
      let before = some_at old.nodes place within in
      let after =
      run_is_least old new events answers parts (λ q s there. (e q s there).valid) h place before.0 before.1 in
      let same : after.0 ≡ node = one_at new.nodes place after.0 node after.1 at in
      let k =
      subst (λ (s : S). IsLeastCovering J.IsValid J.Below J.Covers (J.content before.0)
      (accepted_at J place events parts) (J.content s)) same after.2 in
      record {
        valid = k.valid;
        covers = k.covers;
        least = λ c v cov. k.least c v ((e place before.0 before.1).least c v) cov;
      }

  pub runs_agree : (old new : Snapshot S) (events : List (Event O A M)) (answers : List (Answer C R F))
      (parts : List (Option P)) (a b : ℕ) (first second : S) → AllEmpty J old → Runs J W old events answers parts new →
      slice_get new.nodes a ≡ Some first → slice_get new.nodes b ≡ Some second →
      AllByRecursion (J.Covers (J.content first)) (accepted_at J b events parts) →
      AllByRecursion (J.Covers (J.content second)) (accepted_at J a events parts) →
      J.content first ≡ J.content second
  runs_agree old new events answers parts a b first second e h at_a at_b covers_b covers_a =
      let k = run_is_least_of_all old new events answers parts a first e h at_a in
      let l = run_is_least_of_all old new events answers parts b second e h at_b in
      order.antisymmetric (J.content first) (J.content second) k.valid l.valid
      (k.least (J.content second) l.valid covers_a) (l.least (J.content first) k.valid covers_b)
