-- What is at a place, and what absorbing a part there leaves.
use Rattle.std.proofs.Common.{◌≡◌, ◌⊎◌, ℕ, zero, suc, ◌<◌, Some, List, [], ◌∷◌, ◌++◌, length, vec_len, get_or, Result}
use Rattle.std.proofs.Common.{Ok, Err, IfOk, IfErr, OnOk, OnErr, MatchResult, slice_get, slice_set, refl, sym, ap, ◌∙◌}
use Rattle.std.proofs.Common.{subst, inl, inr, arith}
use Rattle.std.proofs.lemmas.Bool.Decides.{eqb_tells}
use Rattle.std.proofs.lemmas.List.{set-get_or, length-map, map-append}
use Rattle.std.proofs.lemmas.Option.{slice_get_read, get_or_from_slice_get, slice_get-map}
use Rattle.hg_join.specs.declared.state.JoinState.{Ghosts as StateWords}
use Rattle.hg_join.specs.declared.actor.Actor.{Ghosts as ActorWords}
use Rattle.std.specs.Option.{option_map}
use Rattle.std.specs.declared.vec.Vec.{Vec}
use Rattle.std.specs.declared.alloc.Global.{Global}
use Rattle.hg_world.specs.Runs.{Absorbs, bytes_of}

-- what an index reads is there
pub read_at : {X : Type 0} (xs : List X) (i : ℕ) (x : X) → i < length xs → x ≡ get_or xs i x → slice_get xs i ≡ Some x
read_at xs i x h e = slice_get_read xs (length xs) i x refl h e

-- an empty list has nothing at any place
pub none_there : {X : Type 0} (i : ℕ) (x : X) → slice_get [] i ≡ Some x → ⊥
none_there i x e = cc

-- what is at a place is one
pub one_at : {X : Type 0} (xs : List X) (i : ℕ) (x y : X) → slice_get xs i ≡ Some x → slice_get xs i ≡ Some y → x ≡ y
one_at xs i x y h k = cc

pub set_what_was : {X : Type 0} (xs : List X) (i : ℕ) (x y : X) → slice_get xs i ≡ Some x → y ≡ x →
    slice_set xs i y ≡ xs
set_what_was xs i x y h e = ap (slice_set xs i) (e ∙ sym (get_or_from_slice_get xs i x x h)) ∙ set-get_or xs i x

module _ {S P C F : Type 0} (J : StateWords S P C F) where
  pub absorbed_there : (nodes : List S) (at : ℕ) (node next : S) (part : P) (r : Result C F) →
      slice_get nodes at ≡ Some node →
      OnOk r (J.After (J.content node) (J.part_content part) (J.content next)) →
      IfOk r (λ change. J.Tells node part change next) →
      IfErr r (λ fault. J.IsFirstFault (J.content node) (J.part_content part) fault ⊎ J.IsWantOfMemory fault) →
      OnErr r (next ≡ node) →
      (x : S) × (slice_get nodes at ≡ Some x)
      × MatchResult r (λ change. (y : S) × Absorbs J x part change y × (slice_set nodes at next ≡ slice_set nodes at y))
      (λ fault. (J.IsFirstFault (J.content x) (J.part_content part) fault ⊎ J.IsWantOfMemory fault)
      × (slice_set nodes at next ≡ nodes))
  absorbed_there nodes at node next part (Ok change) there after tells fault same =
      (node, there, (next, record { after = after; tells = tells }, refl))
  absorbed_there nodes at node next part (Err e) there after tells fault same =
      (node, there, (fault, set_what_was nodes at node next there same))

-- what an answer tells where it is a value, and where it is a fault
pub told_ok : {A B : Type 0} (P : A → Type 0) (Q : B → Type 0) (r : Result A B) (x : A) → r ≡ Ok x →
    MatchResult r P Q → P x
told_ok P Q r x e h = subst (λ s. MatchResult s P Q) e h

pub told_err : {A B : Type 0} (P : A → Type 0) (Q : B → Type 0) (r : Result A B) (x : B) → r ≡ Err x →
    MatchResult r P Q → Q x
told_err P Q r x e h = subst (λ s. MatchResult s P Q) e h

module _ {S O A M R P C F : Type 0} (J : StateWords S P C F) (W : ActorWords S O A M R P C F) where
  pub taken_there : (nodes : List S) (at : ℕ) (node next : S) (bytes : List ℕ) (r : Result (Result C F) R) →
      slice_get nodes at ≡ Some node →
      IfOk r (λ answer. (part : P) × W.Spells bytes part × MatchResult answer
      (λ change. J.After (J.content node) (J.part_content part) (J.content next) × J.Tells node part change next)
      (λ fault. (J.IsFirstFault (J.content node) (J.part_content part) fault ⊎ J.IsWantOfMemory fault)
      × (next ≡ node))) →
      IfErr r (λ refusal. W.IsAgainstBytes bytes refusal ⊎ W.IsRefusalOfMemory refusal) →
      OnErr r (next ≡ node) →
      (x : S) × (slice_get nodes at ≡ Some x) × MatchResult r
      (λ answer. (part : P) × W.Spells bytes part × MatchResult answer
      (λ change. (y : S) × Absorbs J x part change y × (slice_set nodes at next ≡ slice_set nodes at y))
      (λ fault. (J.IsFirstFault (J.content x) (J.part_content part) fault ⊎ J.IsWantOfMemory fault)
      × (slice_set nodes at next ≡ nodes)))
      (λ refusal. (W.IsAgainstBytes bytes refusal ⊎ W.IsRefusalOfMemory refusal) × (slice_set nodes at next ≡ nodes))
  taken_there nodes at node next bytes (Ok (Ok change)) there taken err same =
      let h = taken.2 in
      (node, there, (taken.0, taken.1, (next, record { after = h.0; tells = h.1 }, refl)))
  taken_there nodes at node next bytes (Ok (Err fault)) there taken err same =
      let h = taken.2 in
      (node, there, (taken.0, taken.1, (h.0, set_what_was nodes at node next there h.1)))
  taken_there nodes at node next bytes (Err refusal) there taken err same =
      (node, there, (err, set_what_was nodes at node next there same))

-- a place within the list has an element
pub some_at : {X : Type 0} (xs : List X) (i : ℕ) → i < length xs → (x : X) × (slice_get xs i ≡ Some x)
some_at [] i h = absurd (omega arith)
some_at (x ∷ xs) zero h = (x, refl)
some_at (x ∷ xs) (suc i) h = some_at xs i (omega arith)

pub message_at : (messages : List (Vec ℕ Global)) (i : ℕ) (m : Vec ℕ Global) (bytes : List ℕ) → i < length messages →
    m ≡ get_or messages i m → bytes ≡ m.items → slice_get (bytes_of messages) i ≡ Some bytes
message_at messages i m bytes h read e =
    slice_get-map (λ (m : Vec ℕ Global). m.items) messages i ∙ ap (option_map (λ (m : Vec ℕ Global). m.items))
    (read_at messages i m h read) ∙ ap Some (sym e)

pub length_bytes : (v : Vec (Vec ℕ Global) Global) → vec_len v ≡ length (bytes_of v.items)
length_bytes v = v.ok.0 ∙ sym (length-map v.items (λ (m : Vec ℕ Global). m.items))

pub pushed : (v w : Vec (Vec ℕ Global) Global) (m : Vec ℕ Global) → w.items ≡ v.items ++ m ∷ [] →
    bytes_of w.items ≡ bytes_of v.items ++ m.items ∷ []
pushed v w m e = ap bytes_of e ∙ map-append (λ (m : Vec ℕ Global). m.items) v.items (m ∷ [])

pub get_set_same : {X : Type 0} (xs : List X) (i : ℕ) (x y : X) → slice_get xs i ≡ Some x →
    slice_get (slice_set xs i y) i ≡ Some y
get_set_same [] i x y h = cc
get_set_same (z ∷ xs) zero x y h = refl
get_set_same (z ∷ xs) (suc i) x y h = get_set_same xs i x y h

pub get_set_other : {X : Type 0} (xs : List X) (i j : ℕ) (y : X) → (i ≡ j → ⊥) →
    slice_get (slice_set xs i y) j ≡ slice_get xs j
get_set_other [] i j y ne = refl
get_set_other (z ∷ xs) zero zero y ne = absurd (ne refl)
get_set_other (z ∷ xs) zero (suc j) y ne = refl
get_set_other (z ∷ xs) (suc i) zero y ne = refl
get_set_other (z ∷ xs) (suc i) (suc j) y ne = get_set_other xs i j y (λ e. ne (ap suc e))

module _ {X Y : Type 0} (f : X → Y) where
  -- two lists that agree at each place still do, once the elements at one place are exchanged for others that agree
  pub exchanged_same : (xs ys us vs : List X) (i : ℕ) (x y next follow : X) →
      ((j : ℕ) (a b : X) → slice_get xs j ≡ Some a → slice_get ys j ≡ Some b → f a ≡ f b) →
      slice_get xs i ≡ Some x → slice_get ys i ≡ Some y → f next ≡ f follow → us ≡ slice_set xs i next →
      vs ≡ slice_set ys i follow →
      (j : ℕ) (a b : X) → slice_get us j ≡ Some a → slice_get vs j ≡ Some b → f a ≡ f b
  exchanged_same xs ys us vs i x y next follow agree at_x at_y same h k j a b at_a at_b =
      let in_a : slice_get (slice_set xs i next) j ≡ Some a = rw (← h) at_a in
      let in_b : slice_get (slice_set ys i follow) j ≡ Some b = rw (← k) at_b in
      elim (eqb_tells i j) [
        | inl t ↦
            let got_a : slice_get (slice_set xs i next) j ≡ Some next =
            subst (λ (n : ℕ). slice_get (slice_set xs i next) n ≡ Some next) t.1 (get_set_same xs i x next at_x) in
            let got_b : slice_get (slice_set ys i follow) j ≡ Some follow =
            subst (λ (n : ℕ). slice_get (slice_set ys i follow) n ≡ Some follow) t.1 (get_set_same ys i y follow at_y)
            in
            let same_a : next ≡ a = cc in
            let same_b : follow ≡ b = cc in
            sym (ap f same_a) ∙ same ∙ ap f same_b
        | inr ne ↦
            agree j a b (sym (get_set_other xs i j next ne.1) ∙ in_a) (sym (get_set_other ys i j follow ne.1) ∙ in_b)
      ]

  -- a list agrees with itself, once the element at one place is exchanged for another that agrees
  pub changed_same : (xs us : List X) (i : ℕ) (x next : X) → slice_get xs i ≡ Some x → f next ≡ f x →
      us ≡ slice_set xs i next →
      (j : ℕ) (a b : X) → slice_get us j ≡ Some a → slice_get xs j ≡ Some b → f a ≡ f b
  changed_same xs us i x next at_x same h =
      exchanged_same xs xs us xs i x x next x (λ j a b at_a at_b. ap f (one_at xs j a b at_a at_b)) at_x at_x same h
      (sym (set_what_was xs i x x at_x refl))
