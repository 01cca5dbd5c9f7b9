-- What waits to be published is the rest of the journal, also with one entry more.
use Rattle.std.proofs.Common.{◌≡◌, ◌∙◌, List, [], ◌∷◌, ◌++◌, map, sym, ap, append_assoc}
use Rattle.std.proofs.lemmas.List.{append-nil, map-append}

-- What is held and what waits, as values with an entry each. One value x comes behind what waits, in the room that was
-- made there, and some of all this moves to what is held.
module _ {A B : Type 0} (f : A → B) (held waiting room grown moved left : List A) (x : A) (b : B)
    (stays : moved ++ left ≡ held ++ grown) (grows : grown ≡ room ++ x ∷ []) (same : room ≡ waiting)
    (entry : f x ≡ b) where
  -- the entry waits behind the others
  pub waits_behind : map f moved ++ map f left ≡ (map f held ++ map f waiting) ++ b ∷ []
  waits_behind =
      sym (map-append f moved left)
      ∙ (ap (map f) (stays ∙ ap (λ (l : List A). held ++ l) (grows ∙ ap (λ (l : List A). l ++ x ∷ []) same))
      ∙ (map-append f held (waiting ++ x ∷ [])
      ∙ (ap (λ (l : List B). map f held ++ l)
      (map-append f waiting (x ∷ []) ∙ ap (λ (y : B). map f waiting ++ y ∷ []) entry)
      ∙ sym (append_assoc (map f held) (map f waiting) (b ∷ [])))))

  -- it ends the rest of the journal, where the journal ends with it and what is shown stays
  pub rest_behind : (journal after shown now : List B) → journal ≡ shown ++ (map f held ++ map f waiting) →
      after ≡ journal ++ b ∷ [] → now ≡ shown → after ≡ now ++ (map f moved ++ map f left)
  rest_behind journal after shown now rest ends stays_shown =
      ends
      ∙ (ap (λ (l : List B). l ++ b ∷ []) rest
      ∙ (append_assoc shown (map f held ++ map f waiting) (b ∷ [])
      ∙ (ap (λ (l : List B). shown ++ l) (sym waits_behind)
      ∙ ap (λ (l : List B). l ++ (map f moved ++ map f left)) (sym stays_shown))))

-- nothing waits where all is shown, and so it is the rest of the journal
pub none_behind : {A B : Type 0} (f : A → B) (held waiting : List A) (journal shown : List B) → shown ≡ journal →
    (held ≡ []) × (waiting ≡ []) → journal ≡ shown ++ (map f held ++ map f waiting)
none_behind {A = A} {B = B} f held waiting journal shown all none =
    sym all
    ∙ (sym (append-nil shown)
    ∙ ap (λ (l : List B). shown ++ l)
    (sym (ap (λ (l : List A). map f l ++ map f waiting) none.0 ∙ ap (map f) none.1)))
