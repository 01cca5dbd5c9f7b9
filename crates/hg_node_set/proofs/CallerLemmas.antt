-- What a caller cites of the ids of a set after one is inserted.
use Rattle.std.proofs.Common.{◌≡◌, ◌||◌, ◌+◌, ℕ, suc, Bool, true, false, if◌then◌else◌, List, [], ◌∷◌, ◌++◌}
use Rattle.std.proofs.Common.{slice_get, Some, Contains, ◌⊎◌, inl, refl, sym, ap, ◌∙◌, true≢false, arith}
use Rattle.std.specs.List.{list_any}
use Rattle.std.proofs.lemmas.List.{append-nil}
use Rattle.std.proofs.lemmas.List.Elements.{Contains-append_left, Contains-push, Contains-push_cases}
use Rattle.std.proofs.lemmas.Map.Views.{Contains-from_any}
use Rattle.hg_changeset.specs.declared.node.Node.{Node}
use Rattle.hg_changeset.specs.Node.{node_eq}
use Rattle.hg_changeset.proofs.NodeLemmas.{same_node}
use Rattle.hg_node_set.specs.Keys.{insert_key, number_after}

module _ (keys : List Node) (k : Node) where
  -- the ids before come first, and then perhaps a new one
  pub insert_key-grows : (more : List Node) × (insert_key keys k ≡ keys ++ more)
  insert_key-grows = by (list_any (node_eq k) keys)
    where
      by : (b : Bool) → (more : List Node) × ((if b then keys else keys ++ k ∷ []) ≡ keys ++ more)
      by true = ([], sym (append-nil keys))
      by false = (k ∷ [], refl)

  -- the id is there
  pub Contains-insert_key : Contains (insert_key keys k) k
  Contains-insert_key = by (list_any (node_eq k) keys) refl
    where
      by : (b : Bool) → list_any (node_eq k) keys ≡ b → Contains (if b then keys else keys ++ k ∷ []) k
      by true e = Contains-from_any same_node k keys e
      by false e = Contains-push keys k

  -- so are the ids before
  pub Contains-insert_key_kept : (n : Node) → Contains keys n → Contains (insert_key keys k) n
  Contains-insert_key_kept n h = by (list_any (node_eq k) keys)
    where
      by : (b : Bool) → Contains (if b then keys else keys ++ k ∷ []) n
      by true = h
      by false = Contains-append_left keys (k ∷ []) n h

  -- and no others are
  pub Contains-insert_key_cases : (n : Node) → Contains (insert_key keys k) n → Contains keys n ⊎ (k ≡ n)
  Contains-insert_key_cases n h = by (list_any (node_eq k) keys) h
    where
      by : (b : Bool) → Contains (if b then keys else keys ++ k ∷ []) n → Contains keys n ⊎ (k ≡ n)
      by true h = inl h
      by false h = Contains-push_cases keys k n h

one_later : (x n : Node) (xs : List Node) (i : ℕ) → slice_get xs i ≡ Some n → slice_get (x ∷ xs) (1 + i) ≡ Some n
one_later x n xs i h =
    let later : 1 + i ≡ suc i = omega arith in
    ap (slice_get (x ∷ xs)) later ∙ h

-- the id stands at its number
pub slice_get-insert_key : (keys : List Node) (k : Node) → slice_get (insert_key keys k) (number_after keys k) ≡ Some k
slice_get-insert_key keys k = by keys (list_any (node_eq k) keys) refl
  where
    by : (xs : List Node) (b : Bool) → list_any (node_eq k) xs ≡ b
        → slice_get (if b then xs else xs ++ k ∷ []) (number_after xs k) ≡ Some k
    by [] true e = absurd (true≢false (sym e))
    by [] false e = refl
    by (x ∷ xs) b e = at (node_eq k x) refl (by xs) b e
      where
        at : (c : Bool) → node_eq k x ≡ c
            → ((b : Bool) → list_any (node_eq k) xs ≡ b
            → slice_get (if b then xs else xs ++ k ∷ []) (number_after xs k) ≡ Some k)
            → (b : Bool) → c || list_any (node_eq k) xs ≡ b
            → slice_get (if b then (x ∷ xs) else (x ∷ xs) ++ k ∷ []) (number_after (x ∷ xs) k) ≡ Some k
        at true e rest true h = rw e (ap Some (sym (same_node k x e)))
        at true e rest false h = absurd (true≢false h)
        at false e rest true h = rw e (one_later x k xs (number_after xs k) (rest true h))
        at false e rest false h = rw e (one_later x k (xs ++ k ∷ []) (number_after xs k) (rest false h))
