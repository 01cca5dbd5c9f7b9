-- Names after one of them is bound, and names that are all different.
use Rattle.std.proofs.Common.{◌≡◌, ◌↔◌, IsTrue, Ordering, nat_eq, ℕ, List, [], ◌∷◌, Bool, true, false, ◌<◌}
use Rattle.std.proofs.Common.{length, Option, Some, refl, sym, subst, ◌∙◌, arith}
use Rattle.std.specs.declared.vec.Vec.{Vec}
use Rattle.std.specs.declared.alloc.Global.{Global}
use Rattle.std.specs.BTreeMap.{BTreeMap, UpdatesBy}
use Rattle.std.specs.HashMap as hash
use Rattle.std.specs.BTreeSet.{BTreeSet, IsFromIterResult, btree_set_len}
use Rattle.std.specs.Cmp.{IsTotalOrder, on_total}
use Rattle.std.specs.Cmp.Lexicographic.{slice_cmp}
use Rattle.std.specs.List.{IsDistinct}
use Rattle.std.specs.Map.{KeepsOthers, lookup, update}
use Rattle.std.specs.Ordering.{is_eq, nat_cmp, eq_by_cmp}
use Rattle.std.specs.Str.{bytes_eq}
use Rattle.std.proofs.lemmas.Bool.{cases_Bool, cond-true, cond-false, eqb-true, eq-eqb}
use Rattle.std.proofs.lemmas.Cmp.{eq_by_cmp_equiv, nat_list_cmp_total, nat_list_eq_equiv}
use Rattle.std.proofs.lemmas.Map.Made.{IsDistinct-from_count, distinct_count-from_IsDistinct}
use Rattle.std.proofs.lemmas.Map.Text.{is_eq-slice_cmp}
use Rattle.std.proofs.lemmas.Map.Views.{btree_set_len-from_list}
use Rattle.std.proofs.lemmas.Slice.Eq.{bytes_eq-Decides}
use denote.Bor.{Bor}
use mathlib.Core.Logic.{⊎_elim}
use Rattle.indexmap.specs.IndexMap.{IndexMap}
use Rattle.hg_changeset.specs.declared.node.Node.{Node}
use Rattle.hg_node_set.specs.declared.keys.IdKeys.{IdKeys}
use Rattle.hg_names.specs.Labels.{BindsNode, text_value}
use Rattle.hg_names.specs.Names.{AreDistinct, value_of}

unequal_by : (r : Bool) (xs ys : List ℕ) → bytes_eq xs ys ≡ false → bytes_eq ys xs ≡ r → bytes_eq ys xs ≡ false
unequal_by true xs ys d e = e ∙ sym ((bytes_eq-Decides xs ys).1 (sym ((bytes_eq-Decides ys xs).0 e))) ∙ d
unequal_by false xs ys d e = e

-- which of two texts comes first makes no difference
pub unequal : (xs ys : List ℕ) → bytes_eq xs ys ≡ false → bytes_eq ys xs ≡ false
unequal xs ys d = unequal_by (bytes_eq ys xs) xs ys d refl

-- a text that isn't bs is equal to no key that bs is equal to
apart : (bs cs ks : List ℕ) → bytes_eq bs cs ≡ false → bytes_eq bs ks ≡ true → bytes_eq cs ks ≡ false
apart bs cs ks differ same =
    subst (λ l. bytes_eq cs l ≡ false) ((bytes_eq-Decides bs ks).0 same) (unequal bs cs differ)

-- the order calls texts equal where their bytes are
by_order : (λ (xs ys : List ℕ). is_eq (slice_cmp nat_cmp xs ys)) ≡ bytes_eq
by_order = λ i xs ys. is_eq-slice_cmp xs ys i

-- entries whose keys have texts, before and after a change at the text bs
module _ {K X : Type 0} (text : K → List ℕ) (bs : List ℕ) (old new : List (K × X)) (w : Option X) where
  -- what the texts stand for, where keys are compared by e
  abbrev Changes : (List ℕ → List ℕ → Bool) → Type 0
  Changes e = KeepsOthers (λ x y. e (text x) (text y)) (λ k. e bs (text k)) old new
      → lookup (λ k. e bs (text k)) new ≡ w → (cs : List ℕ)
      → lookup (λ k. e cs (text k)) new ≡ update bytes_eq (λ ds. lookup (λ k. e ds (text k)) old) bs w cs

  by_bytes : Changes bytes_eq
  unfolding KeepsOthers
  by_bytes keeps here cs = ⊎_elim
      (λ y. subst (λ l. lookup (λ k. bytes_eq l (text k)) new ≡ w) ((bytes_eq-Decides bs cs).0 y) here
      ∙ sym (cond-true (bytes_eq bs cs) w (lookup (λ k. bytes_eq cs (text k)) old) y))
      (λ d. keeps (λ k. bytes_eq cs (text k)) (λ x y. nat_list_eq_equiv.congr cs (text x) (text y))
      (λ k. apart bs cs (text k) d)
      ∙ sym (cond-false (bytes_eq bs cs) w (lookup (λ k. bytes_eq cs (text k)) old) d))
      (cases_Bool (bytes_eq bs cs))

  pub lookup-changed : (e : List ℕ → List ℕ → Bool) → e ≡ bytes_eq → Changes e
  lookup-changed e same = subst Changes (sym same) by_bytes

-- what a name stands for after one of them was bound
pub value_of-bound : {V : Type 0} (bs : List ℕ) (m n : BTreeMap (Vec ℕ Global) V) (w : Option V)
    → UpdatesBy (λ (x y : Vec ℕ Global). slice_cmp nat_cmp x.items y.items) (λ k. slice_cmp nat_cmp bs k.items) m n w
    → (cs : List ℕ) → value_of n cs ≡ update bytes_eq (value_of m) bs w cs
value_of-bound bs m n w h =
    lookup-changed (λ (k : Vec ℕ Global). k.items) bs m.entries n.entries w
    (λ xs ys. is_eq (slice_cmp nat_cmp xs ys)) by_order h.3 h.1

-- what a text stands for after one of them was bound
pub text_value-bound : (bs : List ℕ) (m n : IndexMap (Vec ℕ Global) Node IdKeys) (node : Node)
    → hash.UpdatesBy (λ (x y : Vec ℕ Global). bytes_eq x.items y.items) (λ k. bytes_eq bs k.items) m n (Some node)
    → BindsNode (text_value m) bs node (text_value n)
text_value-bound bs m n node h =
    lookup-changed (λ (k : Vec ℕ Global). k.items) bs m.entries n.entries (Some node) bytes_eq refl h.3 h.1

-- ---- names of a line that are all different

abbrev by_text : Bor (List ℕ) → Bor (List ℕ) → Ordering
by_text v w = slice_cmp nat_cmp v.now w.now

by_text_total : IsTotalOrder by_text
by_text_total = on_total (λ (w : Bor (List ℕ)). w.now) nat_list_cmp_total

-- the order calls names equal where their texts are
same_texts : eq_by_cmp by_text ≡ (λ v w. bytes_eq v.now w.now)
same_texts = λ i v w. by_order i v.now w.now

-- fewer than two names are distinct
pub few_are_distinct : (names : List (Bor (List ℕ))) → length names < 2 → IsTrue true ↔ AreDistinct names
unfolding IsDistinct
few_are_distinct [] l = (λ t. tt, λ d. refl)
few_are_distinct (v ∷ []) l = (λ t. (tt, tt), λ d. refl)
few_are_distinct (v ∷ w ∷ names) l = absurd (omega arith)

-- names are distinct exactly if a set of them has as many
pub distinct_by_count : (names all : List (Bor (List ℕ))) (n : ℕ) (set : BTreeSet (Bor (List ℕ))) → all ≡ names
    → IsFromIterResult by_text all set → n ≡ btree_set_len set → IsTrue (nat_eq n (length names)) ↔ AreDistinct names
distinct_by_count names all n set same made e =
    let count = e
    ∙ btree_set_len-from_list by_text_total names set
    (subst (λ (xs : List (Bor (List ℕ))). IsFromIterResult by_text xs set) same made) in
    let laws = eq_by_cmp_equiv by_text_total in (
      λ t. subst (λ (eq : Bor (List ℕ) → Bor (List ℕ) → Bool). IsDistinct eq names) same_texts
          (IsDistinct-from_count laws names (sym count ∙ eqb-true _ _ t)),
      λ d. eq-eqb _ _
          (count ∙ distinct_count-from_IsDistinct laws names
          (subst (λ (eq : Bor (List ℕ) → Bor (List ℕ) → Bool). IsDistinct eq names) (sym same_texts) d)),
    )
