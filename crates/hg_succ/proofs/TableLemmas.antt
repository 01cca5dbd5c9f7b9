-- What a table knows, and what it goes on to know.
use Rattle.std.proofs.Common.{◌≡◌, ◌≢◌, ℕ, ◌<◌, List, [], ◌∷◌, ◌++◌, length, slice_get, Contains, Option, Some, None}
use Rattle.std.proofs.Common.{◌↔◌, ◌⊎◌, set, length-set, inl, inr, refl, sym, ap, subst, ◌∙◌, arith, Vec, Global}
use Rattle.std.proofs.Common.{length-append}
use Rattle.std.specs.Option.{option_map, option_map_or}
use Rattle.std.specs.List.Sorted.{IsStrictlySortedBy}
use Rattle.std.specs.Cmp.Lexicographic.{slice_cmp, lists_total}
use Rattle.std.proofs.lemmas.List.{append-nil}
use Rattle.std.proofs.lemmas.Option.{none-some, same_Some}
use Rattle.hg_changeset.specs.declared.node.Node.{Node}
use Rattle.hg_changeset.specs.Node.{node_cmp}
use Rattle.hg_changeset.proofs.NodeLemmas.{node_cmp_total}
use Rattle.hg_changeset.proofs.ListLemmas.{slice_get_some, slice_get-append, slice_get-append_seam, Contains-none}
use Rattle.hg_changeset.proofs.ListLemmas.{Contains-first, Contains-later, Contains-one}
use Rattle.hg_replica.specs.Content.{Content}
use Rattle.hg_succ.specs.declared.families.Solved.{Solved}
use Rattle.hg_succ.specs.declared.families.Solved.TheVariants.{Family, Counted, Overfull}
use Rattle.hg_succ.specs.declared.families.Table.{Table}
use Rattle.hg_succ.specs.Successors.{IsFamily, IsOverfull, HasSeveral}
use Rattle.hg_succ.specs.Answer.{sets_of}
use Rattle.hg_succ.specs.Cover.{Known, IsSolved, IsRight, IsPlaced, IsTable, IsSeveral, HasEntry, Keeps, PutsLast}
use Rattle.hg_succ.specs.Cover.{Solves, AddsAnswer, IsNotCounted, known_by, sets_at, answer, entry}
use Rattle.hg_succ.specs.Cover.Known.{are_sets, counted, overfull}
use Rattle.hg_succ.specs.Rows.{At}
use Rattle.hg_succ.specs.Numbered.{AreOnce}
use Rattle.hg_succ.proofs.ListLemmas.{get_one}
use Rattle.hg_succ.proofs.LookupLemmas.{look, look_after, look_written}
use Rattle.hg_succ.proofs.SortedLemmas.{below_rest, not_below_itself}
use Rattle.hg_succ.proofs.FamilyLemmas.{family_from_cover}

abbrev pub Families : Type 0
Families = List (Vec (Vec Node Global) Global)

known_solved : (f : Content) (n : Node) (families : Families) (o : Option Solved) (k : Known)
    → ((e : Solved) → o ≡ Some e → IsRight f n families e) → option_map (known_by families) o ≡ Some k → IsSolved f n k
known_solved f n families None k right is = absurd (none-some k is)
known_solved f n families (Some e) k right is = subst (IsSolved f n) (same_Some (known_by families e) k is)
    (right e refl).1

pub entry_solved : (f : Content) (t : Table) → IsTable f t → (n : Node) (k : Known) → entry t n ≡ Some k
    → IsSolved f n k
entry_solved f t so n k is = known_solved f n t.families.items (answer t n) k (so.right n) is

pub entry_known : (t : Table) (n : Node) → HasEntry t n → (k : Known) × (entry t n ≡ Some k)
entry_known t n h = (known_by t.families.items h.0, ap (option_map (known_by t.families.items)) h.1)

-- families that are put last leave the others where they are
sets_at-append : (families more : Families) (place : ℕ) → place < length families
    → sets_at (families ++ more) place ≡ sets_at families place
sets_at-append families more place l =
    let at = slice_get_some families place l in
    ap (λ o. option_map_or (λ (family : Vec (Vec Node Global) Global). sets_of family.items) o [])
    (slice_get-append families more place at.0 at.1 ∙ sym at.1)

known-append : (families more : Families) (e : Solved) → IsPlaced families e
    → known_by (families ++ more) e ≡ known_by families e
known-append families more (Family place) l = ap are_sets (sets_at-append families more place l)
known-append families more (Counted count) l = refl
known-append families more Overfull l = refl

placed-append : (families more : Families) (e : Solved) → IsPlaced families e → IsPlaced (families ++ more) e
placed-append families more (Family place) l = omega (arith, l, length-append families more)
placed-append families more (Counted count) l = tt
placed-append families more Overfull l = tt

pub right-append : (f : Content) (n : Node) (families more : Families) (e : Solved) → IsRight f n families e
    → IsRight f n (families ++ more) e
right-append f n families more e right =
    (placed-append families more e right.0, subst (IsSolved f n) (sym (known-append families more e right.0)) right.1)

-- a table whose answers stay, and whose families are put last, stays right
pub kept_right : (f : Content) (old new : Table) → Keeps old new → IsTable f old → (n : Node) (e : Solved)
    → answer old n ≡ Some e → IsRight f n new.families.items e
kept_right f old new keeps so n e is = subst (λ (fs : Families). IsRight f n fs e) (sym keeps.families.1)
    (right-append f n old.families.items keeps.families.0 e (so.right n e is))

-- a family that is put last is found there
pub right_last : (f : Content) (n : Node) (old new : Families) (family : Vec (Vec Node Global) Global)
    → new ≡ old ++ family ∷ [] → IsSolved f n (are_sets (sets_of family.items)) → IsRight f n new (Family (length old))
right_last f n old new family is solved =
    let there : slice_get new (length old) ≡ Some family = ap (λ (fs : Families). slice_get fs (length old)) is
    ∙ slice_get-append_seam old family [] in
    let told : sets_at new (length old) ≡ sets_of family.items =
    ap (λ o. option_map_or (λ (v : Vec (Vec Node Global) Global). sets_of v.items) o []) there in (
      omega (arith, ap length is, length-append old (family ∷ [])),
      subst (λ (sets : List (List Node)). IsSolved f n (are_sets sets)) (sym told) solved,
    )

-- an answer that needs no new family
pub solves_same : (f : Content) (n : Node) (t : Table) (e : Solved) → IsRight f n t.families.items e → Solves f n t t e
solves_same f n t e right =
    record {
      right = right;
      keeps =
          record { nodes = refl; answers = refl; families = ([], sym (append-nil t.families.items)) };
    }

pub solves_last : (f : Content) (n : Node) (old new : Table) (family : Vec (Vec Node Global) Global) (e : Solved)
    → IsSolved f n (are_sets (sets_of family.items)) → PutsLast family old new e → Solves f n old new e
solves_last f n old new family e solved put = record {
  right = subst (IsRight f n new.families.items) (sym put.place)
      (right_last f n old.families.items new.families.items family put.families solved);
  keeps = record { nodes = put.nodes; answers = put.answers; families = (family ∷ [], put.families) };
}

-- a family that is put last isn't only counted
pub last_kept : (old new : Table) (family : Vec (Vec Node Global) Global) (e : Solved) → PutsLast family old new e
    → (count : ℕ) → ¬ (e ≡ Counted count)
last_kept old new family e put count is =
    (let g : Family (length old.families.items) ≡ Counted count = sym put.place ∙ is in cc)

-- ---- one node more

module _ (f : Content) (old mid new : Table) (number : ℕ) (node : Node) (solved : Solved) (so : IsTable f old)
    (at : At old.nodes.keys number node) (solves : Solves f node old mid solved)
    (nodes : new.nodes.keys ≡ mid.nodes.keys)
    (answers : new.answers.items ≡ set mid.answers.items number (Some solved))
    (families : new.families.items ≡ mid.families.items) where
  now : new.nodes.keys ≡ old.nodes.keys
  now = nodes ∙ solves.keeps.nodes

  all_answers : new.answers.items ≡ set old.answers.items number (Some solved)
  all_answers = answers ∙ ap (λ (os : List (Option Solved)). set os number (Some solved)) solves.keeps.answers

  answer_now : (n : Node) → answer new n ≡ look old.nodes.keys (set old.answers.items number (Some solved)) n
  answer_now n = λ i. look (now i) (all_answers i) n

  -- each answer is the new one, or an old one
  either : (n : Node) → (node ≡ n) ⊎ (answer new n ≡ answer old n)
  either n = elim (look_after old.nodes.keys so.once old.answers.items so.long number node at (Some solved) n)
      [ inl same ↦ inl same | inr other ↦ inr (answer_now n ∙ other) ]

  here : answer new node ≡ Some solved
  here = answer_now node ∙ look_written old.nodes.keys so.once old.answers.items so.long number node at (Some solved)

  now_right : (n : Node) (e : Solved) → answer new n ≡ Some e → IsRight f n new.families.items e
  now_right n e is = subst (λ (fs : Families). IsRight f n fs e) (sym families) (elim (either n) [
    | inl same ↦
        let told : solved ≡ e = same_Some solved e (sym here ∙ ap (answer new) same ∙ is) in
        subst (λ m. IsRight f m mid.families.items e) same (subst (IsRight f node mid.families.items) told solves.right)
    | inr other ↦ kept_right f old mid solves.keeps so n e (sym other ∙ is)
  ])

  now_kept : (n : Node) → HasEntry old n → HasEntry new n
  now_kept n h = elim (either n) [
    | inl same ↦ (solved, ap (answer new) (sym same) ∙ here)
    | inr other ↦ (h.0, other ∙ h.1)
  ]

  -- what isn't only counted stays so
  pub adds_kept : (P : Node → Type 0) → (P node → (count : ℕ) → ¬ (solved ≡ Counted count))
      → ((n : Node) → P n → IsNotCounted old n) → (n : Node) → P n → IsNotCounted new n
  adds_kept P now' before n p count is = elim (either n) [
    | inl same ↦ now' (subst P (sym same) p) count (same_Some solved (Counted count)
        (sym here ∙ ap (answer new) same ∙ is))
    | inr other ↦ before n p count (sym other ∙ is)
  ]

  pub adds_answer : AddsAnswer f number old new
  adds_answer = record {
    table = record {
      once = subst AreOnce (sym now) so.once;
      long = ap length all_answers ∙ length-set {A = Option Solved} old.answers.items number (Some solved)
          ∙ so.long ∙ ap length (sym now);
      right = now_right;
    };
    nodes = now;
    done = λ n n_at.
        let same : node ≡ n = get_one old.nodes.keys number node n at
        (subst (λ (ns : List Node). At ns number n) now n_at) in
        (solved, ap (answer new) (sym same) ∙ here);
    kept = now_kept;
  }

-- ---- several sets

two_members : (xs : List (List Node)) (a b : List Node) → Contains xs a → Contains xs b → a ≢ b → 1 < length xs
two_members [] a b h g ne = absurd (Contains-none a h)
two_members (x ∷ []) a b h g ne = absurd (ne (sym (Contains-one x a h) ∙ Contains-one x b g))
two_members (x ∷ y ∷ xs) a b h g ne = omega arith

first_two : (xs : List (List Node)) → IsStrictlySortedBy (slice_cmp node_cmp) xs → 1 < length xs
    → (a b : List Node) × Contains xs a × Contains xs b × (a ≢ b)
first_two [] up l = absurd (omega (arith, l))
first_two (x ∷ []) up l = absurd (omega (arith, l))
first_two (x ∷ y ∷ xs) up l = (
  x,
  y,
  Contains-first x (y ∷ xs),
  Contains-later x (y ∷ xs) y (Contains-first y xs),
  λ e. not_below_itself (lists_total node_cmp_total) x
      (below_rest (lists_total node_cmp_total) x (y ∷ xs) x up
      (subst (Contains (y ∷ xs)) (sym e) (Contains-first y xs))),
)

family_several : (f : Content) (n : Node) (family : List (List Node)) → IsFamily f n family → ¬ (IsOverfull f n)
    → (1 < length family) ↔ HasSeveral f n
family_several f n family is fine = (
  λ l. let two = first_two family is.ascending l in
      inr (two.0, two.1, (is.exact two.0).0 two.2, (is.exact two.1).0 two.3, two.4),
  λ h. elim h [
    | inl over ↦ absurd (fine over)
    | inr two ↦ two_members family two.0 two.1 ((is.exact two.0).1 two.2) ((is.exact two.1).1 two.3) two.4
  ],
)

pub known_several : (f : Content) (n : Node) (k : Known) → IsSolved f n k → IsSeveral (Some k) ↔ HasSeveral f n
known_several f n (are_sets family) so = family_several f n family (family_from_cover f n family so.0) so.1
known_several f n (counted count) so =
    let several = family_several f n so.0.0 (family_from_cover f n so.0.0 so.0.1) so.1 in
    (λ l. several.0 (subst (λ k. 1 < k) (sym so.0.2) l), λ h. subst (λ k. 1 < k) so.0.2 (several.1 h))
known_several f n overfull so = (λ h. inl so, λ h. tt)
