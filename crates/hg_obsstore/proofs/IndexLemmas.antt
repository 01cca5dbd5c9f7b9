-- Indexes after a change at one node, and after one at each of some nodes.
use Rattle.std.proofs.Common.{◌≡◌, ◌≢◌, ◌+◌, ◌⊎◌, ◌++◌, ◌∷◌, [], ◌∙◌, sym, ap, ℕ, List, true, false, refl}
use Rattle.std.proofs.Common.{subst, inl, inr, ⊎_elim, length, take, drop, get_or, ◌<◌, Contains}
use Rattle.std.proofs.lemmas.Bool.{cases_Bool, false≢true}
use Rattle.std.proofs.lemmas.List.{take_more, take-append-drop}
use Rattle.std.proofs.lemmas.List.Elements.{Contains-push, Contains-push_cases, Contains-append_left}
use Rattle.std.specs.List.{list_any}
use Rattle.std.proofs.lemmas.Map.Views.{Contains-from_any, list_any-from_Contains}
use Rattle.hg_changeset.proofs.NodeLemmas.{same_node, node_eq_laws, node_cases}
use Rattle.hg_changeset.specs.declared.node.Node.{Node}
use Rattle.hg_changeset.specs.Node.{node_eq}
use Rattle.hg_obsstore.specs.declared.index.Role.{Role}
use Rattle.hg_obsstore.specs.declared.index.Role.TheVariants.{Predecessor, Successor, Parent}
use Rattle.hg_obsstore.specs.Index.{AreBelow, AddsPlace, MayAddPlace}
use Rattle.hg_obsstore.specs.Index.{with_last, without_last}
use Rattle.hg_obsstore.proofs.PlaceLemmas.{with_last_below, with_last_again, without_last_below, without_last_pushed}

pub among_or_not : (ns : List Node) (n : Node) → Contains ns n ⊎ ¬ Contains ns n
among_or_not ns n = ⊎_elim (λ (t : list_any (node_eq n) ns ≡ true). inl (Contains-from_any same_node n ns t))
    (λ (f : list_any (node_eq n) ns ≡ false). inr
    (λ h. false≢true (sym f ∙ list_any-from_Contains node_eq_laws n ns h))) (cases_Bool (list_any (node_eq n) ns))

-- what is so of each role
pub each_role : (P : Role → Type 0) → P Predecessor → P Successor → P Parent → (role : Role) → P role
each_role P predecessor successor parent Predecessor = predecessor
each_role P predecessor successor parent Successor = successor
each_role P predecessor successor parent Parent = parent

-- the roles differ
pub successor-predecessor : Successor ≢ Predecessor
successor-predecessor e = absurd cc

pub predecessor-successor : Predecessor ≢ Successor
predecessor-successor e = absurd cc

pub predecessor-parent : Predecessor ≢ Parent
predecessor-parent e = absurd cc

pub successor-parent : Successor ≢ Parent
successor-parent e = absurd cc

pub parent-predecessor : Parent ≢ Predecessor
parent-predecessor e = absurd cc

pub parent-successor : Parent ≢ Successor
parent-successor e = absurd cc

abbrev Lists : Type 0
Lists = Node → List ℕ

pub pointwise : (f g : Lists) → ((n : Node) → f n ≡ g n) → f ≡ g
pointwise f g e i n = e n i

-- a relation of lists before and after, carried over to equal lists
pub carried : (R : List Node → Lists → Lists → Type 0) (ns ps : List Node) (old before new after : Lists) → ns ≡ ps
    → old ≡ before → new ≡ after → R ns old new → R ps before after
carried R ns ps old before new after e f g h =
    subst (λ xs. R xs before after) e (subst (λ o. R ns o after) f (subst (R ns old) g h))

pub unchanged : (ns : List Node) (place : ℕ) (old new : Lists) → new ≡ old → MayAddPlace ns place old new
unchanged ns place old new e n = inl (ap (λ (f : Lists). f n) e)

-- one node more
pub adds_more : (ns : List Node) (node : Node) (place : ℕ) (old mid new : Lists) → AreBelow old place
    → AddsPlace ns place old mid
    → new node ≡ with_last (mid node) place → ((n : Node) → n ≢ node → new n ≡ mid n)
    → AddsPlace (ns ++ node ∷ []) place old new
adds_more ns node place old mid new below adds here others =
    let now : new node ≡ old node ++ place ∷ [] = ⊎_elim
    (λ (yes : Contains ns node). here ∙ ap (λ ps. with_last ps place) (adds.here node yes)
    ∙ with_last_again (old node) place)
    (λ (no : ¬ Contains ns node). here ∙ ap (λ ps. with_last ps place) (adds.others node no)
    ∙ with_last_below (old node) place (below node))
    (among_or_not ns node) in
    record {
      here = λ n h. ⊎_elim
          (λ (same : n ≡ node). rw same now)
          (λ (other : n ≢ node). others n other
          ∙ adds.here n
          (⊎_elim (λ (before : Contains ns n). before) (λ (e : node ≡ n). absurd (other (sym e)))
          (Contains-push_cases ns node n h)))
          (node_cases n node);
      others = λ n no. ⊎_elim
          (λ (same : n ≡ node). absurd (no (subst (Contains (ns ++ node ∷ [])) (sym same) (Contains-push ns node))))
          (λ (other : n ≢ node). others n other ∙ adds.others n (λ h. no (Contains-append_left ns (node ∷ []) n h)))
          (node_cases n node);
    }

pub may_add : (ns all : List Node) (place : ℕ) (old mid new : Lists) → ((n : Node) → Contains ns n → Contains all n)
    → AddsPlace ns place old mid → ((n : Node) → new n ≡ mid n) → MayAddPlace all place old new
may_add ns all place old mid new within adds same n = ⊎_elim
    (λ (yes : Contains ns n). inr (within n yes, same n ∙ adds.here n yes))
    (λ (no : ¬ Contains ns n). inl (same n ∙ adds.others n no))
    (among_or_not ns n)

-- after the first nodes, none of them has the place
pub record TakesFrom (ns : List Node) (before now : Lists) (place : ℕ) (all : List Node) : Type 0 where
  pub done : (n : Node) → Contains ns n → now n ≡ before n
  pub may : MayAddPlace all place before now

pub takes_more : (ns all : List Node) (node : Node) (place : ℕ) (before mid new : Lists) → AreBelow before place
    → TakesFrom ns before mid place all
    → new node ≡ without_last (mid node) place → ((n : Node) → n ≢ node → new n ≡ mid n)
    → TakesFrom (ns ++ node ∷ []) before new place all
takes_more ns all node place before mid new below takes here others =
    let now : new node ≡ before node = ⊎_elim
    (λ (same : mid node ≡ before node). here ∙ ap (λ ps. without_last ps place) same
    ∙ without_last_below (before node) place (below node))
    (λ (more : Contains all node × (mid node ≡ before node ++ place ∷ [])). here
    ∙ ap (λ ps. without_last ps place) more.1 ∙ without_last_pushed (before node) place)
    (takes.may node) in
    record {
      done = λ n h. ⊎_elim
          (λ (same : n ≡ node). rw same now)
          (λ (other : n ≢ node). others n other
          ∙ takes.done n
          (⊎_elim (λ (b : Contains ns n). b) (λ (e : node ≡ n). absurd (other (sym e)))
          (Contains-push_cases ns node n h)))
          (node_cases n node);
      may = λ n. ⊎_elim
          (λ (same : n ≡ node). inl (rw same now))
          (λ (other : n ≢ node). ⊎_elim (λ (s : mid n ≡ before n). inl (others n other ∙ s))
          (λ (m : Contains all n × (mid n ≡ before n ++ place ∷ [])). inr (m.0, others n other ∙ m.1))
          (takes.may n))
          (node_cases n node);
    }

pub take_one_more : (ns : List Node) (k : ℕ) (node : Node) → k < length ns → node ≡ get_or ns k node
    → take (k + 1) ns ≡ take k ns ++ node ∷ []
take_one_more ns k node within read = take_more ns k node within ∙ ap (λ x. take k ns ++ x ∷ []) (sym read)

pub Contains-take : {A : Type 0} (xs : List A) (k : ℕ) (x : A) → Contains (take k xs) x → Contains xs x
Contains-take xs k x h =
    subst (λ ys. Contains ys x) (take-append-drop k xs) (Contains-append_left (take k xs) (drop k xs) x h)

pub adds_all : (ns : List Node) (k : ℕ) (node : Node) (place : ℕ) (old mid new : Lists) → k < length ns
    → node ≡ get_or ns k node → AreBelow old place → AddsPlace (take k ns) place old mid
    → new node ≡ with_last (mid node) place → ((n : Node) → n ≢ node → new n ≡ mid n)
    → AddsPlace (take (k + 1) ns) place old new
adds_all ns k node place old mid new within read below adds here others =
    subst (λ ms. AddsPlace ms place old new) (sym (take_one_more ns k node within read))
    (adds_more (take k ns) node place old mid new below adds here others)

pub takes_all : (ns : List Node) (k : ℕ) (node : Node) (place : ℕ) (before mid new : Lists) → k < length ns
    → node ≡ get_or ns k node → AreBelow before place → TakesFrom (take k ns) before mid place ns
    → new node ≡ without_last (mid node) place → ((n : Node) → n ≢ node → new n ≡ mid n)
    → TakesFrom (take (k + 1) ns) before new place ns
takes_all ns k node place before mid new within read below takes here others =
    subst (λ ms. TakesFrom ms before new place ns) (sym (take_one_more ns k node within read))
    (takes_more (take k ns) ns node place before mid new below takes here others)

pub adds_may : (ns : List Node) (place : ℕ) (old new : Lists) → AddsPlace ns place old new
    → MayAddPlace ns place old new
adds_may ns place old new adds = may_add ns ns place old new new (λ n h. h) adds (λ n. refl)
