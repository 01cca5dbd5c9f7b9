-- What came to sets, and what went from them.
use Rattle.std.proofs.Common.{◌≡◌, ◌↔◌, List, Contains, Bool, true, false, true≢false, IsTrue, not, ◌&&◌, refl, sym}
use Rattle.std.proofs.Common.{subst, ◌∙◌}
use Rattle.std.specs.BTreeSet.{BTreeSet, IsDifference, contains}
use Rattle.std.specs.Ordering.{eq_by_cmp}
use Rattle.std.proofs.lemmas.Cmp.{eq_by_cmp_equiv}
use Rattle.std.proofs.lemmas.Map.Views.{btree_set_contains_iff}
use Rattle.hg_changeset.specs.declared.node.Node.{Node}
use Rattle.hg_changeset.specs.Node.{node_cmp}
use Rattle.hg_changeset.proofs.NodeLemmas.{node_cmp_total, node_cmp_exact}
use Rattle.hg_trial.specs.Moved.{IsMoved, IsMovedBetween}
use Rattle.hg_trial.specs.declared.moved.Moved.{Moved}

both : (a b : Bool) → IsTrue (a && not b) ↔ (IsTrue a × ¬ (IsTrue b))
both true true = (λ h. absurd (true≢false (sym h)), λ h. absurd (h.1 refl))
both true false = (λ h. (refl, λ no. true≢false (sym no)), λ h. refl)
both false b = (λ h. absurd (true≢false (sym h)), λ h. absurd (true≢false (sym h.0)))

has : (s : BTreeSet Node) (n : Node) → IsTrue (contains node_cmp s n) ↔ Contains s.keys n
has s n = btree_set_contains_iff node_cmp_total node_cmp_exact s n

-- equal ids are equal by their order
pub same-equal : (x y : Node) → y ≡ x → IsTrue (eq_by_cmp node_cmp x y)
same-equal x y is = subst (λ z. IsTrue (eq_by_cmp node_cmp x z)) (sym is) ((eq_by_cmp_equiv node_cmp_total).refl x)

-- a set with the keys of one that another lacks
pub difference-members : (s t d : BTreeSet Node) → IsDifference node_cmp s t d.keys → (n : Node)
    → Contains d.keys n ↔ (Contains s.keys n × ¬ (Contains t.keys n))
difference-members s t d is n =
    let told = both (contains node_cmp s n) (contains node_cmp t n) in (
      λ h.
          let x = told.0 (sym (is n) ∙ (has d n).1 h) in
          ((has s n).0 x.0, λ no. x.1 ((has t n).1 no)),
      λ h. (has d n).0 (is n ∙ told.1 ((has s n).1 h.0, λ no. h.1 ((has t n).0 no))),
    )

-- what moved between lists that have what is so is what turned
pub moved-kind : (P Q : Node → Type 0) (before after was is : List Node) (moved : Moved) → was ≡ before → is ≡ after
    → ((n : Node) → Contains before n ↔ P n) → ((n : Node) → Contains after n ↔ Q n)
    → IsMovedBetween was is moved → IsMoved P Q moved
moved-kind P Q before after was is moved same_before same_after old new m =
    let first : (n : Node) → Contains was n ↔ P n =
    subst (λ ns. (n : Node) → Contains ns n ↔ P n) (sym same_before) old in
    let then : (n : Node) → Contains is n ↔ Q n =
    subst (λ ns. (n : Node) → Contains ns n ↔ Q n) (sym same_after) new in
    record {
      came = λ n. (
        λ h. let x = (m.came n).0 h in ((then n).0 x.0, λ p. x.1 ((first n).1 p)),
        λ h. (m.came n).1 ((then n).1 h.0, λ c. h.1 ((first n).0 c)),
      );
      went = λ n. (
        λ h. let x = (m.went n).0 h in ((first n).0 x.0, λ p. x.1 ((then n).1 p)),
        λ h. (m.went n).1 ((first n).1 h.0, λ c. h.1 ((then n).0 c)),
      );
    }
