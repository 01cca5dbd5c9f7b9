-- What sets of changesets say once it is known what they have.
use Rattle.std.proofs.Common.{◌≡◌, ◌↔◌, List, Contains, sym, subst}
use Rattle.hg_changeset.specs.declared.node.Node.{Node}
use Rattle.hg_trial.specs.Moved.{IsMoved}
use Rattle.hg_trial.specs.declared.moved.Moved.{Moved}

-- equal lists have the same
pub same-kind : (P : Node → Type 0) (ns ms : List Node) → ms ≡ ns → ((n : Node) → Contains ns n ↔ P n)
    → (n : Node) → Contains ms n ↔ P n
same-kind P ns ms same kind = subst (λ ks. (n : Node) → Contains ks n ↔ P n) (sym same) kind

-- what moved from one kind to another did so from what is the same as the one to what is the same as the other
pub moved-as : (P Q R S : Node → Type 0) (moved : Moved) → ((n : Node) → P n ↔ R n) → ((n : Node) → Q n ↔ S n)
    → IsMoved P Q moved → IsMoved R S moved
moved-as P Q R S moved first then m = record {
  came = λ n. (
    λ h. let x = (m.came n).0 h in ((then n).0 x.0, λ r. x.1 ((first n).1 r)),
    λ h. (m.came n).1 ((then n).1 h.0, λ p. h.1 ((first n).0 p)),
  );
  went = λ n. (
    λ h. let x = (m.went n).0 h in ((first n).0 x.0, λ s. x.1 ((then n).1 s)),
    λ h. (m.went n).1 ((first n).1 h.0, λ q. h.1 ((then n).0 q)),
  );
}
