-- What new markers rewrote.
use Rattle.std.proofs.Common.{◌≡◌, ◌↔◌, ◌⊎◌, ◌++◌, inl, inr, List, Contains, sym, subst}
use Rattle.std.proofs.lemmas.List.Elements.{Contains-append_left, Contains-append_right, Contains-append_cases}
use Rattle.hg_changeset.specs.declared.node.Node.{Node}
use Rattle.hg_marker.specs.Fields.{Fields}
use Rattle.hg_replica.specs.Change.{ChangeValue}
use Rattle.hg_instab.specs.Changed.{IsSeed}
use Rattle.hg_instab.specs.Walk.{IsOfOneAt}

-- what was added, what went down, and what new markers rewrote are the seeds
pub seeds-found : (ms : List Fields) (change : ChangeValue) (moved found : List Node)
    → moved ≡ change.added ++ change.lowered
    → ((n : Node) → Contains found n
    ↔ (Contains moved n ⊎ IsOfOneAt (λ m n. m.predecessor ≡ n) ms change.markers n)) → (n : Node)
    → Contains found n ↔ IsSeed ms change n
seeds-found ms change moved found is members n = (
  λ h. elim ((members n).0 h) [
    | inl m ↦ inl (Contains-append_cases change.added change.lowered n (subst (λ ns. Contains ns n) is m))
    | inr r ↦ inr (r.2, (r.0, r.1, r.3), r.4)
  ],
  λ h. (members n).1 (elim h [
    | inl m ↦ inl (subst (λ ns. Contains ns n) (sym is) (elim m [
      | inl a ↦ Contains-append_left change.added change.lowered n a
      | inr l ↦ Contains-append_right change.added change.lowered n l
    ]))
    | inr f ↦ inr (f.1.0, f.1.1, f.0, f.1.2, f.2)
  ]),
)
