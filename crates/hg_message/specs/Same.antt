-- Messages are equal where they have one scope, and hold the same changesets, bounds and markers, in the same order:
-- the test that `==` makes decides it.
use Rattle.std.specs.Prelude.{◌≡◌, Bool, ◌&&◌, nat_eq}
use Rattle.std.proofs.Common.{ap, refl, arith}
use Rattle.std.proofs.lemmas.Bool.Decides.{Decides-and, Decides-like}
use Rattle.std.specs.Bool.{Decides}
use Rattle.std.specs.Cmp.{IsEquivalence, decided, unsigned_Decides}
use Rattle.std.specs.Cmp.Lexicographic.{pointwise, pointwise_decides}
use Rattle.hg_changeset.specs.declared.node.Node.{Node}
use Rattle.hg_changeset.specs.Node.{node_eq}
use Rattle.hg_changeset.specs.Same.{same_contents, contents_decides, node_eq_decides}
use Rattle.hg_phases.specs.declared.phase.Phase.{Phase}
use Rattle.hg_phases.specs.State.{rank}
use Rattle.hg_phases.proofs.RankLemmas.{rank-apart}
use Rattle.hg_obsstore.specs.Same.{same_markers, markers_decides}
use Rattle.hg_message.specs.declared.scope.Scope.{Scope}
use Rattle.hg_message.specs.declared.scope.Scope.TheVariants.{Served, Whole}
use Rattle.hg_message.specs.Scope.{scope_number}
use Rattle.hg_message.specs.Value.{MessageValue}

-- the same node and the same phase
abbrev pub same_bound : Node × Phase → Node × Phase → Bool
same_bound x y = node_eq x.0 y.0 && nat_eq (rank x.1) (rank y.1)

abbrev pub same_scope : Scope → Scope → Bool
same_scope s t = nat_eq (scope_number s) (scope_number t)

-- the same scope, changesets, bounds and markers
unfoldable pub same_message : MessageValue → MessageValue → Bool
same_message m n = same_scope m.scope n.scope && (pointwise same_contents m.changesets n.changesets &&
    (pointwise same_bound m.bounds n.bounds && same_markers m.markers n.markers))

rank_decides : (j k : Phase) → Decides (nat_eq (rank j) (rank k)) (j ≡ k)
rank_decides j k = (
  (λ h. rank-apart j k ((unsigned_Decides (rank j) (rank k)).0 h)),
  (λ e. (unsigned_Decides (rank j) (rank k)).1 (ap rank e)),
)

bound_decides : (x y : Node × Phase) → Decides (same_bound x y) (x ≡ y)
bound_decides x y = Decides-like (same_bound x y)
    (λ h i. (h.0 i, h.1 i))
    (λ e. (ap (λ (b : Node × Phase). b.0) e, ap (λ (b : Node × Phase). b.1) e))
    (Decides-and (node_eq x.0 y.0) (nat_eq (rank x.1) (rank y.1)) (node_eq_decides x.0 y.0) (rank_decides x.1 y.1))

scope-apart : (s t : Scope) → scope_number s ≡ scope_number t → s ≡ t
scope-apart Served Served e = refl
scope-apart Served Whole e = absurd (omega (arith, e))
scope-apart Whole Served e = absurd (omega (arith, e))
scope-apart Whole Whole e = refl

scope_decides : (s t : Scope) → Decides (same_scope s t) (s ≡ t)
scope_decides s t = (
  (λ h. scope-apart s t ((unsigned_Decides (scope_number s) (scope_number t)).0 h)),
  (λ e. (unsigned_Decides (scope_number s) (scope_number t)).1 (ap scope_number e)),
)

pub message_decides : (m n : MessageValue) → Decides (same_message m n) (m ≡ n)
unfolding same_message
message_decides m n =
    let markers = same_markers m.markers n.markers in
    let bounds = pointwise same_bound m.bounds n.bounds in
    let changesets = pointwise same_contents m.changesets n.changesets in
    Decides-like (same_message m n)
    (λ h i. record { scope = h.0 i; changesets = h.1.0 i; bounds = h.1.1.0 i; markers = h.1.1.1 i })
    (λ e. (
      ap (λ (x : MessageValue). x.scope) e,
      (
        ap (λ (x : MessageValue). x.changesets) e,
        (ap (λ (x : MessageValue). x.bounds) e, ap (λ (x : MessageValue). x.markers) e),
      ),
    ))
    (Decides-and (same_scope m.scope n.scope) (changesets && (bounds && markers)) (scope_decides m.scope n.scope)
    (Decides-and changesets (bounds && markers) (pointwise_decides contents_decides m.changesets n.changesets)
    (Decides-and bounds markers (pointwise_decides bound_decides m.bounds n.bounds)
    (markers_decides m.markers n.markers))))

pub message_equivalence : IsEquivalence same_message
message_equivalence = decided same_message message_decides
