-- Markers are equal where their fields are: the test that `==` makes decides it.
use Rattle.std.specs.Prelude.{◌≡◌, Bool, ◌&&◌, ◌==◌}
use Rattle.std.proofs.Common.{ap}
use Rattle.std.proofs.lemmas.Bool.{and_parts, and_from}
use Rattle.std.specs.Bool.{Decides}
use Rattle.std.specs.Cmp.{IsEquivalence, decided, unsigned_Decides}
use Rattle.std.specs.Cmp.Lexicographic.{pointwise, pointwise_decides}
use Rattle.std.specs.FinMap as finite
use Rattle.hg_changeset.specs.Node.{node_eq}
use Rattle.hg_changeset.specs.Same.{same_pairs, node_eq_decides, pairs_decides}
use Rattle.hg_marker.specs.Texts.{Texts}
use Rattle.hg_marker.specs.Fields.{Fields}

-- the same values at the same keys
abbrev pub same_texts : Texts → Texts → Bool
same_texts a b = same_pairs (finite.entries a) (finite.entries b)

-- the same predecessor, flags, successors in the same order, and metadata
unfoldable pub same_fields : Fields → Fields → Bool
same_fields m n =
    node_eq m.predecessor n.predecessor
    && (m.flags == n.flags && (pointwise node_eq m.successors n.successors && same_texts m.metadata n.metadata))

pub texts_decides : (a b : Texts) → Decides (same_texts a b) (a ≡ b)
texts_decides a b =
    let each = pairs_decides (finite.entries a) (finite.entries b) in
    ((λ h. finite.same_entries_map a b (each.0 h)), (λ e. each.1 (ap finite.entries e)))

pub fields_decides : (m n : Fields) → Decides (same_fields m n) (m ≡ n)
unfolding same_fields
fields_decides m n =
    let nodes = pointwise_decides node_eq_decides m.successors n.successors in (
      (λ h.
          let p = and_parts (node_eq m.predecessor n.predecessor)
          (m.flags == n.flags && (pointwise node_eq m.successors n.successors && same_texts m.metadata n.metadata))
          h in
          let f = and_parts (m.flags == n.flags)
          (pointwise node_eq m.successors n.successors && same_texts m.metadata n.metadata) p.1 in
          let s = and_parts (pointwise node_eq m.successors n.successors) (same_texts m.metadata n.metadata) f.1 in
          λ i. record {
            predecessor = (node_eq_decides m.predecessor n.predecessor).0 p.0 i;
            successors = nodes.0 s.0 i;
            flags = (unsigned_Decides m.flags n.flags).0 f.0 i;
            metadata = (texts_decides m.metadata n.metadata).0 s.1 i;
          }),
      (λ e. and_from (node_eq m.predecessor n.predecessor)
          (m.flags == n.flags && (pointwise node_eq m.successors n.successors && same_texts m.metadata n.metadata))
          ((node_eq_decides m.predecessor n.predecessor).1 (ap (λ (x : Fields). x.predecessor) e))
          (and_from (m.flags == n.flags)
          (pointwise node_eq m.successors n.successors && same_texts m.metadata n.metadata)
          ((unsigned_Decides m.flags n.flags).1 (ap (λ (x : Fields). x.flags) e))
          (and_from (pointwise node_eq m.successors n.successors) (same_texts m.metadata n.metadata)
          (nodes.1 (ap (λ (x : Fields). x.successors) e))
          ((texts_decides m.metadata n.metadata).1 (ap (λ (x : Fields). x.metadata) e))))),
    )

pub fields_equivalence : IsEquivalence same_fields
fields_equivalence = decided same_fields fields_decides

pub texts_equivalence : IsEquivalence same_texts
texts_equivalence = decided same_texts texts_decides
