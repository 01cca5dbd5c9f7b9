-- A marker as a value: its predecessor was rewritten to its successors.
use Rattle.std.specs.Prelude.{ℕ, List, refl}
use Rattle.std.specs.Coded.{Coded, code_by, coded×, coded_ℕ, coded_list}
use Rattle.std.specs.FinMap as finite
use Rattle.hg_changeset.specs.declared.node.Node.{Node}
use Rattle.hg_marker.specs.Texts.{Texts}

-- the successors in their order, doubles among them
pub record Fields : Type 0 where
  pub predecessor : Node
  pub successors : List Node
  pub flags : ℕ
  pub metadata : Texts

-- a node id is stored as its bytes
abbrev pub node_code : Coded Node
node_code = code_by (List ℕ) (coded_list coded_ℕ) (λ n. n.0) (λ l. record { 0 = l }) (λ _. refl)

-- a marker is stored as the pairs of its fields
abbrev pub fields_code : Coded Fields
fields_code =
    code_by ((Node × List Node) × (ℕ × Texts))
    (coded× (coded× node_code (coded_list node_code))
    (coded× coded_ℕ (finite.code (coded_list coded_ℕ) (coded_list coded_ℕ))))
    (λ m. ((m.predecessor, m.successors), (m.flags, m.metadata)))
    (λ p. record { predecessor = p.0.0; successors = p.0.1; flags = p.1.0; metadata = p.1.1 }) (λ _. refl)
