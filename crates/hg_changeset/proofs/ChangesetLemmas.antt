-- The normal form of two parents, and what is seen of a fault before an id is hashed.
use Rattle.std.proofs.Common.{◌≡◌, ◌≢◌, ℕ, List, length, Bool, true, false, Option, Some, None, inl, inr, refl, sym}
use Rattle.std.proofs.Common.{◌∙◌}
use Rattle.std.specs.Prelude.{nat_lt, if◌then◌else◌}
use Rattle.std.specs.Option.{option_or}
use Rattle.hg_changeset.specs.declared.changeset.ChangesetError.{ChangesetError}
use Rattle.hg_changeset.specs.declared.changeset.ChangesetError.TheVariants.{SameParent, TextTooLong, NullNode}
use Rattle.hg_changeset.specs.Changeset.{node_of, changeset_of, changeset_fault, fault_before_hashing, text_limit}
use Rattle.hg_changeset.specs.Node.{node_eq}
use Rattle.std.specs.declared.cmp.Ordering.TheVariants.{Less, Greater}
use Rattle.hg_changeset.specs.declared.node.Node.{Node}
use Rattle.hg_changeset.specs.Node.{node_cmp, null_node, IsNode}
use Rattle.hg_changeset.specs.Changeset.{is_given_twice, IsNormalFormOf}
use Rattle.hg_changeset.proofs.NodeLemmas.{node_itself, node_apart, same_not_less, greater_is_less}

in_order_of_faults : (twice long : Bool) (rest : Option ChangesetError)
    → (if twice then Some SameParent else if long then Some TextTooLong else rest) ≡ option_or
    (if twice then Some SameParent else if long then Some TextTooLong else None) rest
in_order_of_faults true long rest = refl
in_order_of_faults false true rest = refl
in_order_of_faults false false rest = refl

-- it is seen first, and after it only whether the id is the null id
pub seen_first : (p q : Node) (text : List ℕ) → changeset_fault p q text ≡ option_or (fault_before_hashing p q text)
    (if node_eq (node_of (changeset_of p q text)) null_node then Some NullNode else None)
seen_first p q text = in_order_of_faults (is_given_twice p q) (nat_lt text_limit (length text))
    (if node_eq (node_of (changeset_of p q text)) null_node then Some NullNode else None)

module _ (p q : Node) (p_node : IsNode p) (q_node : IsNode q) where
  -- the first parent is absent
  pub first_absent : p ≡ null_node → q ≢ null_node → IsNormalFormOf p q q p
  first_absent e ne =
      let p_null = node_itself p null_node e in
      let q_there = node_apart q null_node ne in
      let apart = node_apart p q (λ same. ne (sym same ∙ e)) in
      record {
        once = rw apart refl;
        order = λ text. rw (q_there, p_null) refl;
        normal = inl e;
        nodes = (q_node, p_node);
      }

  module _ (p_there : p ≢ null_node) (q_there : q ≢ null_node) where
    -- both are there, and in order
    pub in_order : node_cmp p q ≡ Less → IsNormalFormOf p q p q
    in_order l = record {
      once = rw (node_apart p q (λ same. same_not_less p q same l)) refl;
      order = λ text. rw (node_apart q null_node q_there, node_apart p null_node p_there, l) refl;
      normal = inr (p_there, l);
      nodes = (p_node, q_node);
    }

    -- both are there, in the other order
    pub out_of_order : node_cmp p q ≡ Greater → IsNormalFormOf p q q p
    out_of_order g =
        let l = greater_is_less p q g in
        record {
          once = rw (node_apart p q (λ same. same_not_less q p (sym same) l)) refl;
          order = λ text. rw (node_apart q null_node q_there, node_apart p null_node p_there, g) refl;
          normal = inr (q_there, l);
          nodes = (q_node, p_node);
        }

    -- one is named twice
    pub named_twice : p ≡ q → is_given_twice p q ≡ true
    named_twice same = rw (node_itself p q same, node_apart p null_node p_there) refl
