-- The records of a message.
use Rattle.std.specs.Prelude.{◌≡◌, ℕ, List, Bool, true, not, ◌&&◌, nat_le}
use Rattle.hg_changeset.specs.declared.node.Node.{Node}
use Rattle.hg_changeset.specs.Node.{null_node, node_eq}
use Rattle.hg_changeset.specs.Contents.{Contents}
use Rattle.hg_changeset.specs.Changeset.{node_of, changeset_of, is_given_twice, text_limit}
use Rattle.hg_marker.specs.Reading.{Reader, ◌>>=◌, says, wants, field, number, node}
use Rattle.hg_message.specs.declared.error.MessageFault.{MessageFault}
use Rattle.hg_message.specs.declared.error.MessageFault.TheVariants.{HashMismatch, BadParents, TextTooLong}
use Rattle.hg_message.specs.Place.{whole}

-- what a record says: an id, two parents in either order, and a text
pub record RecordFields : Type 0 where
  pub id : Node
  pub p : Node
  pub q : Node
  pub text : List ℕ

-- the changeset of the fields
abbrev pub contents_of : RecordFields → Contents
contents_of f = changeset_of f.p f.q f.text

-- the id is the hash of the fields, and isn't the null id
abbrev pub is_named : RecordFields → Bool
is_named f = node_eq (node_of (contents_of f)) f.id && not (node_eq (node_of (contents_of f)) null_node)

-- the fields are those of a changeset: the parents differ or are both null, and the id is the hash
pub record IsItsRecord (f : RecordFields) : Type 0 where
  pub differ : not (is_given_twice f.p f.q) ≡ true
  pub named : is_named f ≡ true

-- the id, the parents, the length of the text, which is tried at once, and the text
unfoldable pub fields_at : ℕ → ℕ → Reader MessageFault RecordFields
fields_at total index = do
  id ← whole total node
  p ← whole total node
  q ← whole total node
  len ← whole total number
  _ ← wants (nat_le len text_limit) (TextTooLong index)
  text ← whole total (λ short. field short len)
  says (record { id = id; p = p; q = q; text = text })

-- the record of this index: its parents differ or are both null, and its id is its hash
unfoldable pub record_at : ℕ → ℕ → Reader MessageFault Contents
record_at total index = do
  fields ← fields_at total index
  _ ← wants (not (is_given_twice fields.p fields.q)) (BadParents index)
  _ ← wants (is_named fields) (HashMismatch index)
  says (contents_of fields)
