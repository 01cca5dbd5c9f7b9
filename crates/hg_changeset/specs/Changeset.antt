-- What a changeset is: its parents in normal form, its text, and the id that these give.
use Rattle.std.specs.Prelude.{ℕ, ◌≡◌, ◌≢◌, ◌≤◌, ◌⊎◌, ◌++◌, ◌==◌, List, length, Bool, false, not}
use Rattle.std.specs.Prelude.{◌&&◌, nat_lt, if◌then◌else◌}
use Rattle.std.specs.Prelude.{Option, Some, None}
use Rattle.std.specs.List.{after_last}
use Rattle.std.specs.Ordering.{is_gt}
use Rattle.std.specs.declared.cmp.Ordering.TheVariants.{Less}
use Rattle.hex.specs.Hex.{IsBytes}
use Rattle.sha1.specs.Sha1.{sha1}
use Rattle.hg_changeset.specs.declared.node.Node.{Node}
use Rattle.hg_changeset.specs.declared.changeset.ChangesetError.{ChangesetError}
use Rattle.hg_changeset.specs.declared.changeset.ChangesetError.TheVariants.{SameParent, TextTooLong, NullNode}
use Rattle.hg_changeset.specs.Node.{node_cmp, node_eq, null_node, IsNode}
use Rattle.hg_changeset.specs.Contents.{Contents, contents}

-- the lesser and the greater of two ids, as byte strings
abbrev pub lesser : Node → Node → Node
lesser p q = if is_gt (node_cmp p q) then q else p

abbrev pub greater : Node → Node → Node
greater p q = if is_gt (node_cmp p q) then p else q

-- the id: the SHA-1 of the lesser parent, the greater parent and the text
unfoldable pub node_of : Contents → Node
node_of c = record { 0 = sha1 ((lesser c.first c.second).0 ++ (greater c.first c.second).0 ++ c.text) }

-- what follows the last LF of the text
abbrev pub last_line : Contents → List ℕ
last_line c = after_last (λ b. b == 10) c.text

-- one changeset is named as both parents
abbrev pub is_given_twice : Node → Node → Bool
is_given_twice p q = node_eq p q && not (node_eq p null_node)

-- the changeset of two parents in either order: a null parent stands last, otherwise the lesser stands first
abbrev pub changeset_of : Node → Node → List ℕ → Contents
changeset_of p q text =
    if node_eq q null_node then contents p q text
    else if node_eq p null_node then contents q p text
    else contents (lesser p q) (greater p q) text

-- the most bytes that a text may have
abbrev pub text_limit : ℕ
text_limit = 1048576

-- two parents in normal form: the second is absent, or both are there and the first is the lesser
abbrev pub IsNormal : Node → Node → Type 0
IsNormal p q = (q ≡ null_node) ⊎ ((p ≢ null_node) × (node_cmp p q ≡ Less))

-- first and second are the parents p and q in normal form, and ids
pub record IsNormalFormOf (p q first second : Node) : Type 0 where
  pub once : is_given_twice p q ≡ false
  pub order : (text : List ℕ) → changeset_of p q text ≡ contents first second text
  pub normal : IsNormal first second
  pub nodes : IsNode first × IsNode second

-- what is so of every changeset
pub record IsChangeset (c : Contents) : Type 0 where
  pub first : IsNode c.first
  pub second : IsNode c.second
  pub normal : IsNormal c.first c.second
  pub text : IsBytes c.text
  pub within : length c.text ≤ text_limit
  pub node : IsNode (node_of c)
  pub not_null : node_of c ≢ null_node

-- why there is no such changeset, the first reason that applies
abbrev pub changeset_fault : Node → Node → List ℕ → Option ChangesetError
changeset_fault p q text =
    if is_given_twice p q then Some SameParent
    else if nat_lt text_limit (length text) then Some TextTooLong
    else if node_eq (node_of (changeset_of p q text)) null_node then Some NullNode
    else None

-- what is seen of that before an id is hashed
abbrev pub fault_before_hashing : Node → Node → List ℕ → Option ChangesetError
fault_before_hashing p q text =
    if is_given_twice p q then Some SameParent
    else if nat_lt text_limit (length text) then Some TextTooLong
    else None
