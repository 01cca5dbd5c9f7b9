-- What labels stand for: those of few bytes by a number, and the others by their text.
use Rattle.std.specs.Prelude.{ℕ, ◌≡◌, ◌≢◌, nat_eq, nat_lt, ◌+◌, ◌*◌, Bool, ◌&&◌, if◌then◌else◌, List, fold, length}
use Rattle.std.specs.Prelude.{Option, Some}
use Rattle.std.specs.declared.vec.Vec.{Vec}
use Rattle.std.specs.declared.alloc.Global.{Global}
use Rattle.std.specs.List.{list_all}
use Rattle.std.specs.Map.{update}
use Rattle.std.specs.Str.{bytes_eq}
use Rattle.indexmap.specs.IndexMap.{IndexMap, get, get_by}
use Rattle.hg_changeset.specs.declared.node.Node.{Node}
use Rattle.hg_node_set.specs.declared.keys.IdKeys.{IdKeys}
use Rattle.hg_names.specs.declared.labels.Labels.{Labels}

-- the bytes as digits of base 256, behind what is given
abbrev pub digits_behind : ℕ → List ℕ → ℕ
digits_behind key label = fold (λ key byte. key * 256 + byte) key label

-- whether a number is a byte
abbrev pub is_byte : ℕ → Bool
is_byte byte = nat_lt byte 256

-- whether a label is looked up by its number: at most seven bytes
abbrev pub is_short : List ℕ → Bool
is_short label = nat_lt (length label) 8 && list_all is_byte label

-- what a text stands for, if it is bound
abbrev pub text_value : IndexMap (Vec ℕ Global) Node IdKeys → List ℕ → Option Node
text_value texts text = get_by (λ k. bytes_eq text k.items) texts

-- what a label stands for, if it is bound
abbrev pub labelled_in : (ℕ → Option Node) → (List ℕ → Option Node) → List ℕ → Option Node
labelled_in short long label = if is_short label then short (digits_behind 1 label) else long label

abbrev pub labelled : Labels → List ℕ → Option Node
labelled labels label = labelled_in (get nat_eq labels.short) (text_value labels.long) label

-- the label stands for the node, and each other for what it did
abbrev pub BindsNode : (List ℕ → Option Node) → List ℕ → Node → (List ℕ → Option Node) → Type 0
BindsNode old label node new = (other : List ℕ) → new other ≡ update bytes_eq old label (Some node) other

-- each label stands for what it did
abbrev pub AreSameLabels : (List ℕ → Option Node) → (List ℕ → Option Node) → Type 0
AreSameLabels old new = (label : List ℕ) → new label ≡ old label

-- the number stands for the node, and each other for what it did
pub record BindsKey (old : ℕ → Option Node) (key : ℕ) (node : Node) (new : ℕ → Option Node) : Type 0 where
  pub here : new key ≡ Some node
  pub others : (other : ℕ) → other ≢ key → new other ≡ old other
