-- What a script notes of each change that it makes.
use Rattle.std.specs.Prelude.{◌≡◌, ℕ, List, [], codes, pos}
use Rattle.hg_changeset.specs.declared.node.Node.{Node}
use Rattle.hg_changeset.specs.EntryValue.{EntryValue}
use Rattle.hg_rewrite.specs.declared.op.Op.{Op}
use Rattle.hg_rewrite.specs.declared.op.Op.TheVariants.{Prune}

-- the user `fleet`, the date 0 0, no extras, and the label as the description
abbrev pub entry_of : List ℕ → EntryValue
entry_of label = record { user = codes "fleet"; secs = pos 0; offset = pos 0; extra = []; desc = label }

-- a prune of the node, by the same user at the same date
abbrev pub IsPruneOf : Node → Op → Type 0
IsPruneOf n (Prune node user secs offset) = (node ≡ n) × (user.items ≡ codes "fleet") × (secs ≡ pos 0)
    × (offset ≡ pos 0)
IsPruneOf n _ = ⊥
