-- The content of a state: what it holds, without the order in which it keeps it.
use Rattle.std.specs.Prelude.{Option, find}
use Rattle.hg_changeset.specs.declared.node.Node.{Node}
use Rattle.hg_changeset.specs.Node.{node_eq}
use Rattle.hg_changeset.specs.Changeset.{node_of}
use Rattle.hg_phases.specs.State.{State, Held}

-- the changeset with this id and its phase, where it is held
abbrev pub content_of : State → Node → Option Held
content_of s n = find (λ h. node_eq n (node_of h.changeset)) s.held
