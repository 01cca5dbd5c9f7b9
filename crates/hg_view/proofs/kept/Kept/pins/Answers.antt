use Rattle.std.proofs.Common.{Contains, subst}
use Rattle.hg_changeset.specs.declared.node.Node.{Node}
use Rattle.hg_history.specs.Content.{IsHeld}
use Rattle.hg_replica.specs.Content.{content_of}
use Rattle.hg_view.specs.Kept.{KeptValue}
use Rattle.hg_view.proofs.kept.Kept.pins.Goals as goal

pub returns-clause-held : goal.returns-clause-held
returns-clause-held c =
    subst (λ (k : KeptValue). (n : Node) → Contains k.pins n → IsHeld (content_of k.replica).0 n) c.self.view_is
    c.self.invariant.2.pinned
