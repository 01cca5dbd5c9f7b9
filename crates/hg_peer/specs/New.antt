-- Peers that nothing happened to.
use Rattle.std.specs.Prelude.{◌≡◌, false}
use Rattle.hg_changeset.specs.declared.node.Node.{Node}
use Rattle.hg_join.specs.Order.{IsLeastOfAll}
use Rattle.hg_replica.specs.Content.{content_of, IsValidContent, ContentBelow}
use Rattle.hg_view.specs.Kept.{KeptValue}
use Rattle.hg_peer.specs.Marks.{own}

-- the peer says nothing, and pins nothing
unfoldable pub IsNew : KeptValue → Type 0
IsNew peer = IsLeastOfAll IsValidContent ContentBelow (content_of peer.replica) × (own peer ≡ (λ (n : Node). false))
