-- Places by node.
use Rattle.std.specs.Prelude.{◌≡◌, ◌≢◌, ◌∷◌, [], ℕ, List, Option, None, Some, Contains}
use Rattle.std.specs.Map.{lookup}
use Rattle.hg_changeset.specs.declared.node.Node.{Node}
use Rattle.hg_changeset.specs.Node.{node_eq}
use Rattle.hg_obsstore.specs.declared.places.Places.{Places}
use Rattle.hg_obsstore.specs.declared.places.Places.TheVariants.{Empty, One, Several}
use Rattle.hg_obsstore.specs.declared.index.Role.{Role}
use Rattle.hg_obsstore.specs.declared.index.Role.TheVariants.{Predecessor, Successor, Parent}
use Rattle.hg_obsstore.specs.declared.index.Roles.{Roles}

-- the places of a list
abbrev pub places_in : Places → List ℕ
places_in Empty = []
places_in (One place) = place ∷ []
places_in (Several places) = places.value.items

-- the places in a role
abbrev pub listed_as : Role → Roles → List ℕ
listed_as Predecessor roles = places_in roles.as_predecessor
listed_as Successor roles = places_in roles.as_successor
listed_as Parent roles = places_in roles.as_parent

abbrev pub found_as : Role → Option Roles → List ℕ
found_as role None = []
found_as role (Some roles) = listed_as role roles

-- each node of which something is known, with that
pub record Table : Type 0 where
  pub entries : List (Node × Roles)

-- what is known of a node
abbrev pub known : Table → Node → Option Roles
known table node = lookup (node_eq node) table.entries

-- the places for a node in a role
abbrev pub places_at : Table → Role → Node → List ℕ
places_at table role node = found_as role (known table node)

-- one role has these places, and the others have what they had
pub record ChangesRole (role : Role) (places : List ℕ) (old new : Roles) : Type 0 where
  pub here : listed_as role new ≡ places
  pub others : (other : Role) → other ≢ role → listed_as other new ≡ listed_as other old

abbrev pub SameRoles : Roles → Roles → Type 0
SameRoles old new = (role : Role) → listed_as role new ≡ listed_as role old

-- one node has these places in a role, and all else is as it was
pub record ChangesPlaces (old new : Role → Node → List ℕ) (role : Role) (node : Node) (places : List ℕ) : Type 0 where
  pub here : new role node ≡ places
  pub others : (other : Node) → other ≢ node → new role other ≡ old role other
  pub aside : (other : Role) → other ≢ role → new other ≡ old other

-- there is a place in some role
abbrev pub HasPlace : Roles → Type 0
HasPlace roles = (role : Role) × (place : ℕ) × Contains (listed_as role roles) place

-- each entry has a place
abbrev pub ArePlaced : Table → Type 0
ArePlaced table = (n : Node) (roles : Roles) → known table n ≡ Some roles → HasPlace roles

-- the node has a place in some role
abbrev pub IsPlaced : Table → Node → Type 0
IsPlaced table node = (role : Role) × (place : ℕ) × Contains (places_at table role node) place
