-- The digests of markers, and the places under them.
use Rattle.std.specs.Prelude.{◌≡◌, ◌≢◌, ℕ, List, ◌∷◌, ◌++◌, [], Bool, false, Option, None, Some, slice_get, Contains}
use Rattle.std.specs.Prelude.{drop}
use Rattle.std.specs.List.{flat_map, list_any}
use Rattle.std.specs.BTreeMap.{get}
use Rattle.std.specs.FinMap as finite
use Rattle.sha1.specs.Sha1.{sha1}
use Rattle.hg_changeset.specs.declared.node.Node.{Node}
use Rattle.hg_changeset.specs.Node.{node_cmp}
use Rattle.hg_marker.specs.Fields.{Fields}
use Rattle.hg_marker.specs.Same.{same_fields}
use Rattle.hg_obsstore.specs.declared.places.Places.{Places}
use Rattle.hg_obsstore.specs.declared.digests.Digests.{Digests}
use Rattle.hg_obsstore.specs.declared.index.Index.{Index}
use Rattle.hg_obsstore.specs.declared.index.Role.TheVariants.{Predecessor}
use Rattle.hg_obsstore.specs.Entries.{places_in}
use Rattle.hg_obsstore.specs.Index.{places_of}

-- the bytes of nodes, each behind a byte 1
abbrev pub nodes_bytes : List Node → List ℕ
nodes_bytes nodes = flat_map (λ n. 1 ∷ n.0) nodes

-- each key and its value, behind a byte 0 and with a colon between them
abbrev pub texts_bytes : List (List ℕ × List ℕ) → List ℕ
texts_bytes texts = flat_map (λ e. 0 ∷ (e.0 ++ 58 ∷ e.1)) texts

-- what of a marker is digested: no two markers have the same
abbrev pub digested : Fields → List ℕ
digested m = m.flags ∷ ((m.predecessor.0 ++ nodes_bytes m.successors) ++ texts_bytes (finite.entries m.metadata))

-- the digest of a marker
unfoldable pub digest_of : Fields → Node
digest_of m = record { 0 = sha1 (digested m) }

-- so many markers of a predecessor are looked at one by one
abbrev pub scanned : ℕ
scanned = 8

abbrev pub found_places : Option Places → List ℕ
found_places None = []
found_places (Some places) = places_in places

-- the places under a digest
abbrev pub under : Digests → Node → List ℕ
under digests digest = found_places (get node_cmp digests.by_digest digest)

-- what stands under a digest stays there, but for this place
abbrev pub KeepsOtherDigests : ℕ → Digests → Digests → Type 0
KeepsOtherDigests place old new = (n : Node) (i : ℕ) → i ≢ place → Contains (under old n) i → Contains (under new n) i

-- whether the marker is this one
abbrev pub is_it : Fields → Option Fields → Bool
is_it m None = false
is_it m (Some other) = same_fields m other

-- whether the marker stands at the place
abbrev pub stands_at : List Fields → Fields → ℕ → Bool
stands_at markers m place = is_it m (slice_get markers place)

abbrev pub stands_among : List Fields → Fields → List ℕ → Bool
stands_among markers m places = list_any (stands_at markers m) places

-- a place of a marker that isn't among those of its predecessor stands under its digest
abbrev pub IsUnderDigest : Index → Digests → Fields → ℕ → Type 0
IsUnderDigest index digests m place =
    Contains (drop scanned (places_of Predecessor index m.predecessor)) place
    → Contains (under digests (digest_of m)) place

-- each of the markers stands so
abbrev pub AreDigested : List Fields → Index → Digests → Type 0
AreDigested markers index digests = (m : Fields) (i : ℕ) → slice_get markers i ≡ Some m
    → IsUnderDigest index digests m i
