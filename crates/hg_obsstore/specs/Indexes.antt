-- The index of a store, before and after a marker more.
use Rattle.std.specs.Prelude.{ℕ, List, Contains}
use Rattle.hg_changeset.specs.declared.node.Node.{Node}
use Rattle.hg_marker.specs.Fields.{Fields}
use Rattle.hg_marker.specs.Parents.{recorded_parents}
use Rattle.hg_obsstore.specs.declared.index.Index.{Index}
use Rattle.hg_obsstore.specs.declared.index.Role.TheVariants.{Predecessor, Successor, Parent}
use Rattle.hg_obsstore.specs.Index.{places_of, AreBelow, AddsPlace, MayAddPlace, TakesPlaces}
use Rattle.hg_obsstore.specs.Markers.{predecessors, successors, ArePlaces}

-- all places in each role are below this one
pub record HaveBelow (index : Index) (place : ℕ) : Type 0 where
  pub predecessor : AreBelow (places_of Predecessor index) place
  pub successor : AreBelow (places_of Successor index) place
  pub child : AreBelow (places_of Parent index) place

-- the marker has the place in each role
pub record AddMarker (m : Fields) (place : ℕ) (old new : Index) : Type 0 where
  pub predecessor : AddsPlace (predecessors m) place (places_of Predecessor old) (places_of Predecessor new)
  pub successor : AddsPlace (successors m) place (places_of Successor old) (places_of Successor new)
  pub child : AddsPlace (recorded_parents m) place (places_of Parent old) (places_of Parent new)

-- the marker may have the place in each role, for each of its nodes
pub record MayAddMarker (m : Fields) (place : ℕ) (old new : Index) : Type 0 where
  pub predecessor : MayAddPlace (predecessors m) place (places_of Predecessor old) (places_of Predecessor new)
  pub successor : MayAddPlace (successors m) place (places_of Successor old) (places_of Successor new)
  pub child : MayAddPlace (recorded_parents m) place (places_of Parent old) (places_of Parent new)

-- what the marker may have added is taken away
pub record TakeMarker (m : Fields) (place : ℕ) (old new : Index) : Type 0 where
  pub predecessor : TakesPlaces (predecessors m) place (places_of Predecessor old) (places_of Predecessor new)
  pub successor : TakesPlaces (successors m) place (places_of Successor old) (places_of Successor new)
  pub child : TakesPlaces (recorded_parents m) place (places_of Parent old) (places_of Parent new)

-- each of their nodes has the places of the markers, and no node has others
abbrev pub IsIndexBy : (Fields → List Node) → List Fields → (Node → List ℕ) → Type 0
IsIndexBy nodes_of markers places = (n : Node) → ArePlaces (λ m. Contains (nodes_of m) n) markers (places n)

-- the index is exact in each role
pub record AreIndexed (markers : List Fields) (index : Index) : Type 0 where
  pub predecessor : IsIndexBy predecessors markers (places_of Predecessor index)
  pub successor : IsIndexBy successors markers (places_of Successor index)
  pub child : IsIndexBy recorded_parents markers (places_of Parent index)
