-- What is read of the bytes of a store, and which fault there is.
use Rattle.std.specs.Prelude.{◌≡◌, ◌<◌, ℕ, zero, suc, ◌+◌, ◌-◌, ◌==◌, List, [], ◌∷◌, ◌++◌, length, Result, Ok, Err}
use Rattle.std.specs.Prelude.{if◌then◌else◌}
use Rattle.hg_marker.specs.declared.error.MarkerFault.{MarkerFault}
use Rattle.hg_marker.specs.Fields.{Fields}
use Rattle.hg_marker.specs.Faults.{marker_at, IsFault}
use Rattle.hg_marker.specs.Reading.{Reader}
use Rattle.hg_obsstore.specs.declared.fault.StoreFault.{StoreFault}
use Rattle.hg_obsstore.specs.declared.fault.StoreFault.TheVariants.{BadVersion, Bad}
use Rattle.hg_obsstore.specs.Spelling.{AreSpelled}

-- After whole markers, at this place, come bytes at whose front no marker stands, and this is why. The places count the
-- version byte, which stands before the bytes.
pub record IsBadAt (bytes : List ℕ) (place : ℕ) (cause : MarkerFault) : Type 0 where
  pub markers : List Fields
  pub front : List ℕ
  pub rest : List ℕ
  pub parts : bytes ≡ front ++ rest
  pub spelled : AreSpelled markers front
  pub place_is : place ≡ 1 + length front
  pub more : 0 < length rest
  pub fault : IsFault rest cause

-- this is the fault of the bytes: another version than 0, or a marker that can't be read
abbrev pub IsStoreFault : List ℕ → StoreFault → Type 0
IsStoreFault [] fault = ⊥
IsStoreFault (version ∷ bytes) (BadVersion v) = (0 < version) × (v ≡ version)
IsStoreFault (version ∷ bytes) (Bad place cause) = (version ≡ 0) × IsBadAt bytes place cause

-- ---- the same from left to right, as far as the first fault

-- a fault of a marker, with the place of its first byte
abbrev pub with_place : {A : Type 0} → ℕ → Result A MarkerFault → Result A StoreFault
with_place place (Ok x) = Ok x
with_place place (Err cause) = Err (Bad place cause)

-- the marker at the front of the rest of so many bytes
abbrev pub placed_marker : ℕ → Reader StoreFault Fields
placed_marker total rest = with_place (total - length rest) (marker_at rest)

-- these markers, and then what was read
abbrev pub with_front : List Fields → Result (List Fields) StoreFault → Result (List Fields) StoreFault
with_front front (Ok markers) = Ok (front ++ markers)
with_front front (Err fault) = Err fault

-- what was read, and then the others after it
abbrev pub with_others : Result (Fields × List ℕ) StoreFault → (List ℕ → Result (List Fields) StoreFault)
    → Result (List Fields) StoreFault
with_others (Ok first) others = with_front (first.0 ∷ []) (others first.1)
with_others (Err fault) others = Err fault

-- the markers up to the end of the rest of so many bytes, at most limit of them
unfoldable pub markers_at : ℕ → ℕ → List ℕ → Result (List Fields) StoreFault
markers_at total zero rest = Ok []
markers_at total (suc limit) rest = if length rest == 0 then Ok [] else with_others (placed_marker total rest)
    (markers_at total limit)

-- the markers of a store, which are no more than its bytes
unfoldable pub store_at : List ℕ → Result (List Fields) StoreFault
store_at [] = Ok []
store_at (version ∷ bytes) = if version == 0 then markers_at (suc (length bytes)) (length bytes) bytes else Err
    (BadVersion version)
