-- Placed nodes that are picked from an ascending list.
use Rattle.std.specs.Prelude.{Bool, true, false, List, slice_get, Option, Some, None, ◌&&◌}
use Rattle.hg_discovery.specs.declared.finding.Finding.{Finding}
use Rattle.hg_discovery.specs.declared.finding.Finding.TheVariants.{Undecided, Common, Missing}
use Rattle.hg_discovery.specs.declared.finding.PlacedNode.{PlacedNode}

abbrev pub same_decided : Finding → Finding → Bool
same_decided Undecided Undecided = true
same_decided Undecided Common = false
same_decided Undecided Missing = false
same_decided Common Undecided = false
same_decided Common Common = true
same_decided Common Missing = false
same_decided Missing Undecided = false
same_decided Missing Common = false
same_decided Missing Missing = true

abbrev pub is_decided : Option Finding → Finding → Bool
is_decided None d = false
is_decided (Some e) d = same_decided e d

abbrev pub is_mark : Option Bool → Bool → Bool
is_mark None b = false
is_mark (Some true) b = b
is_mark (Some false) true = false
is_mark (Some false) false = true

-- the place is decided so, and marked so
abbrev pub is_picked : List Finding → List Bool → Finding → Bool → PlacedNode → Bool
is_picked ds marks d covered x = is_decided (slice_get ds x.place) d && is_mark (slice_get marks x.place) covered
