-- How a marker rewrites.
use Rattle.std.specs.Prelude.{◌==◌, codes, length, if◌then◌else◌}
use Rattle.std.specs.FinMap as finite
use Rattle.std.specs.Option.{option_map_or}
use Rattle.std.specs.Str.{bytes_eq}
use Rattle.hg_marker.specs.Fields.{Fields}
use Rattle.hg_log.specs.Drawings.{Text}

-- the word for an operation that puts one changeset in place of another, where Mercurial, evolve or a script has one
abbrev pub word_of : Text → Text
word_of operation =
    if bytes_eq operation (codes "amend") then codes "amended"
    else if bytes_eq operation (codes "fold") then codes "folded"
    else if bytes_eq operation (codes "relocate") then codes "relocated"
    else if bytes_eq operation (codes "rebase") then codes "rebased"
    else if bytes_eq operation (codes "evolve") then codes "evolved"
    else if bytes_eq operation (codes "uncommit") then codes "uncommitted"
    else if bytes_eq operation (codes "absorb") then codes "absorbed"
    else codes "rewritten"

-- as it notes, where one changeset takes the place of its predecessor
abbrev pub rewriting_of : Fields → Text
rewriting_of m =
    if length m.successors == 0 then codes "pruned"
    else if length m.successors == 1
    then option_map_or word_of (finite.get m.metadata (codes "operation")) (codes "rewritten")
    else codes "split"
