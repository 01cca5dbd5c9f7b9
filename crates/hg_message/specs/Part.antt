-- The part of a message: what a replica takes in of it.
use Rattle.std.specs.Prelude.{List, ◌++◌, map}
use Rattle.hg_changeset.specs.declared.node.Node.{Node}
use Rattle.hg_changeset.specs.Contents.{Contents}
use Rattle.hg_changeset.specs.Changeset.{node_of}
use Rattle.hg_phases.specs.declared.phase.Phase.{Phase}
use Rattle.hg_phases.specs.declared.phase.Phase.TheVariants.{Draft}
use Rattle.hg_replica.specs.Least.{PartValue}
use Rattle.hg_message.specs.Value.{MessageValue}

-- what is passed on is no longer secret: a draft bound for each changeset
abbrev pub draft_bounds : List Contents → List (Node × Phase)
draft_bounds changesets = map (λ c. (node_of c, Draft)) changesets

-- the changesets, the bounds and then a draft bound for each changeset, and the markers
abbrev pub part_of : MessageValue → PartValue
part_of m = record {
  history = record { changesets = m.changesets; bounds = m.bounds ++ draft_bounds m.changesets };
  markers = m.markers;
}
